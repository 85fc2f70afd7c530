-- The records of a made plan, a row each.
use Rattle.std.specs.Prelude.{ℕ, ◌+◌, ◌/◌, ◌%◌, List, ◌++◌, codes, decimal}
use Rattle.std.specs.Int.{abs_diff}
use Rattle.text_lines.specs.Fields.{number_field}
use Rattle.plan_maker.specs.declared.atoms.DrawnAtom.{DrawnAtom}

-- the units are U1, U2 and so on
abbrev pub unit_name : ℕ → List ℕ
unit_name n = codes "U" ++ decimal n

-- and the atoms A1, A2 and so on
abbrev pub atom_name : ℕ → List ℕ
atom_name j = codes "A" ++ decimal j

-- the first atom has the place 0
abbrev pub name_of : DrawnAtom → List ℕ
name_of atom = atom_name (atom.place + 1)

abbrev pub head_rows : List ℕ
head_rows = codes "version,1\nline,zero\nrule,modified\nperiod,3600\n"

-- a unit serves 20 calls per period
abbrev pub unit_row : ℕ → List ℕ
unit_row n = codes "unit," ++ unit_name n ++ codes ",20\n"

-- the atoms are in the districts of the units in turn
abbrev pub district_of : ℕ → DrawnAtom → ℕ
district_of units atom = 1 + atom.place % units

-- the fields of an atom's rate and point
abbrev pub atom_numbers : DrawnAtom → List ℕ
atom_numbers atom = number_field atom.rate ++ number_field atom.x ++ number_field atom.y

abbrev pub atom_row : ℕ → DrawnAtom → List ℕ
atom_row units atom =
    codes "atom,"
    ++ name_of atom
    ++ atom_numbers atom
    ++ codes ","
    ++ unit_name (district_of units atom)
    ++ codes "\n"

-- a minute, and a second for each ten of the way along the streets, rounded down
abbrev pub travel_seconds : DrawnAtom → DrawnAtom → ℕ
travel_seconds from to = 60 + (abs_diff from.x to.x + abs_diff from.y to.y) / 10

abbrev pub travel_row : DrawnAtom → DrawnAtom → List ℕ
travel_row from to =
    codes "travel,"
    ++ name_of from
    ++ codes ","
    ++ name_of to
    ++ number_field (travel_seconds from to)
    ++ codes "\n"

-- of its free time, a unit spends so many thousandths at an atom
abbrev pub at_row : ℕ → ℕ → ℕ → List ℕ
at_row n j thousandths =
    codes "at," ++ unit_name n ++ codes "," ++ atom_name j ++ number_field thousandths ++ codes "\n"

-- a unit spends it at the first two atoms of its district
abbrev pub location_rows : ℕ → ℕ → List ℕ
location_rows units n = at_row n n 700 ++ at_row n (n + units) 300
