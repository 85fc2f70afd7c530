-- The text of eight units and forty atoms on a grid, eight to a row. Places are counted from 0, and names from 1.
use Rattle.std.specs.Prelude.{ℕ, ◌+◌, ◌*◌, ◌/◌, ◌%◌, List, [], ◌∷◌, ◌++◌, codes, decimal}
use Rattle.std.specs.Int.{abs_diff}
use Rattle.std.specs.List.{flat_map, range_with_len}

-- the blocks from place to place, along the streets
abbrev pub blocks : ℕ → ℕ → ℕ
blocks from to = abs_diff (from % 8) (to % 8) + abs_diff (from / 8) (to / 8)

-- of its free time, a unit spends so many thousandths at an atom
abbrev pub at_row : ℕ → ℕ → ℕ → List ℕ
at_row unit atom thousandths =
    codes "at,M"
    ++ (decimal unit
    ++ (codes ",Z" ++ (decimal atom ++ (codes "," ++ (decimal thousandths ++ codes ",,,,,\r\n")))))

-- the unit of a column is at the middle atom of it and at those beside that
abbrev pub column_unit_rows : ℕ → List ℕ
column_unit_rows unit =
    codes "unit,M"
    ++ (decimal unit ++ codes ",60,,,,,,\r\n")
    ++ at_row unit (unit + 16) 600
    ++ at_row unit (unit + 8) 200
    ++ at_row unit (unit + 24) 200

-- the atoms of a column are in the district of its unit, a thousand metres apart
abbrev pub grid_atom_row : ℕ → List ℕ
grid_atom_row place =
    codes "atom,Z"
    ++ (decimal (place + 1)
    ++ (codes ",6,"
    ++ (decimal (place % 8)
    ++ (codes "000,"
    ++ (decimal (place / 8) ++ (codes "000,M" ++ (decimal (place % 8 + 1) ++ codes ",,,\r\n")))))))

-- two minutes, and one more for each block
abbrev pub grid_trip_row : ℕ → ℕ → List ℕ
grid_trip_row from to =
    codes "travel,Z"
    ++ (decimal (from + 1)
    ++ (codes ",Z"
    ++ (decimal (to + 1) ++ (codes "," ++ (decimal (120 + 60 * blocks from to) ++ codes ",,,,,\r\n")))))

abbrev pub grid_place_rows : ℕ → ℕ → List ℕ
grid_place_rows atoms place = grid_atom_row place ++ flat_map (grid_trip_row place) (range_with_len 0 atoms)

unfoldable pub column_units : ℕ → List ℕ
column_units units = flat_map column_unit_rows (range_with_len 1 units)

unfoldable pub grid_places : ℕ → List ℕ
grid_places atoms = flat_map (grid_place_rows atoms) (range_with_len 0 atoms)

abbrev pub byte_order_mark : List ℕ
byte_order_mark = 239 ∷ 187 ∷ 191 ∷ []

unfoldable pub grid_bytes : List ℕ
grid_bytes =
    byte_order_mark
    ++ codes "version,1,,,,,,,\r\nline,zero,,,,,,,\r\nrule,modified,,,,,,,\r\nperiod,432000,,,,,,,\r\n"
    ++ column_units 8
    ++ grid_places 40
