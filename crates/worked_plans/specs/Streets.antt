-- The text of so many units and two hundred atoms along a street. Places are counted from 0, and names from 1.
use Rattle.std.specs.Prelude.{ℕ, ◌+◌, ◌*◌, List, ◌++◌, codes, decimal}
use Rattle.std.specs.Int.{abs_diff}
use Rattle.std.specs.List.{flat_map, range_with_len}

-- a unit is at the atom of its number
abbrev pub street_unit_rows : ℕ → List ℕ
street_unit_rows n =
    codes "unit,U"
    ++ (decimal n ++ (codes ",150\nat,U" ++ (decimal n ++ (codes ",A" ++ (decimal n ++ codes ",1000\n")))))

-- the atoms are a hundred metres apart, all in the district of the first unit
abbrev pub street_atom_row : ℕ → List ℕ
street_atom_row place =
    codes "atom,A" ++ (decimal (place + 1) ++ (codes ",1," ++ (decimal place ++ codes "00,0,U1\n")))

-- half a minute, and seven seconds more for each hundred metres
abbrev pub street_trip_row : ℕ → ℕ → List ℕ
street_trip_row from to =
    codes "travel,A"
    ++ (decimal (from + 1)
    ++ (codes ",A" ++ (decimal (to + 1) ++ (codes "," ++ (decimal (30 + 7 * abs_diff from to) ++ codes "\n")))))

abbrev pub street_place_rows : ℕ → ℕ → List ℕ
street_place_rows atoms place = street_atom_row place ++ flat_map (street_trip_row place) (range_with_len 0 atoms)

unfoldable pub street_units : ℕ → List ℕ
street_units units = flat_map street_unit_rows (range_with_len 1 units)

unfoldable pub street_places : ℕ → List ℕ
street_places atoms = flat_map (street_place_rows atoms) (range_with_len 0 atoms)

unfoldable pub street_bytes : ℕ → List ℕ
street_bytes units = codes "rule,modified\n" ++ street_units units ++ street_places 200
