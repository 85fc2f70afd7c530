-- The text of the largest plan. Places are counted from 0, and names from 1.
use Rattle.std.specs.Prelude.{ℕ, ◌+◌, ◌%◌, List, ◌++◌, codes, decimal}
use Rattle.std.specs.List.{flat_map, range_with_len}

-- all units are at the first atom
abbrev pub wide_unit_rows : ℕ → List ℕ
wide_unit_rows n = codes "unit,U" ++ (decimal n ++ (codes ",20\nat,U" ++ (decimal n ++ codes ",A1,1000\n")))

-- the districts go round the units
abbrev pub wide_atom_row : ℕ → List ℕ
wide_atom_row place =
    codes "atom,A" ++ (decimal (place + 1) ++ (codes ",1,0,0,U" ++ (decimal (place % 12 + 1) ++ codes "\n")))

-- each trip takes a minute
abbrev pub wide_trip_row : ℕ → ℕ → List ℕ
wide_trip_row from to = codes "travel,A" ++ (decimal from ++ (codes ",A" ++ (decimal to ++ codes ",60\n")))

abbrev pub wide_place_rows : ℕ → ℕ → List ℕ
wide_place_rows atoms place = wide_atom_row place ++ flat_map (wide_trip_row (place + 1)) (range_with_len 1 atoms)

unfoldable pub wide_units : ℕ → List ℕ
wide_units units = flat_map wide_unit_rows (range_with_len 1 units)

unfoldable pub wide_places : ℕ → List ℕ
wide_places atoms = flat_map (wide_place_rows atoms) (range_with_len 0 atoms)

unfoldable pub widest_bytes : List ℕ
widest_bytes = codes "rule,modified\n" ++ wide_units 12 ++ wide_places 200
