-- The text of a made plan, and of which there is one.
use Rattle.std.specs.Prelude.{ℕ, ◌*◌, ◌≤◌, List, ◌++◌}
use Rattle.std.specs.List.{flat_map, range_with_len}
use Rattle.plan_maker.specs.declared.making.TheConstants.{LEAST_MADE_UNITS, MOST_MADE_UNITS, MOST_PLAN_NUMBER}
use Rattle.plan_maker.specs.declared.atoms.DrawnAtom.{DrawnAtom}
use Rattle.plan_maker.specs.Draws.{drawn_atoms}
use Rattle.plan_maker.specs.Rows.{head_rows, unit_row, atom_row, travel_row, location_rows}

-- there are plans of these numbers of units, from these numbers
pub record IsMakeable (units number : ℕ) : Type 0 where
  pub least : LEAST_MADE_UNITS ≤ units
  pub most : units ≤ MOST_MADE_UNITS
  pub in_range : number ≤ MOST_PLAN_NUMBER

abbrev pub unit_rows : ℕ → List ℕ
unit_rows units = flat_map unit_row (range_with_len 1 units)

abbrev pub atom_rows : ℕ → List DrawnAtom → List ℕ
atom_rows units atoms = flat_map (atom_row units) atoms

-- from each atom to each, also to itself
abbrev pub travel_rows : List DrawnAtom → List ℕ
travel_rows atoms = flat_map (λ from. flat_map (travel_row from) atoms) atoms

abbrev pub all_location_rows : ℕ → List ℕ
all_location_rows units = flat_map (location_rows units) (range_with_len 1 units)

-- a plan has four atoms for each unit
unfoldable pub plan_bytes : ℕ → ℕ → List ℕ
plan_bytes units number =
    head_rows
    ++ unit_rows units
    ++ atom_rows units (drawn_atoms number (4 * units))
    ++ travel_rows (drawn_atoms number (4 * units))
    ++ all_location_rows units
