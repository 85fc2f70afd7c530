-- how the code keeps an atom's list: twelve places, of which the first are in use
use Rattle.std.specs.Prelude.{◌≡◌, ℕ, ◌≤◌, List, length, map, All, take}
use Rattle.hyper_model.specs.declared.TheConstants.{MOST_UNITS, MOST_ATOMS}
use Rattle.hyper_model.specs.declared.preference.ListRow.{ListRow}
use Rattle.hyper_model.specs.Groups.{AtomList, GroupLists}

abbrev pub used_part : ℕ → ListRow → AtomList
used_part units row = record { members = take units row.members; begins = take units row.begins }

abbrev pub lists_seen : ℕ → List ListRow → GroupLists
lists_seen units rows = record { units = units; rows = map (used_part units) rows }

pub record IsRoomy (units : ℕ) (rows : List ListRow) : Type 0 where
  pub few_units : units ≤ MOST_UNITS
  pub few_rows : length rows ≤ MOST_ATOMS
  pub members : All (λ row. length row.members ≡ MOST_UNITS) rows
  pub begins : All (λ row. length row.begins ≡ MOST_UNITS) rows
