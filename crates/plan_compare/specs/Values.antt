-- The values of the measures of several plans.
use Rattle.std.specs.Prelude.{ℕ, List, [], slice_index_or}
use Rattle.hyper_model.specs.Enclosures.{EnclosureList}
use Rattle.hyper_model.specs.Values.{value_in}
use Rattle.hyper_model.specs.declared.kinds.Enclosed.{Enclosed}
use Rattle.hyper_model.specs.declared.kinds.Measure.{Measure}
use Rattle.hyper_model.specs.declared.values.Value.{Value}

abbrev pub no_list : EnclosureList
no_list = record { items = []; spare = 0 }

-- the list of the plan at this place, counted from 0
abbrev pub list_at : List EnclosureList → ℕ → List Enclosed
list_at found place = (slice_index_or found place no_list).items

abbrev pub value_at : List EnclosureList → Measure → ℕ → Value
value_at found m place = value_in m (list_at found place)
