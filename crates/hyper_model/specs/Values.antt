-- The ends that a plan's list of measures has for a measure.
use Rattle.std.specs.Prelude.{Bool, if◌then◌else◌, List, [], ◌∷◌, Option, Some, None, unwrap_or}
use Rattle.hyper_model.specs.contracts.kinds.MeasurePartialEq.TheImpl as derived
use Rattle.hyper_model.specs.declared.kinds.Enclosed.{Enclosed}
use Rattle.hyper_model.specs.declared.kinds.Found.{Found}
use Rattle.hyper_model.specs.declared.kinds.Found.TheVariants as found
use Rattle.hyper_model.specs.declared.kinds.Measure.{Measure}
use Rattle.hyper_model.specs.declared.values.Value.{Value}

-- the `==` of measures
abbrev pub is_same : Measure → Measure → Bool
is_same a b = derived.eq-value.it a b

abbrev pub zero_value : Value
zero_value = record { lo = 0; hi = 0 }

abbrev pub ends_of : Found → Option Value
ends_of (found.Ends lo hi) = Some (record { lo = lo; hi = hi })
ends_of found.Without = None

-- what an item says of a measure: its ends, if it is of this measure
abbrev pub value_of : Measure → Enclosed → Option Value
value_of m e = if is_same e.measure m then ends_of e.found else None

-- the ends of the first item that says some, or 0 and 0 if none does, as the plan's line has no such measure
abbrev pub value_in : Measure → List Enclosed → Value
value_in m [] = zero_value
value_in m (e ∷ items) = unwrap_or (value_of m e) (value_in m items)
