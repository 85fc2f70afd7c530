-- The text of a replayed day beside what the model says.
use Rattle.std.specs.Prelude.{ℕ, Bool, if◌then◌else◌, List, [], ◌∷◌, ◌++◌, length, map, slice_index, Option, Some, None, codes, unwrap_or}
use Rattle.std.specs.List.{flat_map, range_with_len}
use Rattle.hyper_model.specs.Grid.{cell}
use Rattle.hyper_model.specs.Measures.{scale_of}
use Rattle.hyper_model.specs.Plans.{atoms, units}
use Rattle.hyper_model.specs.contracts.kinds.MeasurePartialEq.TheImpl as derived
use Rattle.hyper_model.specs.declared.kinds.Enclosed.{Enclosed}
use Rattle.hyper_model.specs.declared.kinds.Found.{Found}
use Rattle.hyper_model.specs.declared.kinds.Found.TheVariants as found
use Rattle.hyper_model.specs.declared.kinds.Line.{Line}
use Rattle.hyper_model.specs.declared.kinds.Line.TheVariants as line
use Rattle.hyper_model.specs.declared.kinds.Measure.{Measure}
use Rattle.hyper_model.specs.declared.kinds.Measure.TheVariants as measure
use Rattle.hyper_model.specs.declared.parts.PlanParts.{PlanParts}
use Rattle.report_text.specs.Labels.{atom_field, unit_field}
use Rattle.report_text.specs.Rows.{found_bytes}
use Rattle.text_lines.specs.Fields.{count_row, number_field}
use Rattle.day_replay.specs.Played.{PlayedDay}
use Rattle.day_replay.specs.declared.played_list.Send.{Send}

-- the `==` of measures
abbrev pub is_measure : Measure → Measure → Bool
is_measure a b = derived.eq-value.it a b

-- what an item says of a measure, if it is of this measure
abbrev pub said_of : Measure → Enclosed → Option Found
said_of m e = if is_measure e.measure m then Some e.found else None

-- what the first item of a measure says of it
abbrev pub found_of : Measure → List Enclosed → Found
found_of m [] = found.Without
found_of m (e ∷ items) = unwrap_or (said_of m e) (found_of m items)

-- a comma and the ends that a plan's list has for a measure
abbrev pub model_field : List Enclosed → Measure → List ℕ
model_field items m = codes "," ++ found_bytes (scale_of m) (found_of m items)

-- what becomes of the calls that no unit is sent to
abbrev pub unanswered_word : Line → List ℕ
unanswered_word line.Zero = codes "lost"
unanswered_word line.Infinite = codes "waiting"

abbrev pub send_row : PlanParts → Send → List ℕ
send_row p s = codes "send" ++ number_field s.call ++ unit_field p s.unit ++ codes "\n"

abbrev pub dispatch_row : PlanParts → PlayedDay → List Enclosed → ℕ → ℕ → List ℕ
dispatch_row p played items n j =
    codes "dispatch" ++ unit_field p n ++ atom_field p j ++ number_field (cell played.dispatched n j)
    ++ model_field items (measure.Dispatch n j) ++ codes "\n"

abbrev pub dispatch_rows : PlanParts → PlayedDay → List Enclosed → ℕ → List ℕ
dispatch_rows p played items n = flat_map (dispatch_row p played items n) (range_with_len 0 (atoms p))

abbrev pub busy_row : PlanParts → PlayedDay → List Enclosed → ℕ → List ℕ
busy_row p played items n =
    codes "busy" ++ unit_field p n ++ number_field (slice_index played.busy n)
    ++ model_field items (measure.Workload n) ++ codes "\n"

-- how many calls there were, and how many were answered
abbrev pub total_rows : PlanParts → PlayedDay → List ℕ
total_rows p played =
    count_row (codes "calls") played.calls
    ++ count_row (codes "answered") (length played.sends)
    ++ count_row (unanswered_word p.line) played.unanswered

unfoldable pub replay_bytes : PlanParts → PlayedDay → List Enclosed → List ℕ
replay_bytes p played items =
    count_row (codes "replay") 1
    ++ total_rows p played
    ++ flat_map (send_row p) played.sends
    ++ flat_map (dispatch_rows p played items) (range_with_len 0 (units p))
    ++ flat_map (busy_row p played items) (range_with_len 0 (units p))
    ++ codes "end\n"

-- the measures of which it prints ends, each with what is found of it
abbrev pub item_of : List Enclosed → Measure → Enclosed
item_of items m = record { measure = m; found = found_of m items }

abbrev pub dispatch_items : PlanParts → List Enclosed → ℕ → List Enclosed
dispatch_items p items n = map (λ j. item_of items (measure.Dispatch n j)) (range_with_len 0 (atoms p))

abbrev pub printed_items : PlanParts → List Enclosed → List Enclosed
printed_items p items =
    flat_map (dispatch_items p items) (range_with_len 0 (units p))
    ++ map (λ n. item_of items (measure.Workload n)) (range_with_len 0 (units p))
