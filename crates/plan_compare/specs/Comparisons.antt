-- The text of a comparison, and which value is too wide for one.
use Rattle.std.specs.Prelude.{◌≡◌, ℕ, ◌+◌, List, ◌++◌, length, map, Option, Some, None, option_map, codes, find, Bool}
use Rattle.std.specs.List.{flat_map, range_with_len, zip}
use Rattle.hyper_model.specs.Enclosures.{EnclosureList}
use Rattle.hyper_model.specs.Measures.{scale_of, word_of}
use Rattle.hyper_model.specs.declared.kinds.Found.TheVariants as found
use Rattle.hyper_model.specs.declared.kinds.Measure.{Measure}
use Rattle.text_lines.specs.Fields.{count_row, number_field, text_field}
use Rattle.text_lines.specs.Fractions.{ends_bytes}
use Rattle.report_text.specs.TooWide.{is_wide}
use Rattle.report_text.specs.declared.ending.Widths.{Widths}
use Rattle.plan_compare.specs.Studies.{StudyParts}
use Rattle.plan_compare.specs.Values.{value_at}
use Rattle.plan_compare.specs.Verdicts.{PlanPair, pairs_of, verdict_of}
use Rattle.plan_compare.specs.declared.ending.CompareEnd.{CompareEnd}
use Rattle.plan_compare.specs.declared.ending.CompareEnd.TheVariants as end
use Rattle.hyper_model.specs.declared.values.Value.{Value}
use Rattle.plan_compare.specs.declared.verdict_list.Verdict.{Verdict}
use Rattle.plan_compare.specs.declared.verdict_list.Verdict.TheVariants as verdict

-- a comma and a place, which is counted from 1 in the text
abbrev pub place_field : ℕ → List ℕ
place_field place = number_field (place + 1)

abbrev pub value_row : Measure → ℕ → Value → List ℕ
value_row m place value =
    codes "value"
    ++ text_field (word_of m)
    ++ place_field place
    ++ codes ","
    ++ ends_bytes value.lo value.hi (scale_of m)
    ++ codes "\n"

abbrev pub verdict_name : Verdict → List ℕ
verdict_name verdict.Below = codes "below"
verdict_name verdict.Above = codes "above"
verdict_name verdict.NotSeparated = codes "not separated"

abbrev pub verdict_row : PlanPair → Verdict → List ℕ
verdict_row pair v =
    codes "verdict"
    ++ text_field (word_of pair.measure)
    ++ place_field pair.first
    ++ place_field pair.second
    ++ text_field (verdict_name v)
    ++ codes "\n"

-- a row for each pair with its verdict
abbrev pub verdict_rows : List PlanPair → List Verdict → List ℕ
verdict_rows pairs verdicts = flat_map (λ x. verdict_row x.0 x.1) (zip pairs verdicts)

-- a row for the value of each plan
abbrev pub value_row_at : List EnclosureList → Measure → ℕ → List ℕ
value_row_at found m place = value_row m place (value_at found m place)

abbrev pub value_rows : List EnclosureList → Measure → List ℕ
value_rows found m = flat_map (value_row_at found m) (range_with_len 0 (length found))

-- the values of all plans, and then the verdicts
abbrev pub measure_rows : List EnclosureList → Measure → List ℕ
measure_rows found m =
    value_rows found m
    ++ verdict_rows (pairs_of (length found) m) (map (verdict_of found) (pairs_of (length found) m))

abbrev pub comparison_bytes : StudyParts → List EnclosureList → List ℕ
comparison_bytes study found =
    codes "study,1\n"
    ++ count_row (codes "plans") (length study.plans)
    ++ flat_map (measure_rows found) study.measures
    ++ codes "end\n"

-- where a value stands: the place of its plan, and its measure
pub record ValuePlace : Type 0 where
  pub place : ℕ
  pub measure : Measure

abbrev pub places_in : List Measure → ℕ → List ValuePlace
places_in measures place = map (λ m. record { place = place; measure = m }) measures

-- those of all values of a study, plan by plan
abbrev pub value_places : StudyParts → List ValuePlace
value_places study = flat_map (places_in study.measures) (range_with_len 0 (length study.plans))

abbrev pub is_wide_value : Widths → Measure → Value → Bool
is_wide_value widths m value = is_wide widths (record { measure = m; found = found.Ends value.lo value.hi })

abbrev pub is_wide_at : Widths → List EnclosureList → ValuePlace → Bool
is_wide_at widths found at = is_wide_value widths at.measure (value_at found at.measure at.place)

abbrev pub end_at : List EnclosureList → ValuePlace → CompareEnd
end_at found at =
    end.TooWide (at.place + 1) at.measure (value_at found at.measure at.place).lo
    (value_at found at.measure at.place).hi

-- why there is no comparison: the first value that is too wide
abbrev pub first_wide_of : Widths → List EnclosureList → List ValuePlace → Option CompareEnd
first_wide_of widths found places = option_map (end_at found) (find (is_wide_at widths found) places)

-- the comparison ended so, or, if no value is too wide, for lack of memory
abbrev pub EndsBy : Option CompareEnd → CompareEnd → Type 0
EndsBy wide (end.TooWide place m lo hi) = wide ≡ Some (end.TooWide place m lo hi)
EndsBy wide end.NoMemory = wide ≡ None
