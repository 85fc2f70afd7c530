-- A study, and the study of a text or why there is none.
use Rattle.std.specs.Prelude.{◌≡◌, ℕ, ◌+◌, not, true, if◌then◌else◌, nat_lt, List, length, All, Option, Some, None, is_some, option_map, Result, Ok, Err, position, filter_map}
use Rattle.hyper_model.specs.declared.kinds.Measure.{Measure}
use Rattle.hyper_model.specs.Measures.{is_of_region, measure_named}
use Rattle.hyper_model.specs.Plans.{IsBetween}
use Rattle.outer_world.specs.declared.shelf.TheConstants.{MOST_SHELF_NAME_BYTES}
use Rattle.plan_text.specs.Fields.{is_within}
use Rattle.plan_text.specs.Steps.{◌>>=◌, unless_refused}
use Rattle.plan_compare.specs.Documents.{StudyTexts, texts_in}
use Rattle.plan_compare.specs.declared.study.TheConstants.{LEAST_PLANS, MOST_COMPARED_MEASURES, MOST_PLANS, MOST_STUDY_BYTES}
use Rattle.plan_compare.specs.declared.refusal.StudyRefusal.{StudyRefusal}
use Rattle.plan_compare.specs.declared.refusal.StudyRefusal.TheVariants as refusal

-- what contracts see of a study: the names of its plans, and the measures by which they are compared
pub record StudyParts : Type 0 where
  pub plans : List (List ℕ)
  pub measures : List Measure

-- 2 to 16 plans, whose names have 1 to 255 bytes, and 1 to 16 measures of the whole region
pub record IsStudy (study : StudyParts) : Type 0 where
  pub plan_number : IsBetween LEAST_PLANS MOST_PLANS (length study.plans)
  pub named : All (λ name. IsBetween 1 MOST_SHELF_NAME_BYTES (length name)) study.plans
  pub measure_number : IsBetween 1 MOST_COMPARED_MEASURES (length study.measures)
  pub of_region : All (λ m. is_of_region m ≡ true) study.measures

-- the place of the first word that names no measure, counted from 0
abbrev pub unknown_place : List (List ℕ) → Option ℕ
unknown_place words = position (λ word. not (is_some (measure_named word))) words

-- the refusal of this word, which counts from 1
abbrev pub unknown_refusal : List (List ℕ) → Option StudyRefusal
unknown_refusal words = option_map (λ place. refusal.UnknownMeasure (place + 1)) (unknown_place words)

-- there have to be 2 to 16 plans, and each word has to name a measure
abbrev pub texts_refusal : StudyTexts → Option StudyRefusal
texts_refusal texts =
    if is_within LEAST_PLANS MOST_PLANS (length texts.names) then unknown_refusal texts.words
    else Some (refusal.PlanCount (length texts.names))

abbrev pub parts_of : StudyTexts → StudyParts
parts_of texts = record { plans = texts.names; measures = filter_map measure_named texts.words }

-- the study of the texts in a document
abbrev pub study_of_texts : StudyTexts → Result StudyParts StudyRefusal
study_of_texts texts = unless_refused (texts_refusal texts) >>= λ _. Ok (parts_of texts)

abbrev pub study_of_document : Option StudyTexts → Result StudyParts StudyRefusal
study_of_document None = Err refusal.BadStudy
study_of_document (Some texts) = study_of_texts texts

-- the study of a text of at most 4,194,304 bytes
unfoldable pub study_of : List ℕ → Result StudyParts StudyRefusal
study_of bytes =
    if nat_lt MOST_STUDY_BYTES (length bytes) then Err (refusal.StudyTooLong (length bytes))
    else study_of_document (texts_in bytes)
