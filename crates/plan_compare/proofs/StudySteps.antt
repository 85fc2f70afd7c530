-- The study of a text, step by step.
use Rattle.std.proofs.Common.{◌≡◌, ℕ, ◌<◌, ◌≤◌, ◌∙◌, ap, refl, arith, true, false, inl, inr, List, length, Some, None, Err}
use Rattle.std.specs.Prelude.{◌⊎◌, nat_lt}
use Rattle.std.specs.Str.{IsUtf8, is_utf8}
use Rattle.std.proofs.lemmas.Bool.{cases_Bool}
use Rattle.std.proofs.lemmas.Bool.Decides.{nat_tests}
use Rattle.std.proofs.lemmas.Str.{IsUtf8-from_is_utf8, is_utf8-from_IsUtf8}
use Rattle.toml.specs.Data.{Members}
use Rattle.toml.specs.Parse.{parse_document}
use Rattle.plan_compare.specs.Documents.{StudyTexts, texts_in, texts_of}
use Rattle.plan_compare.specs.Refusals.{IsRefused}
use Rattle.plan_compare.specs.Studies.{study_of, study_of_document, study_of_texts}
use Rattle.plan_compare.specs.declared.study.TheConstants.{MOST_STUDY_BYTES}
use Rattle.plan_compare.specs.declared.refusal.StudyRefusal.{StudyRefusal}
use Rattle.plan_compare.specs.declared.refusal.StudyRefusal.TheVariants as refusal

pub texts_in_document : (bytes : List ℕ) (table : Members) → IsUtf8 bytes → parse_document bytes ≡ Some table
    → texts_in bytes ≡ texts_of table
unfolding texts_in
texts_in_document bytes table text e = rw (is_utf8-from_IsUtf8 bytes text, e) refl

pub texts_in_none : (bytes : List ℕ) → (IsUtf8 bytes → parse_document bytes ≡ None) → texts_in bytes ≡ None
unfolding texts_in
texts_in_none bytes none = elim (cases_Bool (is_utf8 bytes)) [
  | inl text ↦ rw (text, none (IsUtf8-from_is_utf8 bytes text)) refl
  | inr no_text ↦ rw no_text refl
]

pub study_too_long : (bytes : List ℕ) → MOST_STUDY_BYTES < length bytes → study_of bytes ≡ Err (refusal.StudyTooLong (length bytes))
unfolding study_of
study_too_long bytes h = let long : nat_lt MOST_STUDY_BYTES (length bytes) ≡ true = grind (arith, nat_tests) in rw long refl

of_document : (bytes : List ℕ) → length bytes ≤ MOST_STUDY_BYTES → study_of bytes ≡ study_of_document (texts_in bytes)
unfolding study_of
of_document bytes h = let short : nat_lt MOST_STUDY_BYTES (length bytes) ≡ false = grind (arith, nat_tests) in rw short refl

pub study_of_some : (bytes : List ℕ) (texts : StudyTexts) → length bytes ≤ MOST_STUDY_BYTES → texts_in bytes ≡ Some texts
    → study_of bytes ≡ study_of_texts texts
study_of_some bytes texts h e = of_document bytes h ∙ ap study_of_document e

pub study_refused : (bytes : List ℕ) (e : StudyRefusal) → length bytes ≤ MOST_STUDY_BYTES → IsRefused (texts_in bytes) e
    → (e ≡ refusal.NoMemory) ⊎ (study_of bytes ≡ Err e)
study_refused bytes refusal.BadStudy h r = inr (of_document bytes h ∙ ap study_of_document r)
study_refused bytes (refusal.UnknownMeasure place) h r = absurd r
study_refused bytes (refusal.PlanCount count) h r = absurd r
study_refused bytes (refusal.StudyTooLong size) h r = absurd r
study_refused bytes refusal.NoMemory h r = inl refl
