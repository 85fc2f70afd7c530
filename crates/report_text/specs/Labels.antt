-- The fields of a measure's row before its ends: its word, and the names of what it speaks of.
use Rattle.std.specs.Prelude.{ℕ, List, [], ◌++◌}
use Rattle.text_lines.specs.Fields.{text_field}
use Rattle.hyper_model.specs.Measures.{subject_of, word_of}
use Rattle.hyper_model.specs.Plans.{atom_name, unit_name}
use Rattle.hyper_model.specs.declared.kinds.Measure.{Measure}
use Rattle.hyper_model.specs.declared.kinds.Subject.{Subject}
use Rattle.hyper_model.specs.declared.kinds.Subject.TheVariants as subject
use Rattle.hyper_model.specs.declared.parts.PlanParts.{PlanParts}

-- a comma and a name
abbrev pub unit_field : PlanParts → ℕ → List ℕ
unit_field p n = text_field (unit_name p n)

abbrev pub atom_field : PlanParts → ℕ → List ℕ
atom_field p j = text_field (atom_name p j)

-- the names of what is spoken of; of a district, its unit's
abbrev pub subject_fields : PlanParts → Subject → List ℕ
subject_fields p subject.Region = []
subject_fields p (subject.Unit n) = unit_field p n
subject_fields p (subject.Atom j) = atom_field p j
subject_fields p (subject.UnitAndAtom n j) = unit_field p n ++ atom_field p j
subject_fields p (subject.District n) = unit_field p n

abbrev pub label_of : PlanParts → List ℕ → Subject → List ℕ
label_of p word about = word ++ subject_fields p about

abbrev pub label_bytes : PlanParts → Measure → List ℕ
label_bytes p m = label_of p (word_of m) (subject_of m)
