-- The single lines that stand in place of a text: a refusal, and a measure that is too wide.
use Rattle.std.specs.Prelude.{ℕ, List, [], ◌++◌, Option, Some, None, codes}
use Rattle.std.specs.List.{flat_map}
use Rattle.text_lines.specs.Fields.{number_field, text_field}
use Rattle.text_lines.specs.Fractions.{ends_bytes}
use Rattle.hypercube_cli.specs.Refusals.{fields_of}
use Rattle.hypercube_cli.specs.declared.refusal.Refusal.{Refusal}
use Rattle.hypercube_cli.specs.declared.refusal.RefusalFields.{RefusalFields}

abbrev pub argument_field : Option ℕ → List ℕ
argument_field None = []
argument_field (Some n) = number_field n

abbrev pub fields_line : RefusalFields → List ℕ
fields_line fields =
    codes "refused" ++ number_field fields.place ++ number_field fields.code.number
    ++ flat_map argument_field fields.code.arguments ++ codes "\n"

abbrev pub refusal_line : Refusal → List ℕ
refusal_line r = fields_line (fields_of r)

-- a measure of the text at this place, by the fields of its line, with the ends that lie too far apart, in digits of this scale
abbrev pub wide_line : List ℕ → ℕ → ℕ → ℕ → ℕ → List ℕ
wide_line label place scale lo hi =
    codes "toowide" ++ number_field place ++ text_field label ++ codes "," ++ ends_bytes lo hi scale ++ codes "\n"
