-- The number by which a refusal is reported, and its arguments in order.
use Rattle.std.specs.Prelude.{ℕ, [], ◌∷◌, Some, None}
use Rattle.text_lines.specs.declared.refusal_code.RefusalCode.{RefusalCode}

abbrev pub plain : ℕ → RefusalCode
plain number = record { number = number; arguments = None ∷ None ∷ [] }

abbrev pub of_one : ℕ → ℕ → RefusalCode
of_one number argument = record { number = number; arguments = Some argument ∷ None ∷ [] }

abbrev pub of_two : ℕ → ℕ → ℕ → RefusalCode
of_two number first second = record { number = number; arguments = Some first ∷ Some second ∷ [] }
