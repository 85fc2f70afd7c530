-- Which bytes are the text of a name.
use Rattle.std.proofs.Common.{◌≡◌, ℕ, List, false, inl, inr, arith}
use Rattle.std.specs.Str.{IsUtf8, is_utf8}
use Rattle.std.proofs.lemmas.Bool.{cases_Bool}
use Rattle.std.proofs.lemmas.Str.{IsUtf8-from_is_utf8}
use Rattle.hyper_model.specs.Name.{is_name}

-- what is no UTF-8 fails the test
pub no_utf8 : (bytes : List ℕ) → (IsUtf8 bytes → ⊥) → is_utf8 bytes ≡ false
no_utf8 bytes none = elim (cases_Bool (is_utf8 bytes)) [
  | inl is_text ↦ absurd (none (IsUtf8-from_is_utf8 bytes is_text))
  | inr is_none ↦ is_none
]

-- what is no UTF-8 is no name
pub no_text : (bytes : List ℕ) → (IsUtf8 bytes → ⊥) → is_name bytes ≡ false
no_text bytes none = grind (arith, no_utf8 bytes none)
