use Rattle.std.specs.Prelude.{ℕ, ◌≡◌, List, take, Option, None, Some}
use Rattle.std.specs.Option.{option_map}
use Rattle.outer_world.specs.Shelf.{text_named}
use Rattle.outer_world.specs.declared.named_text.NamedText.{NamedText}
use Rattle.outer_world.specs.declared.read.TheConstants.{MOST_BYTES}

-- what is read of a text: all of it, or the most bytes that are read
abbrev pub taken : List ℕ → List ℕ
taken text = take MOST_BYTES text

-- if the texts are known, one has this name, and this is what is read of the first of them
abbrev pub IsTaken : Option (List NamedText) → List ℕ → List ℕ → Type 0
IsTaken None name read = Unit {0}
IsTaken (Some texts) name read = option_map taken (text_named texts name) ≡ Some read
