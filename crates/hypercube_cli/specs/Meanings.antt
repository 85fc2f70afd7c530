-- What a command means over the texts of a shelf.
use Rattle.std.specs.Prelude.{ℕ, Bool, if◌then◌else◌, List, [], Option, Some}
use Rattle.outer_world.specs.declared.named_text.NamedText.{NamedText}
use Rattle.hypercube_cli.specs.Endings.{Ending}

pub record Meaning : Type 1 where
  -- its endings over named texts
  pub ends : List NamedText → Ending → Type 0
  -- what is proved of the text that it writes if it ends well
  pub proves : List NamedText → List ℕ → Type 0
  -- the name of a fault is one that it asks the shelf for, as far as the shelf tells its texts
  pub asks : Option (List NamedText) → Option (List ℕ) → Type 0
  -- whether it reads any text
  pub reads : Bool

-- The texts over which it has its meaning, if they are told. What reads no text has the same meaning over all shelves.
abbrev pub texts_for : Meaning → Option (List NamedText) → Option (List NamedText)
texts_for meaning told = if meaning.reads then told else Some []
