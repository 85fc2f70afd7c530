use Rattle.std.specs.Prelude.{ℕ, ◌≡◌, ◌<◌, ◌≤◌, List, [], ◌∷◌, length, take, Option, None, Some, IsSome, if◌then◌else◌}
use Rattle.std.specs.Str.{bytes_eq}
use Rattle.std.specs.Io.KnownBytes.{Consumes, IsAtEnd, Keeps}
use Rattle.outer_world.specs.declared.named_text.NamedText.{NamedText}
use Rattle.outer_world.specs.declared.shelf.Opening.{Opening}
use Rattle.outer_world.specs.declared.shelf.Opening.TheVariants as opening
use Rattle.outer_world.specs.declared.shelf.Reading.{Reading}
use Rattle.outer_world.specs.declared.shelf.Reading.TheVariants as reading

-- the first text of this name
abbrev pub text_named : List NamedText → List ℕ → Option (List ℕ)
text_named [] name = None
text_named (text ∷ texts) name =
    if bytes_eq text.name name then Some text.bytes else text_named texts name

-- if the texts are known, one has this name, and the first of them is what is left to read
abbrev pub HoldsText : Option (List NamedText) → List ℕ → Option (List ℕ) → Type 0
HoldsText None name left = Unit {0}
HoldsText (Some texts) name left = IsSome left × (left ≡ text_named texts name)

-- if the texts are known, none has this name
abbrev pub LacksText : Option (List NamedText) → List ℕ → Type 0
LacksText None name = Unit {0}
LacksText (Some texts) name = text_named texts name ≡ None

-- what an answer to `open` says of the name that is open and of the bytes that are left
abbrev pub Opens : Option (List NamedText) → List ℕ → Opening → Option (List ℕ) → Option (List ℕ)
    → Type 0
Opens told name opening.Opened open_name left = (open_name ≡ Some name) × HoldsText told name left
Opens told name opening.Absent open_name left = (open_name ≡ None) × LacksText told name
Opens told name opening.Failed open_name left = open_name ≡ None
Opens told name opening.NoMemory open_name left = open_name ≡ None

-- nothing was open, or no byte was left and none is
abbrev pub Ends : Option (List ℕ) → Option (List ℕ) → Option (List ℕ) → Type 0
Ends None left_before left = Unit {0}
Ends (Some name) left_before left = IsAtEnd left_before × Keeps left_before left

-- what an answer to `read` says of the piece, of the open name and of the bytes that are left
abbrev pub Reads : Option (List ℕ) → Option (List ℕ) → Reading → List ℕ → Option (List ℕ)
    → Option (List ℕ) → Type 0
Reads name_before left_before (reading.Got n) piece name left =
    IsSome name_before × (name ≡ name_before)
    × (0 < n) × (n ≤ length piece) × Consumes left_before left (take n piece)
Reads name_before left_before reading.End piece name left =
    Ends name_before left_before left × (name ≡ name_before)
Reads name_before left_before reading.Failed piece name left = IsSome name_before × (name ≡ None)
