-- What plain arguments say: the name of a file or of a unit, and a number in a range.
use Rattle.std.specs.Prelude.{ℕ, ◌&&◌, if◌then◌else◌, List, [], ◌∷◌, length, nat_le, Option, Some, None}
use Rattle.text_lines.specs.Numbers.{number_in}
use Rattle.command_words.specs.Options.{◌>>=◌, options_of}
use Rattle.command_words.specs.declared.options.Options.{Options}
use Rattle.command_words.specs.declared.options.Setting.{Setting}

-- 1 byte to so many
abbrev pub text_in : ℕ → List ℕ → Option (List ℕ)
text_in most text = if nat_le 1 (length text) && nat_le (length text) most then Some text else None

-- the name of a file
abbrev pub name_in : List ℕ → Option (List ℕ)
name_in text = text_in 255 text

-- the name of a unit
abbrev pub unit_in : List ℕ → Option (List ℕ)
unit_in text = text_in 32 text

-- a number of so many digits at most, in a range
abbrev pub number_within : ℕ → ℕ → ℕ → List ℕ → Option ℕ
number_within digits least most text = do
  number ← number_in digits text
  if nat_le least number && nat_le number most then Some number else None

-- one file, and what the options ask for together
unfoldable pub file_with_options : List (List ℕ) → List Setting → Option (List ℕ × Options)
file_with_options (file ∷ []) settings = do
  options ← options_of settings
  name ← name_in file
  Some (name, options)
file_with_options names settings = None

-- one file and such a number
unfoldable pub file_with_number : ℕ → ℕ → ℕ → List (List ℕ) → Option (List ℕ × ℕ)
file_with_number digits least most (file ∷ text ∷ []) = do
  number ← number_within digits least most text
  name ← name_in file
  Some (name, number)
file_with_number digits least most names = None
