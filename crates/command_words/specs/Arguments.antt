-- What each argument is, by how it is read, and the plain arguments and options of a command.
use Rattle.std.specs.Prelude.{◌≡◌, ℕ, Bool, true, false, if◌then◌else◌, List, [], ◌∷◌, ◌++◌, length, drop, eqb, map, Option, Some, None, Result, Ok, Err, codes}
use Rattle.std.specs.List.{starts_with}
use Rattle.std.specs.Option.{option_map}
use Rattle.std.specs.Str.{bytes_eq}
use Rattle.command_words.specs.Options.{◌>>=◌, setting_in}
use Rattle.command_words.specs.declared.command.WordsEnd.{WordsEnd}
use Rattle.command_words.specs.declared.command.WordsEnd.TheVariants as end
use Rattle.command_words.specs.declared.options.Key.{Key}
use Rattle.command_words.specs.declared.options.Key.TheVariants as key
use Rattle.command_words.specs.declared.options.Setting.{Setting}
use Rattle.command_words.specs.declared.options.Setting.TheVariants as setting
use Rattle.command_words.specs.declared.argument.Argument.{Argument}
use Rattle.command_words.specs.declared.argument.Argument.TheVariants as argument
use Rattle.command_words.specs.declared.argument.Mode.{Mode}
use Rattle.command_words.specs.declared.argument.Mode.TheVariants as mode
use Rattle.command_words.specs.declared.argument_lists.Arguments.{Arguments}

abbrev pub begins : List ℕ → List ℕ → Bool
begins begin text = starts_with eqb text begin

abbrev pub rest_after : List ℕ → List ℕ → List ℕ
rest_after begin text = drop (length begin) text

-- an option and its value
abbrev pub option_argument : Key → List ℕ → Option Argument
option_argument k value = option_map argument.Option (setting_in k value)

-- what is no name of an option: an option, `=` and its value, or a plain argument, which begins with no dash
unfoldable pub long_argument : List ℕ → Option Argument
long_argument text =
    if begins (codes "--width=") text then option_argument key.Width (rest_after (codes "--width=") text)
    else if begins (codes "--time-width=") text then option_argument key.TimeWidth (rest_after (codes "--time-width=") text)
    else if begins (codes "--workers=") text then option_argument key.Workers (rest_after (codes "--workers=") text)
    else if begins (codes "--method=") text then option_argument key.Method (rest_after (codes "--method=") text)
    else if begins (codes "-") text then None
    else Some argument.Plain

-- an argument where options may stand
unfoldable pub free_argument : List ℕ → Option Argument
free_argument text =
    if bytes_eq text (codes "--") then Some argument.Dashes
    else if bytes_eq text (codes "-") then Some argument.Plain
    else if bytes_eq text (codes "--summary") then Some (argument.Option setting.Summary)
    else if bytes_eq text (codes "--width") then Some (argument.Name key.Width)
    else if bytes_eq text (codes "--time-width") then Some (argument.Name key.TimeWidth)
    else if bytes_eq text (codes "--workers") then Some (argument.Name key.Workers)
    else if bytes_eq text (codes "--method") then Some (argument.Name key.Method)
    else long_argument text

abbrev pub argument_in : Mode → List ℕ → Option Argument
argument_in mode.Free text = free_argument text
argument_in (mode.Value k) text = option_argument k text
argument_in mode.Plain text = Some argument.Plain

-- how the next argument is read
abbrev pub mode_after : Mode → Argument → Mode
mode_after m argument.Plain = m
mode_after m (argument.Name k) = mode.Value k
mode_after m (argument.Option s) = mode.Free
mode_after m argument.Dashes = mode.Plain

-- no value has still to come
abbrev pub may_end : Mode → Bool
may_end (mode.Value k) = false
may_end m = true

-- plain arguments, and options, each in the order in which they stand
pub record ArgumentLists : Type 0 where
  pub plain : List (List ℕ)
  pub options : List Setting

abbrev pub concatenation : ArgumentLists → ArgumentLists → ArgumentLists
concatenation first second = record { plain = first.plain ++ second.plain; options = first.options ++ second.options }

-- what an argument adds to the others
abbrev pub lists_of_one : Argument → List ℕ → ArgumentLists
lists_of_one argument.Plain text = record { plain = text ∷ []; options = [] }
lists_of_one (argument.Option s) text = record { plain = []; options = s ∷ [] }
lists_of_one a text = record { plain = []; options = [] }

-- what arguments say of which the first is read so, and each other as the one before it says
unfoldable pub lists_from : Mode → List (List ℕ) → Option ArgumentLists
lists_from m [] = if may_end m then Some (record { plain = []; options = [] }) else None
lists_from m (text ∷ texts) = do
  a ← argument_in m text
  lists ← lists_from (mode_after m a) texts
  Some (concatenation (lists_of_one a text) lists)

abbrev pub lists_of : List (List ℕ) → Option ArgumentLists
lists_of words = lists_from mode.Free words

abbrev pub lists_in : Arguments → ArgumentLists
lists_in arguments = record { plain = map (λ text. text.now) arguments.plain.items; options = arguments.options.items }

-- the arguments were read so, or there was no memory
abbrev pub Reads : List (List ℕ) → Result Arguments WordsEnd → Type 0
Reads words (Ok arguments) = lists_of words ≡ Some (lists_in arguments)
Reads words (Err end.NoCommand) = lists_of words ≡ None
Reads words (Err end.NoMemory) = Unit {0}
