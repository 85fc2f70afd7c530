-- The command that the arguments of the program give.
use Rattle.std.specs.Prelude.{◌≡◌, ℕ, ◌≤◌, true, if◌then◌else◌, List, [], ◌∷◌, Option, Some, None, Result, Ok, Err, codes, find}
use Rattle.std.specs.List.{list_all}
use Rattle.std.specs.Str.{bytes_eq}
use Rattle.hyper_model.specs.Measures.{is_of_region, word_of}
use Rattle.hyper_model.specs.Plans.{IsBetween}
use Rattle.hyper_model.specs.declared.kinds.Measure.{Measure}
use Rattle.hyper_model.specs.declared.kinds.Measure.TheVariants as measure
use Rattle.text_lines.specs.Numbers.{number_in}
use Rattle.command_words.specs.Options.{◌>>=◌, AreWorkers, is_of_report}
use Rattle.command_words.specs.Arguments.{lists_of}
use Rattle.command_words.specs.Limits.{limits_in}
use Rattle.command_words.specs.Plain.{file_with_number, file_with_options, name_in, unit_in}
use Rattle.command_words.specs.declared.command.Command.{Command}
use Rattle.command_words.specs.declared.command.Command.TheVariants.{Solve, Compare, Make, Finite, Pairs, Sweep, Replay, Reach, Fleet}
use Rattle.command_words.specs.declared.command.WordsEnd.{WordsEnd}
use Rattle.command_words.specs.declared.command.WordsEnd.TheVariants as end
use Rattle.command_words.specs.declared.options.Setting.{Setting}

abbrev pub usage_line : List ℕ
usage_line = codes "usage: hypercube solve FILE | compare STUDY | make UNITS NUMBER | finite FILE PLACES | pairs FILE PERCENT | sweep FILE UNIT MEASURE | replay FILE DAY [--width W] [--time-width W] [--workers N] [--summary]\n"

-- one file, and all options may be given
unfoldable pub solve_of : List (List ℕ) → List Setting → Option Command
solve_of names settings = do
  given ← file_with_options names settings
  Some (Solve given.0 given.1.widths given.1.workers given.1.summary given.1.method)

-- one file, and all options but the flag
unfoldable pub compare_of : List (List ℕ) → List Setting → Option Command
compare_of names settings = do
  given ← file_with_options names settings
  if given.1.summary then None else Some (Compare given.0 given.1.widths given.1.workers given.1.method)

-- one file, and the options of a report may be given
unfoldable pub fleet_of : List (List ℕ) → List Setting → Option Command
fleet_of names settings =
    if list_all is_of_report settings then (do
      given ← file_with_options names settings
      Some (Fleet given.0 given.1.widths given.1.summary))
    else None

-- two numbers of 1 to 18 digits
unfoldable pub make_of : List (List ℕ) → Option Command
make_of (units ∷ number ∷ []) = do
  u ← number_in 18 units
  n ← number_in 18 number
  Some (Make u n)
make_of numbers = None

-- one file and 1 to 1000 waiting places
unfoldable pub finite_of : List (List ℕ) → Option Command
finite_of names = do
  given ← file_with_number 4 1 1000 names
  Some (Finite given.0 given.1)

-- one file and up to a hundred calls in a hundred
unfoldable pub pairs_of : List (List ℕ) → Option Command
pairs_of names = do
  given ← file_with_number 3 0 100 names
  Some (Pairs given.0 given.1)

-- the measures by which sites are compared
abbrev pub site_measures : List Measure
site_measures = measure.Loss ∷ measure.Delay ∷ measure.Interdistrict ∷ measure.Travel ∷ []

abbrev pub site_measure : List ℕ → Option Measure
site_measure word = find (λ m. bytes_eq word (word_of m)) site_measures

-- a file, a unit and a measure
unfoldable pub sweep_of : List (List ℕ) → Option Command
sweep_of (file ∷ unit ∷ word ∷ []) = do
  m ← site_measure word
  name ← name_in file
  u ← unit_in unit
  Some (Sweep name u m)
sweep_of names = None

-- two files
unfoldable pub replay_of : List (List ℕ) → Option Command
replay_of (file ∷ day ∷ []) = do
  plan ← name_in file
  recorded ← name_in day
  Some (Replay plan recorded)
replay_of names = None

-- a file and limits
unfoldable pub reach_of : List (List ℕ) → Option Command
reach_of (file ∷ seconds ∷ []) = do
  name ← name_in file
  limits ← limits_in seconds
  Some (Reach name limits)
reach_of names = None

-- what plain arguments ask for without options: the first of them says what the others are
abbrev pub plain_command : List ℕ → List (List ℕ) → Option Command
plain_command verb names =
    if bytes_eq verb (codes "make") then make_of names
    else if bytes_eq verb (codes "finite") then finite_of names
    else if bytes_eq verb (codes "pairs") then pairs_of names
    else if bytes_eq verb (codes "sweep") then sweep_of names
    else if bytes_eq verb (codes "replay") then replay_of names
    else if bytes_eq verb (codes "reach") then reach_of names
    else None

-- nothing, if there is any option
abbrev pub without_options : Option Command → List Setting → Option Command
without_options asked [] = asked
without_options asked settings = None

-- what the first plain argument, the others and the options ask for
abbrev pub asked_by : List ℕ → List (List ℕ) → List Setting → Option Command
asked_by verb names settings =
    if bytes_eq verb (codes "solve") then solve_of names settings
    else if bytes_eq verb (codes "compare") then compare_of names settings
    else if bytes_eq verb (codes "fleet") then fleet_of names settings
    else without_options (plain_command verb names) settings

abbrev pub with_plain : List (List ℕ) → List Setting → Option Command
with_plain [] settings = None
with_plain (verb ∷ names) settings = asked_by verb names settings

-- the command that arguments give, if they give one
abbrev pub command : List (List ℕ) → Option Command
command words = lists_of words >>= λ lists. with_plain lists.plain lists.options

-- a call gives this, nothing where there is nothing, or ends for lack of memory
abbrev pub Gives : {A : Type 0} → Option A → Result A WordsEnd → Type 0
Gives given (Ok found) = given ≡ Some found
Gives given (Err end.NoCommand) = given ≡ None
Gives given (Err end.NoMemory) = Unit {0}

-- 1 to 1000 waiting places
abbrev pub ArePlaces : ℕ → Type 0
ArePlaces places = IsBetween 1 1000 places

-- 1 to 16 workers, so many waiting places, at most 100 calls of a hundred that need two units, and sites that are compared
-- by a measure of the region
abbrev pub NumbersInRange : Command → Type 0
NumbersInRange (Solve file widths workers summary method) = AreWorkers workers
NumbersInRange (Compare study widths workers method) = AreWorkers workers
NumbersInRange (Make units number) = Unit {0}
NumbersInRange (Finite file places) = ArePlaces places
NumbersInRange (Pairs file percent) = percent ≤ 100
NumbersInRange (Sweep file unit m) = is_of_region m ≡ true
NumbersInRange (Replay file day) = Unit {0}
NumbersInRange (Reach file limits) = Unit {0}
NumbersInRange (Fleet file widths summary) = Unit {0}
