-- The options: what their values are, and what they ask for together.
use Rattle.std.specs.Prelude.{ℕ, ◌≤◌, Bool, true, false, ◌&&◌, if◌then◌else◌, ◌==◌, nat_le, List, [], ◌∷◌, Option, Some, None, codes, option_and_then, count_by}
use Rattle.std.specs.List.{filter_map}
use Rattle.std.specs.Option.{option_map, unwrap_or}
use Rattle.std.specs.Str.{bytes_eq}
use Rattle.hyper_model.specs.declared.kinds.Method.{Method}
use Rattle.hyper_model.specs.declared.kinds.Method.TheVariants as method
use Rattle.text_lines.specs.Numbers.{number_in}
use Rattle.command_words.specs.declared.options.Setting.{Setting}
use Rattle.command_words.specs.declared.options.Setting.TheVariants as setting
use Rattle.command_words.specs.declared.options.Key.{Key}
use Rattle.command_words.specs.declared.options.Key.TheVariants as key
use Rattle.command_words.specs.declared.options.Options.{Options}

infixl 10 ◌>>=◌
-- the next step, if there is something to go on with
abbrev pub ◌>>=◌ : {A B : Type 0} → Option A → (A → Option B) → Option B
found >>= next = option_and_then next found

-- a number of one to nine digits
abbrev pub value_in : List ℕ → Option ℕ
value_in text = number_in 9 text

abbrev pub method_in : List ℕ → Option Method
method_in text =
    if bytes_eq text (codes "elimination") then Some method.Elimination
    else if bytes_eq text (codes "certificate") then Some method.Certificate
    else None

-- the option with this value
abbrev pub setting_in : Key → List ℕ → Option Setting
setting_in key.Width value = option_map setting.Width (value_in value)
setting_in key.TimeWidth value = option_map setting.TimeWidth (value_in value)
setting_in key.Workers value = option_map setting.Workers (value_in value)
setting_in key.Method value = option_map setting.Method (method_in value)

-- the number of the setting, if it is one of this option
abbrev pub number_of : Key → Setting → Option ℕ
number_of key.Width (setting.Width number) = Some number
number_of key.TimeWidth (setting.TimeWidth number) = Some number
number_of key.Workers (setting.Workers number) = Some number
number_of k s = None

-- the method of the setting, if it is that option
abbrev pub method_of : Setting → Option Method
method_of (setting.Method m) = Some m
method_of s = None

-- what is there, if it is there at most once
abbrev pub once : {A : Type 0} → List A → Option (Option A)
once [] = Some None
once (value ∷ []) = Some (Some value)
once values = None

abbrev pub number_once : Key → List Setting → Option (Option ℕ)
number_once k settings = once (filter_map (number_of k) settings)

abbrev pub method_once : List Setting → Option (Option Method)
method_once settings = once (filter_map method_of settings)

-- it says what a report shows or how wide its intervals may be, and not how it is found
abbrev pub is_of_report : Setting → Bool
is_of_report (setting.Width number) = true
is_of_report (setting.TimeWidth number) = true
is_of_report (setting.Workers number) = false
is_of_report (setting.Method m) = false
is_of_report setting.Summary = true

abbrev pub is_summary : Setting → Bool
is_summary setting.Summary = true
is_summary s = false

-- whether the flag is there, if it is there at most once
abbrev pub summary_once : List Setting → Option Bool
summary_once settings =
    let count = count_by is_summary settings in if nat_le count 1 then Some (count == 1) else None

-- a width, if one is asked for, is at least 2
abbrev pub may_be_width : Option ℕ → Bool
may_be_width None = true
may_be_width (Some width) = nat_le 2 width

abbrev pub are_workers : ℕ → Bool
are_workers workers = nat_le 1 workers && nat_le workers 16

pub record AreWorkers (workers : ℕ) : Type 0 where
  pub least : 1 ≤ workers
  pub most : workers ≤ 16

abbrev pub are_possible : Options → Bool
are_possible options =
    may_be_width options.widths.share && may_be_width options.widths.time && are_workers options.workers

abbrev pub if_possible : Options → Option Options
if_possible options = if are_possible options then Some options else None

-- each option stands at most once, there is one worker if no number of workers is asked for, and words are eliminated if no
-- method is
unfoldable pub options_of : List Setting → Option Options
options_of settings = do
  share ← number_once key.Width settings
  time ← number_once key.TimeWidth settings
  workers ← number_once key.Workers settings
  summary ← summary_once settings
  asked ← method_once settings
  if_possible (record {
    widths = record { share = share; time = time };
    workers = unwrap_or workers 1;
    summary = summary;
    method = unwrap_or asked method.Elimination;
  })
