-- What stands once, found from the front.
use Rattle.std.proofs.Common.{◌≡◌, ◌∙◌, ℕ, ◌+◌, ◌<◌, List, [], ◌∷◌, ◌++◌, length, get_or, take, drop, refl, sym, ap}
use Rattle.std.specs.Prelude.{Option, Some, None}
use Rattle.std.specs.List.{cons_option, filter_map}
use Rattle.std.specs.Option.{option_to_list}
use Rattle.std.proofs.lemmas.List.{take-append-drop, take_more}
use Rattle.std.proofs.lemmas.List.Elements.{filter_map-append}
use Rattle.command_words.specs.Options.{once}
use Rattle.command_words.specs.declared.options.Setting.{Setting}

pub list_of_once : {A : Type 0} (values : List A) (found : Option A) → once values ≡ Some found → values ≡ option_to_list found
list_of_once [] found is = cc
list_of_once (value ∷ []) found is = cc
list_of_once (first ∷ second ∷ values) found is = absurd (cc)

once-front : {A : Type 0} (front rest : List A) → once front ≡ None → once (front ++ rest) ≡ None
once-front [] rest is = absurd (cc)
once-front (value ∷ []) rest is = absurd (cc)
once-front (first ∷ second ∷ values) rest is = refl

filter_map-more : {A : Type 0} (f : Setting → Option A) (options : List Setting) (i : ℕ) (none : Setting) → i < length options
    → filter_map f (take (i + 1) options) ≡ filter_map f (take i options) ++ option_to_list (f (get_or options i none))
filter_map-more {A = A} f options i none lt =
    ap (filter_map f) (take_more options i none lt)
    ∙ filter_map-append f (take i options) (get_or options i none ∷ [])
    ∙ ap (λ last. filter_map f (take i options) ++ last) (alone (f (get_or options i none)))
  where
    alone : (value : Option A) → cons_option value [] ≡ option_to_list value
    alone None = refl
    alone (Some value) = refl

module _ {A : Type 0} (f : Setting → Option A) (options : List Setting) (i : ℕ) (none : Setting) (found value : Option A) (lt : i < length options)
    (is : value ≡ f (get_or options i none)) (before : filter_map f (take i options) ≡ option_to_list found) where
  front : filter_map f (take (i + 1) options) ≡ option_to_list found ++ option_to_list value
  front =
      filter_map-more f options i none lt
      ∙ ap (λ values. values ++ option_to_list (f (get_or options i none))) before
      ∙ ap (λ o. option_to_list found ++ option_to_list o) (sym is)

  -- an option more
  pub once-more : (now : Option A) → Some now ≡ once (option_to_list found ++ option_to_list value)
      → filter_map f (take (i + 1) options) ≡ option_to_list now
  once-more now one = list_of_once (filter_map f (take (i + 1) options)) now (ap once front ∙ sym one)

  -- a value after another
  pub once-twice : None ≡ once (option_to_list found ++ option_to_list value) → once (filter_map f options) ≡ None
  once-twice two =
      ap (λ all. once (filter_map f all)) (sym (take-append-drop (i + 1) options))
      ∙ ap once (filter_map-append f (take (i + 1) options) (drop (i + 1) options))
      ∙ once-front (filter_map f (take (i + 1) options)) (filter_map f (drop (i + 1) options)) (ap once front ∙ sym two)
