-- The texts that a study's document has: a table of two arrays of strings.
use Rattle.std.specs.Prelude.{ℕ, ◌+◌, ◌==◌, ◌&&◌, Bool, if◌then◌else◌, List, [], ◌∷◌, length, Option, Some, None, option_map, option_and_then, codes}
use Rattle.std.specs.List.{list_all}
use Rattle.std.specs.Str.{is_utf8}
use Rattle.toml.specs.Data.{Data, string, Items, no_items, item, Members, no_members, member, as_array, get_member}
use Rattle.toml.specs.Parse.{parse_document}
use Rattle.outer_world.specs.declared.shelf.TheConstants.{MOST_SHELF_NAME_BYTES}
use Rattle.plan_text.specs.Fields.{is_within}
use Rattle.plan_compare.specs.declared.study.TheConstants.{MOST_COMPARED_MEASURES}

-- the names of the plans, and the words of the measures
pub record StudyTexts : Type 0 where
  pub names : List (List ℕ)
  pub words : List (List ℕ)

abbrev pub with_string : Data → Option (List (List ℕ)) → Option (List (List ℕ))
with_string (string text) others = option_map (λ texts. text ∷ texts) others
with_string d others = None

-- the strings in an array that has nothing else
abbrev pub strings_in : Items → Option (List (List ℕ))
strings_in no_items = Some []
strings_in (item d ds) = with_string d (strings_in ds)

-- the strings in the array at a key
abbrev pub strings_at : List ℕ → Members → Option (List (List ℕ))
strings_at key members = option_and_then strings_in (option_and_then as_array (get_member key members))

abbrev pub key_count : Members → ℕ
key_count no_members = 0
key_count (member key d members) = key_count members + 1

abbrev pub has_name_length : List ℕ → Bool
has_name_length name = is_within 1 MOST_SHELF_NAME_BYTES (length name)

-- names of 1 to 255 bytes, and 1 to 16 words
abbrev pub is_in_form : StudyTexts → Bool
is_in_form texts = list_all has_name_length texts.names && is_within 1 MOST_COMPARED_MEASURES (length texts.words)

abbrev pub if_in_form : StudyTexts → Option StudyTexts
if_in_form texts = if is_in_form texts then Some texts else None

-- both lists as texts, if there are both
abbrev pub study_texts : Option (List (List ℕ)) → Option (List (List ℕ)) → Option StudyTexts
study_texts (Some names) (Some words) = Some (record { names = names; words = words })
study_texts names words = None

-- the texts in a table that has no key but `plans` and `measures`
abbrev pub texts_of : Members → Option StudyTexts
texts_of members =
    if key_count members == 2 then
    option_and_then if_in_form (study_texts (strings_at (codes "plans") members) (strings_at (codes "measures") members))
    else None

-- the texts in these bytes, if they are a document of this form
unfoldable pub texts_in : List ℕ → Option StudyTexts
texts_in bytes = if is_utf8 bytes then option_and_then texts_of (parse_document bytes) else None
