-- What a table of a document has, piece by piece.
use Rattle.std.proofs.Common.{◌≡◌, ℕ, ◌+◌, ◌<◌, ◌∙◌, sym, ap, refl, arith, Bool, false, List, [], ◌∷◌, ◌++◌, length, get_or, drop, append_assoc, Option, Some, None, option_map}
use Rattle.std.specs.Prelude.{option_and_then, ◌==◌, if◌then◌else◌, codes}
use Rattle.toml.specs.Data.{Data, string, integer, float, boolean, datetime, array, table as a_table, item, Members, as_array, as_str, get_member}
use Rattle.toml.specs.View.{view, items_view, members_view}
use Rattle.toml.specs.declared.value.Value.{Value}
use Rattle.toml.proofs.Views.{Entry, items_view-drop}
use Rattle.plan_compare.specs.Documents.{strings_in, strings_at, with_string, key_count, is_in_form, texts_of}

pub key_count-view : (es : List Entry) → key_count (members_view es) ≡ length es
key_count-view [] = refl
key_count-view (e ∷ es) = ap (λ n. n + 1) (key_count-view es) ∙ omega arith

-- the strings after these, if there are any
abbrev pub all_after : List (List ℕ) → Option (List (List ℕ)) → Option (List (List ℕ))
all_after texts others = option_map (λ rest. texts ++ rest) others

pub all_after_none : (others : Option (List (List ℕ))) → all_after [] others ≡ others
all_after_none None = refl
all_after_none (Some texts) = refl

all_after_one : (texts : List (List ℕ)) (text : List ℕ) (others : Option (List (List ℕ)))
    → all_after texts (option_map (λ rest. text ∷ rest) others) ≡ all_after (texts ++ text ∷ []) others
all_after_one texts text None = refl
all_after_one texts text (Some rest) = ap Some (search append_assoc)

with_text : (d : Data) (text : List ℕ) (others : Option (List (List ℕ))) → as_str d ≡ Some text
    → with_string d others ≡ option_map (λ rest. text ∷ rest) others
with_text (string t) text others e = rw (let same : t ≡ text = grind arith in same)
with_text (integer z) text others e = absurd (cc)
with_text (float x) text others e = absurd (cc)
with_text (boolean b) text others e = absurd (cc)
with_text (datetime dt) text others e = absurd (cc)
with_text (array ds) text others e = absurd (cc)
with_text (a_table ms) text others e = absurd (cc)

without_text : (d : Data) (others : Option (List (List ℕ))) → as_str d ≡ None → with_string d others ≡ None
without_text (string t) others e = absurd (cc)
without_text (integer z) others e = refl
without_text (float x) others e = refl
without_text (boolean b) others e = refl
without_text (datetime dt) others e = refl
without_text (array ds) others e = refl
without_text (a_table ms) others e = refl

-- the item at this place is a string
pub strings_next : (vs : List Value) (i : ℕ) (v : Value) (texts : List (List ℕ)) (text : List ℕ)
    → i < length vs → v ≡ get_or vs i v → as_str (view v) ≡ Some text
    → all_after texts (strings_in (items_view (drop i vs))) ≡ all_after (texts ++ text ∷ []) (strings_in (items_view (drop (i + 1) vs)))
strings_next vs i v texts text h is e =
    ap (λ ds. all_after texts (strings_in ds)) (items_view-drop vs i v h ∙ ap (λ x. item (view x) (items_view (drop (i + 1) vs))) (sym is))
    ∙ ap (all_after texts) (with_text (view v) text _ e)
    ∙ all_after_one texts text _

-- it is none
pub strings_none : (vs : List Value) (i : ℕ) (v : Value) (texts : List (List ℕ))
    → i < length vs → v ≡ get_or vs i v → as_str (view v) ≡ None
    → all_after texts (strings_in (items_view (drop i vs))) ≡ None
strings_none vs i v texts h is e =
    ap (λ ds. all_after texts (strings_in ds)) (items_view-drop vs i v h ∙ ap (λ x. item (view x) (items_view (drop (i + 1) vs))) (sym is))
    ∙ ap (all_after texts) (without_text (view v) _ e)

-- what is found under a key, and the strings in it
pub strings_found : (d : Option Data) (key : List ℕ) (table : Members) → d ≡ get_member key table
    → option_and_then strings_in (option_and_then as_array d) ≡ strings_at key table
strings_found d key table e = ap (λ x. option_and_then strings_in (option_and_then as_array x)) e

-- the texts of a table with two keys, under which these strings are
pub texts_of_both : (table : Members) (names words : List (List ℕ)) (test : Bool) → key_count table ≡ 2
    → strings_at (codes "plans") table ≡ Some names → strings_at (codes "measures") table ≡ Some words
    → test ≡ is_in_form (record { names = names; words = words })
    → texts_of table ≡ (if test then Some (record { names = names; words = words }) else None)
texts_of_both table names words test n e f g = rw (n, e, f, g) refl

pub texts_of_more : (table : Members) → (key_count table == 2) ≡ false → texts_of table ≡ None
texts_of_more table h = rw h refl
