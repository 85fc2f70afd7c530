-- From what a study's texts pass to what its invariant says.
use Rattle.std.proofs.Common.{◌≡◌, ℕ, ◌<◌, ◌∙◌, sym, ap, refl, arith, Bool, true, List, [], map, length, get_or, String, Global, string_bytes}
use Rattle.std.specs.Prelude.{All, ◌&&◌}
use Rattle.std.specs.List.{list_all}
use Rattle.std.proofs.lemmas.Bool.{and_parts}
use Rattle.std.proofs.lemmas.Bool.Decides.{nat_tests}
use Rattle.std.proofs.lemmas.List.{get_or-map, length-map}
use Rattle.std.proofs.lemmas.List.Elements.{All-get_or}
use Rattle.std.proofs.lemmas.List.Folds.{list_all-map}
use Rattle.std.proofs.lemmas.List.Sums.{AllPass-from_list_all}
use Rattle.hyper_model.specs.Plans.{IsBetween}
use Rattle.outer_world.specs.declared.shelf.TheConstants.{MOST_SHELF_NAME_BYTES}
use Rattle.plan_text.specs.Fields.{is_within}
use Rattle.plan_compare.specs.Documents.{has_name_length, is_in_form}
use Rattle.plan_compare.specs.declared.study.TheConstants.{MOST_COMPARED_MEASURES}

-- the test of names and words, on the strings that they are
pub form_of : (names words : List (String Global)) (named : Bool) → named ≡ list_all (λ name. has_name_length (string_bytes name)) names
    → named && is_within 1 MOST_COMPARED_MEASURES (length words) ≡ is_in_form (record { names = map string_bytes names; words = map string_bytes words })
form_of names words named e = rw (e, list_all-map has_name_length string_bytes names, length-map words string_bytes) refl

pub between : (least most number : ℕ) → is_within least most number ≡ true → IsBetween least most number
between least most number h = record { low = grind (arith, nat_tests, h); high = grind (arith, nat_tests, h) }

pub names_between : (names words : List (List ℕ)) → is_in_form (record { names = names; words = words }) ≡ true
    → All (λ name. IsBetween 1 MOST_SHELF_NAME_BYTES (length name)) names
names_between names words h =
    let both = and_parts (list_all has_name_length names) (is_within 1 MOST_COMPARED_MEASURES (length words)) h in
    λ k d l. between 1 MOST_SHELF_NAME_BYTES (length (get_or names k d)) (AllPass-from_list_all has_name_length names both.0 k d l)

pub words_between : (names words : List (List ℕ)) → is_in_form (record { names = names; words = words }) ≡ true
    → IsBetween 1 MOST_COMPARED_MEASURES (length words)
words_between names words h =
    between 1 MOST_COMPARED_MEASURES (length words) (and_parts (list_all has_name_length names) (is_within 1 MOST_COMPARED_MEASURES (length words)) h).1

-- the name at a place
pub name_between : (names : List (String Global)) (i : ℕ) (name : String Global) → All (λ n. IsBetween 1 MOST_SHELF_NAME_BYTES (length n)) (map string_bytes names)
    → i < length names → name ≡ get_or names i name → IsBetween 1 MOST_SHELF_NAME_BYTES (length (string_bytes name))
name_between names i name each h e =
    let at = All-get_or (λ n. IsBetween 1 MOST_SHELF_NAME_BYTES (length n)) (map string_bytes names) i [] (rw (length-map names string_bytes) h) each in
    let same : get_or (map string_bytes names) i [] ≡ string_bytes name = get_or-map string_bytes names i name [] h ∙ ap string_bytes (sym e) in
    rw same at at
