-- A list of measures, item by item: the rows of those that are printed, and the first that is too wide.
use Rattle.std.proofs.Common.{◌≡◌, ℕ, ◌+◌, ◌∙◌, ap, refl, arith, List, [], ◌∷◌, ◌++◌, Bool, true, false, take, drop, get_or, Option, Some}
use Rattle.std.specs.Prelude.{if◌then◌else◌, ◌&&◌, filter, find, slice_get}
use Rattle.std.specs.List.{flat_map}
use Rattle.std.proofs.lemmas.Grind.{flat_map-append}
use Rattle.std.proofs.lemmas.List.Elements.{filter_more}
use Rattle.std.proofs.lemmas.Option.{get_or_from_slice_get, slice_get_within}
use Rattle.text_lines.proofs.Pieces.{piece_last}
use Rattle.hyper_model.proofs.ListPlaces.{drop_at}
use Rattle.report_text.specs.declared.ending.ReportEnd.{ReportEnd}
use Rattle.report_text.specs.TooWide.{EndsAt}
use Rattle.hyper_model.specs.declared.kinds.Enclosed.{Enclosed}

rows_kept : {A : Type 0} (f : A → List ℕ) (keep : Bool) (xs : List A) (x : A)
    → flat_map f (xs ++ (if keep then x ∷ [] else [])) ≡ flat_map f xs ++ (if keep then f x else [])
rows_kept f true xs x = piece_last f xs x
rows_kept f false xs x = flat_map-append f xs []

-- the rows of one more item
pub rows_next : {A : Type 0} (f : A → List ℕ) (p : A → Bool) (xs : List A) (i : ℕ) (x : A) → slice_get xs i ≡ Some x
    → flat_map f (filter p (take (i + 1) xs)) ≡ flat_map f (filter p (take i xs)) ++ (if p x then f x else [])
rows_next f p xs i x e =
    let read : get_or xs i x ≡ x = get_or_from_slice_get xs i x x e in
    ap (λ ys. flat_map f ys) (filter_more p xs i x (slice_get_within xs i x e))
    ∙ ap (λ y. flat_map f (filter p (take i xs) ++ (if p y then y ∷ [] else []))) read
    ∙ rows_kept f (p x) (filter p (take i xs)) x

find_past : {A : Type 0} (p q : A → Bool) (x : A) (b c : Bool) (xs : List A) → p x ≡ b → q x ≡ c → b && c ≡ false
    → find q (filter p (x ∷ xs)) ≡ find q (filter p xs)
find_past p q x true true xs e f h = absurd (let g : ⊥ = grind arith in g)
find_past p q x true false xs e f h = rw (e, f) refl
find_past p q x false c xs e f h = rw e refl

-- what is looked for is not here
pub find_next : {A : Type 0} (p q : A → Bool) (xs : List A) (i : ℕ) (x : A) → slice_get xs i ≡ Some x
    → p x && q x ≡ false → find q (filter p (drop i xs)) ≡ find q (filter p (drop (i + 1) xs))
find_next p q xs i x e h =
    ap (λ ys. find q (filter p ys)) (drop_at xs i x e) ∙ find_past p q x (p x) (q x) (drop (i + 1) xs) refl refl h

find_first : {A : Type 0} (p q : A → Bool) (x : A) (xs : List A) → p x ≡ true → q x ≡ true
    → find q (filter p (x ∷ xs)) ≡ Some x
find_first p q x xs h g = rw (h, g) refl

-- it is here
pub find_here : {A : Type 0} (p q : A → Bool) (xs : List A) (i : ℕ) (x : A) → slice_get xs i ≡ Some x
    → p x ≡ true → q x ≡ true → find q (filter p (drop i xs)) ≡ Some x
find_here p q xs i x e h g =
    ap (λ ys. find q (filter p ys)) (drop_at xs i x e) ∙ find_first p q x (drop (i + 1) xs) h g

pub ends_here : (wide : Option Enclosed) (e : Enclosed) (end : ReportEnd) → wide ≡ Some e → EndsAt (Some e) end → EndsAt wide end
ends_here wide e end h g = rw h g
