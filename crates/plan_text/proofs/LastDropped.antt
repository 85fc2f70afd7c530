-- A list without what passes a test at its end.
use Rattle.std.proofs.Common.{◌≡◌, ◌∙◌, Bool, true, false, List, [], ◌∷◌, ◌++◌, take, length, reverse, refl, sym, ap}
use Rattle.std.proofs.lemmas.List.{reverse-append, reverse-reverse, take_at}
use Rattle.plan_text.specs.Rows.{drop_while, drop_last_while}

-- what is dropped at the front
drop_while-front : {X : Type 0} (test : X → Bool) (xs : List X) → (front : List X) × (xs ≡ front ++ drop_while test xs)
drop_while-front test [] = ([], refl)
drop_while-front {X} test (x ∷ xs) = by (test x) refl (drop_while-front test xs)
  where
    by : (b : Bool) → test x ≡ b → (front : List X) × (xs ≡ front ++ drop_while test xs)
        → (front : List X) × (x ∷ xs ≡ front ++ drop_while test (x ∷ xs))
    by true e h = (x ∷ h.0, rw e (ap (λ (t : List X). x ∷ t) h.1))
    by false e h = ([], rw e refl)

-- what stays is the front of the list
pub drop_last_while-take : {X : Type 0} (test : X → Bool) (xs : List X)
    → drop_last_while test xs ≡ take (length (drop_last_while test xs)) xs
drop_last_while-take {X} test xs =
    let h = drop_while-front test (reverse xs) in
    let kept : List X = drop_last_while test xs in
    let whole : xs ≡ kept ++ reverse h.0 =
    sym (reverse-reverse xs) ∙ ap reverse h.1 ∙ reverse-append h.0 (drop_while test (reverse xs)) in
    sym (take_at kept (reverse h.0) (length kept) refl) ∙ ap (take (length kept)) (sym whole)
