-- Reading goes on after what was read.
use Rattle.std.proofs.Common.{◌≡◌, ◌⊎◌, ℕ, suc, ◌+◌, ◌-◌, ◌<◌, ◌≤◌, List, [], ◌∷◌, ◌++◌, length, refl, inl, inr, arith, append_assoc}
use Rattle.std.specs.Prelude.{Result, Ok, Err}
use Rattle.std.proofs.lemmas.List.{append-nil}
use Rattle.plan_text.specs.Fields.{name_at}
use Rattle.plan_text.specs.Reading.{names_at}
use Rattle.plan_text.specs.Rows.{Fields}
use Rattle.plan_text.specs.Steps.{◌>>=◌}
use Rattle.plan_text.specs.declared.refusal.TextRefusal.{TextRefusal}

-- what is read, after what was read before
abbrev pub with_front : {A E : Type 0} → List A → Result (List A) E → Result (List A) E
with_front front read = read >>= λ xs. Ok (front ++ xs)

pub regroup : {A E : Type 0} (front part : List A) (read : Result (List A) E)
    → with_front front (read >>= λ xs. Ok (part ++ xs)) ≡ with_front (front ++ part) read
regroup front part (Ok xs) = simp append_assoc
regroup front part (Err e) = refl

-- a refusal of a part is that of the whole, unless memory was wanting
pub gives-err : {A B E : Type 0} (wants e : E) (given : Result A E) (whole : Result B E) → (given ≡ Err e → whole ≡ Err e)
    → (e ≡ wants) ⊎ (given ≡ Err e) → (e ≡ wants) ⊎ (whole ≡ Err e)
gives-err wants e given whole goes (inl h) = inl h
gives-err wants e given whole goes (inr h) = inr (goes h)

-- one more name
pub names_at-more : (at : ℕ) (row : Fields) (place : ℕ) (front : List (List ℕ)) (name : List ℕ) → place < length row
    → name_at at row place ≡ Ok name
    → with_front front (names_at (length row - place) at row place)
    ≡ with_front (front ++ name ∷ []) (names_at (length row - (place + 1)) at row (place + 1))
unfolding names_at
names_at-more at row place front name lt read =
    let one : length row - place ≡ suc (length row - (place + 1)) = omega arith in
    rw (one, read) (regroup front (name ∷ []) (names_at (length row - (place + 1)) at row (place + 1)))

-- a field that is no name
pub names_at-refused : (at : ℕ) (row : Fields) (place : ℕ) (front : List (List ℕ)) (e : TextRefusal) → place < length row
    → name_at at row place ≡ Err e → with_front front (names_at (length row - place) at row place) ≡ Err e
unfolding names_at
names_at-refused at row place front e lt read =
    let one : length row - place ≡ suc (length row - (place + 1)) = omega arith in
    rw (one, read) refl

-- after the last field
pub names_at-done : (at : ℕ) (row : Fields) (place : ℕ) (front : List (List ℕ)) → length row ≤ place
    → with_front front (names_at (length row - place) at row place) ≡ Ok front
unfolding names_at
names_at-done at row place front ge =
    let none : length row - place ≡ 0 = omega arith in
    rw (none, append-nil front) refl
