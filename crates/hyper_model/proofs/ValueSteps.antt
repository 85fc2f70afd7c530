-- A list in which the first item that says something decides, item by item.
use Rattle.std.proofs.Common.{◌≡◌, ℕ, ◌+◌, ◌∙◌, ap, List, ◌∷◌, drop, Option, Some, None}
use Rattle.std.specs.Prelude.{slice_get, unwrap_or}
use Rattle.hyper_model.proofs.ListPlaces.{drop_at}

module _ {A B : Type 0} (said : A → Option B) (value : List A → B)
    (first : (x : A) (xs : List A) → value (x ∷ xs) ≡ unwrap_or (said x) (value xs)) where
  -- this item says it
  pub said_here : (items : List A) (i : ℕ) (x : A) (v : B) → slice_get items i ≡ Some x → said x ≡ Some v
      → value (drop i items) ≡ v
  said_here items i x v at is =
      ap value (drop_at items i x at) ∙ first x (drop (i + 1) items)
      ∙ ap (λ o. unwrap_or o (value (drop (i + 1) items))) is

  -- this item does not
  pub said_past : (items : List A) (i : ℕ) (x : A) → slice_get items i ≡ Some x → said x ≡ None
      → value (drop i items) ≡ value (drop (i + 1) items)
  said_past items i x at is =
      ap value (drop_at items i x at) ∙ first x (drop (i + 1) items)
      ∙ ap (λ o. unwrap_or o (value (drop (i + 1) items))) is
