-- The first item of a list of which a look-up finds nothing, and what it finds of the others.
use Rattle.std.proofs.Common.{◌≡◌, ℕ, ◌+◌, ◌<◌, ◌∙◌, ap, refl, arith, true, not, List, [], ◌∷◌, ◌++◌, length, get_or, take, Option, Some, None}
use Rattle.std.specs.Prelude.{is_some}
use Rattle.std.specs.List.{filter_map, position, position_or_len}
use Rattle.std.proofs.lemmas.Bool.Decides.{nat_tests}
use Rattle.std.proofs.lemmas.List.{take_more}
use Rattle.std.proofs.lemmas.List.Elements.{filter_map-append}
use Rattle.std.proofs.lemmas.List.Sums.{position_or_len_is}

module _ {X Y : Type 0} (look_up : X → Option Y) (xs : List X) (d : X) where
  -- nothing is found of this item, and something of each before
  pub position_is : (i : ℕ) → i < length xs
      → ((k : ℕ) → k < i → is_some (look_up (get_or xs k d)) ≡ true) → look_up (get_or xs i d) ≡ None
      → position (λ x. not (is_some (look_up x))) xs ≡ Some i
  position_is i h before here =
      let e : position_or_len (λ x. not (is_some (look_up x))) xs ≡ i =
      position_or_len_is (λ x. not (is_some (look_up x))) xs i d (omega arith) (λ k l. ap not (before k l)) (λ _. ap (λ y. not (is_some y)) here) in
      rw e (grind (arith, nat_tests))

  -- something is found of each
  pub position_none : ((k : ℕ) → k < length xs → is_some (look_up (get_or xs k d)) ≡ true)
      → position (λ x. not (is_some (look_up x))) xs ≡ None
  position_none each =
      let e : position_or_len (λ x. not (is_some (look_up x))) xs ≡ length xs =
      position_or_len_is (λ x. not (is_some (look_up x))) xs (length xs) d (omega arith) (λ k l. ap not (each k l)) (λ h. absurd (omega arith)) in
      rw e (grind (arith, nat_tests))

  -- what is found of one more
  pub filter_map_next : (i : ℕ) (y : Y) → i < length xs → look_up (get_or xs i d) ≡ Some y
      → filter_map look_up (take (i + 1) xs) ≡ filter_map look_up (take i xs) ++ y ∷ []
  filter_map_next i y h e =
      ap (λ ys. filter_map look_up ys) (take_more xs i d h)
      ∙ filter_map-append look_up (take i xs) (get_or xs i d ∷ [])
      ∙ rw e refl
