-- Where calls lead: the units that are sent are free units of the plan, so that no busy unit is lost.
use Rattle.std.proofs.Common.{◌≡◌, ◌≢◌, ℕ, ◌+◌, ◌^◌, ◌<◌, ◌≤◌, Bool, true, false, not, cond, eqb, min, List, [], ◌∷◌, All, refl, sym, ap, subst, ◌∙◌, inl, inr, true≢false, arith}
use Rattle.std.specs.Prelude.{Option, Some, None, bit_and, find}
use Rattle.std.specs.Int.{bit_at}
use Rattle.std.proofs.lemmas.Bool.{cases_eq}
use Rattle.std.proofs.lemmas.List.Elements.{All-head, All-tail}
use Rattle.std.proofs.lemmas.Nat.Bits.{bit_at_and, bit_at-lt, same_from_bits}
use Rattle.hyper_model.specs.declared.parts.PlanParts.{PlanParts}
use Rattle.hyper_model.specs.Groups.{list_of}
use Rattle.hyper_model.specs.Plans.{units, atoms, IsAccepted}
use Rattle.hyper_model.specs.Words.{words, is_busy, is_free, turned_word, first_free, first_free_of}
use Rattle.hyper_model.proofs.Bits.{busy_bit, busy_turned_other, free_bit, turned_lt}
use Rattle.hyper_model.proofs.Grouping.{from_grouped}
use Rattle.hyper_model.proofs.Sums.{on_test}
use Rattle.pair_dispatch.specs.PairRates.{after_one, after_two, with_sent}

-- the first free unit of a list is free, and what holds of all its units holds of it
pub found_free : (P : ℕ → Type 0) (list : List ℕ) (w n : ℕ) → All P list → first_free_of list w ≡ Some n
    → P n × (is_free w n ≡ true)
found_free P [] w n all is = absurd (cc)
found_free P (m ∷ list) w n all is = on_test (is_free w m)
    (λ t.
    let found : cond (is_free w m) (Some m) (find (is_free w) list) ≡ Some m =
    ap (λ b. cond b (Some m) (find (is_free w) list)) t in
    let here : m ≡ n = same_some m n (sym found ∙ is) in
    (subst P here (All-head P m list all), ap (is_free w) (sym here) ∙ t))
    (λ f.
    let later : cond (is_free w m) (Some m) (find (is_free w) list) ≡ find (is_free w) list =
    ap (λ b. cond b (Some m) (find (is_free w) list)) f in
    found_free P list w n (All-tail P m list all) (sym later ∙ is))
  where
    same_some : (a b : ℕ) → (let first : Option ℕ = Some a in let second : Option ℕ = Some b in first ≡ second) → a ≡ b
    same_some a b e = cc

not_true : (b : Bool) → not b ≡ true → b ≡ false
not_true true e = absurd (true≢false (sym e))
not_true false e = refl

module _ (p : PlanParts) (a : IsAccepted p) (j : ℕ) (inside : j < atoms p) where
  -- the first free unit of the atom's list is one of the plan, and is free
  pub first_facts : (w n : ℕ) → first_free p.lists j w ≡ Some n → (n < units p) × (is_busy w n ≡ false)
  first_facts w n is =
      let facts = found_free (λ u. u < units p) (list_of p.lists j) w n
      (from_grouped (units p) (list_of p.lists j) _ (a.lists.grouped j inside)).within is in
      (facts.0, not_true (is_busy w n) facts.1)

  sent_below : (w : ℕ) → w < words p → (found : Option ℕ) → first_free p.lists j w ≡ found → with_sent found w < words p
  sent_below w below None is = below
  sent_below w below (Some n) is = turned_lt (units p) w n below (first_facts w n is).0

  sent_keeps : (w i : ℕ) → is_busy w i ≡ true → (found : Option ℕ) → first_free p.lists j w ≡ found
      → is_busy (with_sent found w) i ≡ true
  sent_keeps w i busy None is = busy
  sent_keeps w i busy (Some n) is = elim (cases_eq i n) [
    | inl same ↦ absurd (true≢false (sym busy ∙ ap (is_busy w) same ∙ (first_facts w n is).1))
    | inr other ↦ busy_turned_other w n i other ∙ busy
  ]

  pub one_below : (w : ℕ) → w < words p → after_one p j w < words p
  one_below w below = sent_below w below (first_free p.lists j w) refl

  pub two_below : (w : ℕ) → w < words p → after_two p j w < words p
  two_below w below = one_below (after_one p j w) (one_below w below)

  -- busy units stay busy
  pub one_keeps : (w i : ℕ) → is_busy w i ≡ true → is_busy (after_one p j w) i ≡ true
  one_keeps w i busy = sent_keeps w i busy (first_free p.lists j w) refl

  pub two_keeps : (w i : ℕ) → is_busy w i ≡ true → is_busy (after_two p j w) i ≡ true
  two_keeps w i busy = one_keeps (after_one p j w) i (one_keeps w i busy)

lesser_bit : (x y : ℕ) → x < 2 → (x ≡ 1 → y ≡ 1) → min x y ≡ x
lesser_bit x y l h = elim (cases_eq x 1) [
  | inl one ↦ let other = h one in omega (arith, one, other)
  | inr none ↦ omega (arith, none)
]

-- a word whose busy units are all busy in another is what both have in common
pub common_word : (v w : ℕ) → ((i : ℕ) → is_busy v i ≡ true → is_busy w i ≡ true) → bit_and v w ≡ v
common_word v w h =
    same_from_bits (bit_and v w) v (λ i.
    bit_at_and v w i
    ∙ lesser_bit (bit_at v i) (bit_at w i) (bit_at-lt v i)
    (λ one. busy_bit w i (h i (ap (λ b. eqb b 1) one))))

pub common_busy : (v w i : ℕ) → bit_and v w ≡ v → is_busy v i ≡ true → is_busy w i ≡ true
common_busy v w i same busy = on_test (is_busy w i)
    (λ t. t)
    (λ f.
    let one = busy_bit v i busy in
    let none = free_bit w i f in
    absurd (omega (arith, sym (bit_at_and v w i) ∙ ap (λ u. bit_at u i) same, one, none)))
