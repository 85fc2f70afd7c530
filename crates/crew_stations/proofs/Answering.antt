-- Who takes a call, by stations: a free crew of the first station that has one.
use Rattle.std.proofs.Common.{◌≡◌, ℕ, ◌*◌, ◌<◌, Bool, true, false, not, cond, eqb, eqb-true, eq-eqb, ◌&&◌, ◌||◌, List, [], ◌∷◌, true≢false, refl, sym, ap, ◌∙◌, inl, inr, arith}
use Rattle.std.specs.Prelude.{All, ◌==◌}
use Rattle.std.specs.List.{list_any}
use Rattle.std.proofs.lemmas.Bool.{and_parts, or_parts, cases_eq}
use Rattle.std.proofs.lemmas.List.Elements.{All-head, All-tail}
use Rattle.hyper_model.specs.declared.parts.PlanParts.{PlanParts}
use Rattle.hyper_model.specs.Plans.{units, atoms, groups_of, split, IsAcceptedUpTo}
use Rattle.hyper_model.specs.Words.{words, full_word, is_busy, is_free, has_free, is_taker, takes, portion}
use Rattle.hyper_model.proofs.Sums.{on_test, sum-same, sum_none, choices_sum}
use Rattle.hyper_model.proofs.Bits.{full_busy, free_exists}
use Rattle.hyper_model.proofs.Takers.{portion_is, takers_positive}
use Rattle.crew_stations.specs.Lumps.{class_sum}
use Rattle.crew_stations.specs.Stations.{StationPlan, stations, order_of, has_room, is_first, answers}
use Rattle.crew_stations.specs.Standing.{IsStationed, IsCrewGroup, AreCrewGroups, state_of}
use Rattle.crew_stations.proofs.Lumping.{class_same}
use Rattle.crew_stations.proofs.Counting.{room_if_free, no_room_if_busy}

-- a group with a unit that passes a test has one of the first `count`
any_member : (count : ℕ) (test : ℕ → Bool) (group : List ℕ) → All (λ m. m < count) group → list_any test group ≡ true
    → (m : ℕ) × (m < count) × (list_any (λ i. i == m) group ≡ true) × (test m ≡ true)
any_member count test [] h e = absurd (true≢false (sym e))
any_member count test (m ∷ group) h e = on_test (test m)
    (λ t. (m, All-head (λ a. a < count) m group h, ap (λ c. c || list_any (λ i. i == m) group) (eq-eqb m m refl), t))
    (λ f.
    let rest = any_member count test group (All-tail (λ a. a < count) m group h)
    (sym (ap (λ c. c || list_any test group) f) ∙ e) in
    (rest.0, rest.1, later (m == rest.0) (list_any (λ i. i == rest.0) group) rest.2, rest.3))
  where
    later : (b c : Bool) → c ≡ true → (b || c) ≡ true
    later true c e = refl
    later false c e = e

-- if none passes it, no member does
no_member : (test : ℕ → Bool) (group : List ℕ) (n : ℕ) → list_any test group ≡ false
    → list_any (λ i. i == n) group ≡ true → test n ≡ false
no_member test [] n none e = absurd (true≢false (sym e))
no_member test (m ∷ group) n none e =
    let both = or_parts (test m) (list_any test group) none in
    on_test (m == n)
    (λ t. ap test (sym (eqb-true m n t)) ∙ both.0)
    (λ f. no_member test group n both.1 (sym (ap (λ c. c || list_any (λ i. i == n) group) f) ∙ e))

-- only one station answers, and it has a free crew
pub first_alone : (s : StationPlan) (order : List ℕ) (a k m : ℕ) → is_first s order a k ≡ true → is_first s order a m ≡ true
    → k ≡ m
first_alone s [] a k m e f = absurd (true≢false (sym e))
first_alone s (i ∷ order) a k m e f = on_test (has_room s a i)
    (λ t.
    sym (eqb-true i k (sym (ap (λ c. cond c (i == k) (is_first s order a k)) t) ∙ e))
    ∙ eqb-true i m (sym (ap (λ c. cond c (i == m) (is_first s order a m)) t) ∙ f))
    (λ none. first_alone s order a k m (sym (ap (λ c. cond c (i == k) (is_first s order a k)) none) ∙ e)
    (sym (ap (λ c. cond c (i == m) (is_first s order a m)) none) ∙ f))

pub first_has_room : (s : StationPlan) (order : List ℕ) (a k : ℕ) → is_first s order a k ≡ true → has_room s a k ≡ true
first_has_room s [] a k e = absurd (true≢false (sym e))
first_has_room s (i ∷ order) a k e = on_test (has_room s a i)
    (λ t.
    ap (λ c. has_room s a c) (sym (eqb-true i k (sym (ap (λ c. cond c (i == k) (is_first s order a k)) t) ∙ e))) ∙ t)
    (λ none. first_has_room s order a k (sym (ap (λ c. cond c (i == k) (is_first s order a k)) none) ∙ e))

module _ (p : PlanParts) (s : StationPlan) (station : ℕ → ℕ) (t : IsStationed p s station) where
  -- the group of a station has a free unit if the station has room
  room_is : (w k : ℕ) (group : List ℕ) → k < stations s → IsCrewGroup (units p) station k group
      → has_free group w ≡ has_room s (state_of p s station w) k
  room_is w k group l g = on_test (has_free group w)
      (λ free.
      let m = any_member (units p) (is_free w) group g.within free in
      let same : k ≡ station m.0 = eqb-true k (station m.0) (sym (g.members m.0 m.1) ∙ m.2) in
      free
      ∙ sym (ap (λ c. has_room s (state_of p s station w) c) same
      ∙ room_if_free p s station t w m.0 m.1 (unfree (is_busy w m.0) m.3)))
      (λ none. none ∙ sym (no_room_if_busy p s station t w k l (λ n h e.
      unfree_busy (is_busy w n)
      (no_member (is_free w) group n none (g.members n h ∙ eq-eqb k (station n) (sym e))))))
    where
      unfree : (b : Bool) → not b ≡ true → b ≡ false
      unfree true e = absurd (true≢false (sym e))
      unfree false e = refl

      unfree_busy : (b : Bool) → not b ≡ false → b ≡ true
      unfree_busy true e = refl
      unfree_busy false e = absurd (true≢false e)

  taker_by_order : (order : List ℕ) (groups : List (List ℕ)) → AreCrewGroups (units p) station (stations s) order groups
      → (w n : ℕ) → n < units p
      → is_taker groups w n ≡ (is_first s order (state_of p s station w) (station n) && is_free w n)
  taker_by_order [] [] h w n l = refl
  taker_by_order [] (group ∷ groups) h w n l = absurd h
  taker_by_order (k ∷ order) [] h w n l = absurd h
  taker_by_order (k ∷ order) (group ∷ groups) h w n l =
      ap (λ c. cond c (list_any (λ m. m == n) group && is_free w n) (is_taker groups w n)) (room_is w k group h.0 h.1)
      ∙ ap (λ c. cond (has_room s (state_of p s station w) k) (c && is_free w n) (is_taker groups w n))
      (h.1.members n l)
      ∙ ap (λ c. cond (has_room s (state_of p s station w) k) ((k == station n) && is_free w n) c)
      (taker_by_order order groups h.2 w n l)
      ∙ joined (has_room s (state_of p s station w) k) (k == station n)
      (is_first s order (state_of p s station w) (station n)) (is_free w n)
    where
      joined : (b x y z : Bool) → cond b (x && z) (y && z) ≡ (cond b x y && z)
      joined true x y z = refl
      joined false x y z = refl

  -- a unit takes a call if its station answers and it is free
  pub taker_is : (j w n : ℕ) → j < atoms p → n < units p
      → takes p j w n ≡ (answers s j (state_of p s station w) (station n) && is_free w n)
  taker_is j w n h l = taker_by_order (order_of s j) (groups_of p j) (t.groups j h) w n l

  taker_answers : (j w n : ℕ) → j < atoms p → n < units p → takes p j w n ≡ true
      → answers s j (state_of p s station w) (station n) ≡ true
  taker_answers j w n h l e =
      (and_parts (answers s j (state_of p s station w) (station n)) (is_free w n) (sym (taker_is j w n h l) ∙ e)).0

  module _ {most : ℕ} (accepted : IsAcceptedUpTo most p) where
    -- if a station answers, somebody takes the call
    takers_answer : (j w k : ℕ) → j < atoms p → w < words p → k < stations s
        → answers s j (state_of p s station w) k ≡ true → (n : ℕ) × (n < units p) × (is_busy w n ≡ false)
    takers_answer j w k h l g e = elim (cases_eq w (full_word p)) [
      | inr ne ↦ free_exists (units p) w l ne
      | inl same ↦ absurd (true≢false
          (sym (first_has_room s (order_of s j) (state_of p s station w) k e)
          ∙ no_room_if_busy p s station t w k g (λ n i q. ap (λ v. is_busy v n) same ∙ full_busy (units p) n i)))
    ]

    -- the shares of a call that the crews of a station take together: all of them if the station answers, else none
    pub station_share : (j w k c : ℕ) → j < atoms p → w < words p → k < stations s
        → class_sum (units p) station (λ n. cond (takes p j w n) (c * portion p j w) 0) k
        ≡ cond (answers s j (state_of p s station w) k) (split p * c) 0
    station_share j w k c h l g = on_test (answers s j (state_of p s station w) k)
        (λ yes.
        let free = takers_answer j w k h l g yes in
        sum-same (units p) (λ n. cond (eqb (station n) k) (cond (takes p j w n) (c * portion p j w) 0) 0)
        (λ n. cond (takes p j w n) (c * portion p j w) 0)
        (λ n i. on_test (takes p j w n)
        (λ y. ap (λ b. cond b (cond (takes p j w n) (c * portion p j w) 0) 0) (eq-eqb (station n) k
        (first_alone s (order_of s j) (state_of p s station w) (station n) k (taker_answers j w n h i y) yes)))
        (λ no. ap (λ b. cond (eqb (station n) k) (cond b (c * portion p j w) 0) 0) no
        ∙ nothing (eqb (station n) k) ∙ sym (ap (λ b. cond b (c * portion p j w) 0) no)))
        ∙ omega (
          arith,
          choices_sum (units p) (c * portion p j w) (λ n. takes p j w n),
          ap (λ a. c * a) (portion_is p accepted j w h (takers_positive p accepted j w free.0 h free.1 free.2)),
          ap (λ b. cond b (split p * c) 0) yes,
        ))
        (λ no.
        class_same (units p) station (λ n. cond (takes p j w n) (c * portion p j w) 0) (λ n. 0) k
        (λ n i e. ap (λ b. cond b (c * portion p j w) 0)
        (taker_is j w n h i
        ∙ ap (λ b. b && is_free w n) (ap (λ m. answers s j (state_of p s station w) m) e ∙ no)))
        ∙ sum_none (units p) (λ n. cond {A = ℕ} (eqb (station n) k) 0 0) (λ n i. nothing (eqb (station n) k))
        ∙ sym (ap (λ b. cond b (split p * c) 0) no))
      where
        nothing : (b : Bool) → cond {A = ℕ} b 0 0 ≡ 0
        nothing true = refl
        nothing false = refl
