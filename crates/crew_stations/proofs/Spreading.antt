-- Words of one state become each other by exchanges of crews of one station, and so have equal masses.
use Rattle.std.proofs.Common.{◌≡◌, ◌≢◌, ℕ, zero, suc, ◌+◌, ◌*◌, ◌<◌, ◌≤◌, Bool, true, false, not, ◌&&◌, ◌||◌, List, cond, eqb, eqb-true, eq-eqb, true≢false, refl, sym, ap, ◌∙◌, inl, inr, arith}
use Rattle.std.proofs.lemmas.Bool.{cases_lt, cases_eq, and_parts, or_parts}
use Rattle.std.proofs.lemmas.Nat.Bits.{bit_at_above}
use Rattle.hyper_model.specs.declared.parts.PlanParts.{PlanParts}
use Rattle.hyper_model.specs.Plans.{units, IsAcceptedUpTo}
use Rattle.hyper_model.specs.Solutions.{mass_in, SolvesWords}
use Rattle.hyper_model.specs.Sums.{sum_below}
use Rattle.hyper_model.specs.Words.{words, is_busy}
use Rattle.hyper_model.proofs.Bits.{all_or_one}
use Rattle.hyper_model.proofs.Chains.{proportional}
use Rattle.hyper_model.proofs.Sums.{on_test, sum-same, sum-scaled, sum_changed, rest_le, positive_place}
use Rattle.crew_stations.specs.Laws.{HoldsAtStations, AreStatesEven}
use Rattle.crew_stations.specs.Spreads.{AreWordsSpread, words_of}
use Rattle.crew_stations.specs.Standing.{IsStationed, busy_at, state_of, state_mass, exchanged_word}
use Rattle.crew_stations.specs.Stations.{StationPlan, stations, crews_at, crew_service, states, state_table, busy_in}
use Rattle.crew_stations.proofs.Counting.{busy_count, busy_is, state_inside}
use Rattle.crew_stations.proofs.Lumped.{table_balance}
use Rattle.crew_stations.proofs.Lumping.{class_same, class_times, class_total}
use Rattle.crew_stations.proofs.StateChain.{states_descend}
use Rattle.crew_stations.proofs.Swapping.{same_word, other, other_first, other_second, other_else, busy_exchanged, exchanged_below, same_state, crews_alike}

not_back : (b : Bool) → not b ≡ false → b ≡ true
not_back true e = refl
not_back false e = absurd (true≢false e)

-- a unit that is busy in the first word and free in the second
abbrev is_extra : ℕ → ℕ → ℕ → Bool
is_extra v w n = is_busy v n && not (is_busy w n)

abbrev extras : ℕ → ℕ → ℕ → ℕ
extras count v w = sum_below count (λ n. cond (is_extra v w n) 1 0)

module _ (p : PlanParts) (s : StationPlan) (station : ℕ → ℕ) (t : IsStationed p s station) where
  -- as many busy crews, all of them among those of the other word, are the same crews
  same_crews : (u w k : ℕ) → ((n : ℕ) → n < units p → station n ≡ k → is_busy u n ≡ true → is_busy w n ≡ true)
      → busy_at (units p) station u k ≡ busy_at (units p) station w k
      → (n : ℕ) → n < units p → station n ≡ k → is_busy w n ≡ true → is_busy u n ≡ true
  same_crews u w k inside same n l e b = on_test (is_busy u n) (λ yes. yes)
      (λ no. absurd (omega (
        arith,
        same,
        rest_le (units p) (λ i. cond (eqb (station i) k) (busy_count u i) 0)
            (λ i. cond (eqb (station i) k) (busy_count w i) 0) n l (λ i h. fewer i h),
        ap (λ c. cond c (busy_count w n) 0) (eq-eqb (station n) k e),
        ap (λ c. cond c (busy_count u n) 0) (eq-eqb (station n) k e),
        ap {B = ℕ} (λ c. cond c 1 0) b,
        ap {B = ℕ} (λ c. cond c 1 0) no,
      )))
    where
      one : (c d : Bool) → (c ≡ true → d ≡ true) → cond {A = ℕ} c 1 0 ≤ cond d 1 0
      one true true f = omega arith
      one true false f = absurd (true≢false (sym (f refl)))
      one false d f = zero_le (cond d 1 0)
        where
          zero_le : (r : ℕ) → 0 ≤ r
          zero_le r = omega arith

      fewer : (i : ℕ) → i < units p
          → cond (eqb (station i) k) (busy_count u i) 0 ≤ cond (eqb (station i) k) (busy_count w i) 0
      fewer i h = on_test (eqb (station i) k)
          (λ y. omega (
            arith,
            ap (λ c. cond c (busy_count u i) 0) y,
            ap (λ c. cond c (busy_count w i) 0) y,
            one (is_busy u i) (is_busy w i) (inside i h (eqb-true (station i) k y)),
          ))
          (λ f. omega (
            arith,
            ap (λ c. cond c (busy_count u i) 0) f,
            ap (λ c. cond c (busy_count w i) 0) f,
          ))

  same_counts : (v w k : ℕ) → k < stations s → state_of p s station v ≡ state_of p s station w
      → busy_at (units p) station v k ≡ busy_at (units p) station w k
  same_counts v w k l e =
      sym (busy_is p s station t v k l) ∙ ap (λ a. busy_in s a k) e ∙ busy_is p s station t w k l

  -- for each crew that is busy only in v there is one of its station that is busy only in w
  partner : (v w a : ℕ) → state_of p s station v ≡ state_of p s station w → a < units p → is_extra v w a ≡ true
      → (b : ℕ) × (b < units p) × (station a ≡ station b) × (is_extra w v b ≡ true)
  partner v w a e l extra =
      let parts = and_parts (is_busy v a) (not (is_busy w a)) extra in
      elim (all_or_one (units p) (λ n. not (eqb (station n) (station a)) || (not (is_busy w n) || is_busy v n))) [
        | inl all ↦
            let also = same_crews w v (station a)
            (λ n h q b. sym (ap (λ c. not c || (not (is_busy w n) || is_busy v n)) (eq-eqb (station n) (station a) q)
            ∙ ap (λ c. not c || is_busy v n) b) ∙ all n h)
            (sym (same_counts v w (station a) (t.inside a l) e)) a l refl parts.0 in
            absurd (true≢false (sym parts.1 ∙ ap not also))
        | inr one ↦
            let outer = or_parts (not (eqb (station one.0) (station a))) (not (is_busy w one.0) || is_busy v one.0) one.2 in
            let inner = or_parts (not (is_busy w one.0)) (is_busy v one.0) outer.1 in (
              one.0,
              one.1,
              sym (eqb-true (station one.0) (station a) (not_back (eqb (station one.0) (station a)) outer.0)),
              ap (λ c. c && not (is_busy v one.0)) (not_back (is_busy w one.0) inner.0) ∙ ap not inner.1,
            )
      ]

  -- their exchange leaves one crew less that is busy only in v
  fewer_extras : (v w a b : ℕ) → a < units p → is_extra v w a ≡ true → is_extra w v b ≡ true
      → extras (units p) v w ≡ extras (units p) (exchanged_word a b v) w + 1
  fewer_extras v w a b l extra lacks =
      let first = and_parts (is_busy v a) (not (is_busy w a)) extra in
      let second = and_parts (is_busy w b) (not (is_busy v b)) lacks in
      omega (
        arith,
        sum_changed (units p) (λ n. cond (is_extra v w n) 1 0) (λ n. cond (is_extra (exchanged_word a b v) w n) 1 0) a l
            (λ n h ne. ap {B = ℕ} (λ c. cond c 1 0) (elsewhere first.0 second.0 second.1 n ne)),
        ap {B = ℕ} (λ c. cond c 1 0) extra,
        ap {B = ℕ} (λ c. cond c 1 0)
            (ap (λ c. c && not (is_busy w a))
            (busy_exchanged a b v a ∙ ap (is_busy v) (other_first a b) ∙ free (is_busy v b) second.1)),
      )
    where
      free : (c : Bool) → not c ≡ true → c ≡ false
      free true e = absurd (true≢false (sym e))
      free false e = refl

      elsewhere : is_busy v a ≡ true → is_busy w b ≡ true → not (is_busy v b) ≡ true
          → (n : ℕ) → n ≢ a → is_extra v w n ≡ is_extra (exchanged_word a b v) w n
      elsewhere busy_a busy_b free_b n ne = elim (cases_eq n b) [
        | inl e ↦
            ap (λ c. c && not (is_busy w n)) (ap (is_busy v) e ∙ free (is_busy v b) free_b)
            ∙ sym (ap (λ c. c && not (is_busy w n))
            (busy_exchanged a b v n ∙ ap (is_busy v) (ap (other a b) e ∙ other_second a b) ∙ busy_a)
            ∙ ap (λ c. not c) (ap (is_busy w) e ∙ busy_b))
        | inr nb ↦
            ap (λ c. c && not (is_busy w n))
            (sym (busy_exchanged a b v n ∙ ap (is_busy v) (other_else a b n ne nb)))
      ]

  -- without such a crew the words are the same
  no_extras : (v w : ℕ) → v < words p → w < words p → state_of p s station v ≡ state_of p s station w
      → ((n : ℕ) → n < units p → not (is_extra v w n) ≡ true) → v ≡ w
  no_extras v w l h e none = same_word v w (λ n. elim (cases_lt n (units p)) [
    | inl g ↦ on_test (is_busy v n)
        (λ b. b ∙ sym (also n g b))
        (λ f. on_test (is_busy w n)
        (λ b. absurd (true≢false (sym (same_crews v w (station n) (λ m i q. also m i)
        (same_counts v w (station n) (t.inside n g) e) n g refl b) ∙ f)))
        (λ free. f ∙ sym free))
    | inr g ↦ ap (λ c. eqb c 1) (bit_at_above v (units p) n l g ∙ sym (bit_at_above w (units p) n h g))
  ])
    where
      must : (c d : Bool) → not (c && not d) ≡ true → c ≡ true → d ≡ true
      must true true q r = refl
      must true false q r = absurd (true≢false (sym q))
      must false d q r = absurd (true≢false (sym r))

      also : (n : ℕ) → n < units p → is_busy v n ≡ true → is_busy w n ≡ true
      also n g b = must (is_busy v n) (is_busy w n) (none n g) b

  pub even : {most : ℕ} → IsAcceptedUpTo most p → (xs : List ℕ) → SolvesWords p xs
      → (fuel v w : ℕ) → v < words p → w < words p → state_of p s station v ≡ state_of p s station w
      → extras (units p) v w < fuel → mass_in xs v ≡ mass_in xs w
  even accepted xs solves zero v w l h e f = absurd (omega (arith, f))
  even accepted xs solves (suc fuel) v w l h e f = elim (all_or_one (units p) (λ n. not (is_extra v w n))) [
    | inl none ↦ ap (mass_in xs) (no_extras v w l h e none)
    | inr one ↦
        let a : ℕ = one.0 in
        let extra = not_back (is_extra v w a) one.2 in
        let b = partner v w a e one.1 extra in
        sym (crews_alike a b.0 p s station t one.1 b.1 b.2 accepted xs solves v l)
        ∙ even accepted xs solves fuel (exchanged_word a b.0 v) w
        (exchanged_below a b.0 (units p) v one.1 b.1 l) h
        (same_state a b.0 p s station t one.1 b.1 b.2 v ∙ e)
        (omega (arith, f, fewer_extras v w a b.0 one.1 extra b.3))
  ]

  serving : {most : ℕ} → IsAcceptedUpTo most p → (k : ℕ) → k < stations s → 0 < crews_at s k → 0 < crew_service s k
  serving accepted k l h =
      let n = positive_place (units p) (λ i. cond {A = ℕ} (eqb (station i) k) 1 0) (omega (arith, h, t.crews k l)) in
      on_test (eqb (station n.0) k)
      (λ y. omega (
        arith,
        (accepted.units.rates n.0 n.1).low,
        t.service n.0 n.1,
        ap (crew_service s) (eqb-true (station n.0) k y),
      ))
      (λ f. absurd (let none = ap {B = ℕ} (λ c. cond c 1 0) f in omega (arith, none, n.2)))

pub states_even : HoldsAtStations AreStatesEven
states_even most p s station accepted t xs z e v w l h same =
    even p s station t accepted xs e.words (suc (extras (units p) v w)) v w l h same (omega arith)

-- a state's mass is that of one of its words, times their number
of_state : {most : ℕ} (p : PlanParts) (s : StationPlan) (station : ℕ → ℕ) → IsAcceptedUpTo most p → IsStationed p s station
    → (xs : List ℕ) → SolvesWords p xs → (w : ℕ) → w < words p
    → state_mass p s station (mass_in xs) (state_of p s station w)
    ≡ words_of p s station (state_of p s station w) * mass_in xs w
of_state p s station accepted t xs e w l =
    class_same (words p) (state_of p s station) (mass_in xs) (λ v. 1 * mass_in xs w) (state_of p s station w)
    (λ v h same. even p s station t accepted xs e (suc (extras (units p) v w)) v w h l same (omega arith) ∙ omega arith)
    ∙ class_times (words p) (state_of p s station) (mass_in xs w) (λ v. 1) (state_of p s station w)

pub words_spread : HoldsAtStations AreWordsSpread
words_spread most p s station accepted t xs z e y solves w l =
    let a : ℕ = state_of p s station w in
    let big : ℕ → ℕ = state_mass p s station (mass_in xs) in
    let each : sum_below (states s) (λ b. y a * big b) ≡ sum_below (states s) (λ b. big a * y b) =
    sum-same (states s) (λ b. y a * big b) (λ b. big a * y b)
    (λ b h. proportional (states s) (state_table s) y big (states_descend s (serving p s station t accepted)) solves
    (table_balance p s station accepted t xs e.words) a b (state_inside p s station t w) h ∙ omega arith) in
    omega (
      arith,
      each,
      sum-scaled (states s) (y a) big,
      sum-scaled (states s) (big a) y,
      ap (λ c. c * sum_below (states s) y) (of_state p s station accepted t xs e.words w l),
      ap (λ c. y a * c) (class_total (words p) (state_of p s station) (states s)
          (λ v h. state_inside p s station t v) (mass_in xs)),
    )
