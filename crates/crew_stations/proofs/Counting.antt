-- The busy crews of a station in a word, and the state of the word.
use Rattle.std.proofs.Common.{◌≡◌, ℕ, ◌+◌, ◌*◌, ◌<◌, ◌≤◌, Bool, true, false, not, cond, eqb, ltb, eq-eqb, refl, ap, ◌∙◌, arith}
use Rattle.std.proofs.lemmas.Bool.Decides.{nat_tests}
use Rattle.hyper_model.specs.declared.parts.PlanParts.{PlanParts}
use Rattle.hyper_model.specs.Sums.{sum_below}
use Rattle.hyper_model.specs.Plans.{units}
use Rattle.hyper_model.specs.Words.{is_busy, turned_word}
use Rattle.hyper_model.proofs.Sums.{sum-le, sum_changed, rest_le}
use Rattle.hyper_model.proofs.Bits.{busy_turned, busy_turned_other}
use Rattle.crew_stations.specs.Stations.{StationPlan, stations, crews_at, stride_of, states, busy_in, has_room}
use Rattle.crew_stations.specs.Standing.{IsStationed, busy_at, state_of}
use Rattle.crew_stations.proofs.Lumping.{sum_by_class, class_same}
use Rattle.crew_stations.proofs.Radix.{coded_below, digit_is}

abbrev pub busy_count : ℕ → ℕ → ℕ
busy_count w n = cond (is_busy w n) 1 0

module _ (p : PlanParts) (s : StationPlan) (station : ℕ → ℕ) (t : IsStationed p s station) where
  -- no more crews of a station are busy than it has
  pub busy_le : (w k : ℕ) → k < stations s → busy_at (units p) station w k ≤ crews_at s k
  busy_le w k l =
      omega (
        arith,
        sum-le (units p) (λ n. cond (eqb (station n) k) (busy_count w n) 0) (λ n. cond (eqb (station n) k) 1 0)
            (λ n h. fewer (eqb (station n) k) (is_busy w n)),
        t.crews k l,
      )
    where
      fewer : (b c : Bool) → cond b (cond c 1 0) 0 ≤ cond {A = ℕ} b 1 0
      fewer true true = omega arith
      fewer true false = omega arith
      fewer false c = omega arith

  pub state_inside : (w : ℕ) → state_of p s station w < states s
  state_inside w = coded_below (crews_at s) (busy_at (units p) station w) (stations s) (λ k l. busy_le w k l)

  pub busy_is : (w k : ℕ) → k < stations s → busy_in s (state_of p s station w) k ≡ busy_at (units p) station w k
  busy_is w k l =
      digit_is (crews_at s) (busy_at (units p) station w) (stations s) k (λ i h. busy_le w i h) l

  -- the state as a sum over the units
  state_by_units : (w : ℕ)
      → state_of p s station w ≡ sum_below (units p) (λ n. busy_count w n * stride_of s (station n))
  state_by_units w = sum_by_class (units p) station (stations s) t.inside (busy_count w) (stride_of s)

  turned_state : (w n : ℕ) → n < units p
      → state_of p s station (turned_word w n) + busy_count w n * stride_of s (station n)
      ≡ state_of p s station w + busy_count (turned_word w n) n * stride_of s (station n)
  turned_state w n l =
      omega (
        arith,
        state_by_units w,
        state_by_units (turned_word w n),
        sum_changed (units p) (λ i. busy_count (turned_word w n) i * stride_of s (station i))
            (λ i. busy_count w i * stride_of s (station i)) n l
            (λ i h ne. ap (λ c. cond c 1 0 * stride_of s (station i)) (busy_turned_other w n i ne)),
      )

  -- a crew that is sent, and one that ends its service
  pub state_up : (w n : ℕ) → n < units p → is_busy w n ≡ false
      → state_of p s station (turned_word w n) ≡ state_of p s station w + stride_of s (station n)
  state_up w n l f =
      omega (
        arith,
        turned_state w n l,
        ap (λ c. cond c 1 0 * stride_of s (station n)) f,
        ap (λ c. cond c 1 0 * stride_of s (station n)) (busy_turned w n ∙ ap not f),
      )

  pub state_down : (w n : ℕ) → n < units p → is_busy w n ≡ true
      → state_of p s station (turned_word w n) + stride_of s (station n) ≡ state_of p s station w
  state_down w n l b =
      omega (
        arith,
        turned_state w n l,
        ap (λ c. cond c 1 0 * stride_of s (station n)) b,
        ap (λ c. cond c 1 0 * stride_of s (station n)) (busy_turned w n ∙ ap not b),
      )

  -- with a free crew a station has room
  pub busy_less : (w n : ℕ) → n < units p → is_busy w n ≡ false
      → busy_at (units p) station w (station n) < crews_at s (station n)
  busy_less w n l f =
      omega (
        arith,
        rest_le (units p) (λ i. cond (eqb (station i) (station n)) (busy_count w i) 0)
            (λ i. cond (eqb (station i) (station n)) 1 0) n l
            (λ i h. fewer (eqb (station i) (station n)) (is_busy w i)),
        ap (λ c. cond c (busy_count w n) 0) (eq-eqb (station n) (station n) refl),
        ap {B = ℕ} (λ c. cond c 1 0) (eq-eqb (station n) (station n) refl),
        ap {B = ℕ} (λ c. cond c 1 0) f,
        t.crews (station n) (t.inside n l),
      )
    where
      fewer : (b c : Bool) → cond b (cond c 1 0) 0 ≤ cond {A = ℕ} b 1 0
      fewer true true = omega arith
      fewer true false = omega arith
      fewer false c = omega arith

  -- without one it has none
  pub all_busy : (w k : ℕ) → k < stations s → ((n : ℕ) → n < units p → station n ≡ k → is_busy w n ≡ true)
      → busy_at (units p) station w k ≡ crews_at s k
  all_busy w k l h =
      class_same (units p) station (busy_count w) (λ n. 1) k (λ n g e. ap {B = ℕ} (λ c. cond c 1 0) (h n g e))
      ∙ t.crews k l

  less_test : (a b : ℕ) → a < b → ltb a b ≡ true
  less_test a b l = grind (arith, nat_tests)

  same_less : (a b : ℕ) → a ≡ b → ltb a b ≡ false
  same_less a b e = grind (arith, nat_tests)

  pub room_if_free : (w n : ℕ) → n < units p → is_busy w n ≡ false → has_room s (state_of p s station w) (station n) ≡ true
  room_if_free w n l f =
      ap (λ c. ltb c (crews_at s (station n))) (busy_is w (station n) (t.inside n l))
      ∙ less_test (busy_at (units p) station w (station n)) (crews_at s (station n)) (busy_less w n l f)

  pub no_room_if_busy : (w k : ℕ) → k < stations s → ((n : ℕ) → n < units p → station n ≡ k → is_busy w n ≡ true)
      → has_room s (state_of p s station w) k ≡ false
  no_room_if_busy w k l h =
      ap (λ c. ltb c (crews_at s k)) (busy_is w k l)
      ∙ same_less (busy_at (units p) station w k) (crews_at s k) (all_busy w k l h)
