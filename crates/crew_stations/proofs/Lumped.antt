-- The words' rates into the words of a state depend only on the state that they start from.
use Rattle.std.proofs.Common.{◌≡◌, ℕ, ◌+◌, ◌*◌, ◌<◌, Bool, true, false, List, cond, eqb, refl, sym, ap, ◌∙◌, arith}
use Rattle.hyper_model.specs.declared.parts.PlanParts.{PlanParts}
use Rattle.hyper_model.specs.Sums.{sum_below}
use Rattle.hyper_model.specs.Plans.{units, service_of, split, IsAcceptedUpTo}
use Rattle.hyper_model.specs.Words.{words, is_busy, turned_word}
use Rattle.hyper_model.specs.Rates.{up, down}
use Rattle.hyper_model.specs.Solutions.{mass_in, SolvesWords}
use Rattle.hyper_model.specs.Tables.{SolvesTable, turn_rate, word_table}
use Rattle.hyper_model.proofs.Sums.{on_test, same_test, same_factor, cond_scaled, sum-same, sum-add, sum-scaled, sum-at}
use Rattle.hyper_model.proofs.Bits.{turned_lt}
use Rattle.hyper_model.proofs.PlanLaws.{solves_word_table}
use Rattle.hyper_model.proofs.Takers.{up_busy, split_positive}
use Rattle.hyper_model.proofs.WordTables.{rate_busy, rate_free}
use Rattle.crew_stations.specs.Lumps.{class_sum, IsLumped}
use Rattle.crew_stations.specs.Stations.{StationPlan, stations, stride_of, states, sent_rate, ended_rate, state_table}
use Rattle.crew_stations.specs.Standing.{IsStationed, state_of, state_mass}
use Rattle.crew_stations.proofs.Lumping.{classes_balance, class_swap, sum_of_classes}
use Rattle.crew_stations.proofs.Counting.{state_inside, state_up, state_down}
use Rattle.crew_stations.proofs.Sending.{sent_by, ended_by}

nothing : (b : Bool) (r : ℕ) → r ≡ 0 → cond b r 0 ≡ 0
nothing true r e = e
nothing false r e = refl

module _ {most : ℕ} (p : PlanParts) (s : StationPlan) (station : ℕ → ℕ) (t : IsStationed p s station)
    (accepted : IsAcceptedUpTo most p) where
  -- the rate into a state by units
  by_units : (v b : ℕ) → v < words p
      → class_sum (words p) (state_of p s station) (word_table p v) b
      ≡ sum_below (units p) (λ n. cond (eqb (state_of p s station (turned_word v n)) b) (turn_rate p v n) 0)
  by_units v b l =
      class_swap (words p) (state_of p s station) (units p) (λ n w. cond (eqb w (turned_word v n)) (turn_rate p v n) 0) b
      ∙ sum-same (units p)
      (λ n. class_sum (words p) (state_of p s station) (λ w. cond (eqb w (turned_word v n)) (turn_rate p v n) 0) b)
      (λ n. cond (eqb (state_of p s station (turned_word v n)) b) (turn_rate p v n) 0)
      (λ n h.
      sum-same (words p)
      (λ w. cond (eqb (state_of p s station w) b) (cond (eqb w (turned_word v n)) (turn_rate p v n) 0) 0)
      (λ w. cond (eqb w (turned_word v n)) (cond (eqb (state_of p s station w) b) (turn_rate p v n) 0) 0)
      (λ w k. either_order (eqb (state_of p s station w) b) (eqb w (turned_word v n)) (turn_rate p v n))
      ∙ sum-at (words p) (λ w. cond (eqb (state_of p s station w) b) (turn_rate p v n) 0) (turned_word v n)
      (turned_lt (units p) v n l h))
    where
      either_order : (c d : Bool) (r : ℕ) → cond c (cond d r 0) 0 ≡ cond d (cond c r 0) 0
      either_order true d r = refl
      either_order false true r = refl
      either_order false false r = refl

  -- a unit is sent, or ends its service
  of_unit : (v b n : ℕ) → n < units p
      → cond (eqb (state_of p s station (turned_word v n)) b) (turn_rate p v n) 0
      ≡ cond (eqb b (state_of p s station v + stride_of s (station n))) (up p v n) 0
      + cond (eqb (b + stride_of s (station n)) (state_of p s station v)) (down p v n) 0
  of_unit v b n l = on_test (is_busy v n)
      (λ busy.
      let went = state_down p s station t v n l busy in
      omega (
        arith,
        ap (λ c. cond (eqb (state_of p s station (turned_word v n)) b) c 0) (rate_busy p v n busy),
        nothing (eqb b (state_of p s station v + stride_of s (station n))) (up p v n) (up_busy p v n busy),
        ap (λ c. cond (eqb (b + stride_of s (station n)) (state_of p s station v)) c 0)
            (ap (λ c. cond c (split p * service_of p n) 0) busy),
        ap (λ c. cond c (split p * service_of p n) 0)
            (same_test (state_of p s station (turned_word v n)) b (b + stride_of s (station n)) (state_of p s station v)
            (λ e. omega (arith, e, went)) (λ e. omega (arith, e, went))),
      ))
      (λ free.
      let went = state_up p s station t v n l free in
      omega (
        arith,
        ap (λ c. cond (eqb (state_of p s station (turned_word v n)) b) c 0) (rate_free p v n free),
        nothing (eqb (b + stride_of s (station n)) (state_of p s station v)) (down p v n)
            (ap (λ c. cond c (split p * service_of p n) 0) free),
        ap (λ c. cond c (up p v n) 0)
            (same_test (state_of p s station (turned_word v n)) b b (state_of p s station v + stride_of s (station n))
            (λ e. sym e ∙ went) (λ e. went ∙ sym e)),
      ))

  -- the crews of a station together
  of_station : (v b k : ℕ) → v < words p → k < stations s
      → cond (eqb b (state_of p s station v + stride_of s k)) (class_sum (units p) station (up p v) k) 0
      + cond (eqb (b + stride_of s k) (state_of p s station v)) (class_sum (units p) station (down p v) k) 0
      ≡ split p
      * (cond (eqb b (state_of p s station v + stride_of s k)) (sent_rate s (state_of p s station v) k) 0
      + cond (eqb (b + stride_of s k) (state_of p s station v)) (ended_rate s (state_of p s station v) k) 0)
  of_station v b k l h =
      omega (
        arith,
        ap (λ c. cond (eqb b (state_of p s station v + stride_of s k)) c 0) (sent_by p s station t accepted v k l h),
        ap (λ c. cond (eqb (b + stride_of s k) (state_of p s station v)) c 0) (ended_by p s station t v k h),
        cond_scaled (eqb b (state_of p s station v + stride_of s k)) (split p) (sent_rate s (state_of p s station v) k),
        cond_scaled (eqb (b + stride_of s k) (state_of p s station v)) (split p) (ended_rate s (state_of p s station v) k),
      )

  pub rates_are : (v b : ℕ) → v < words p
      → class_sum (words p) (state_of p s station) (word_table p v) b
      ≡ split p * state_table s (state_of p s station v) b
  rates_are v b l =
      by_units v b l
      ∙ sum-same (units p) (λ n. cond (eqb (state_of p s station (turned_word v n)) b) (turn_rate p v n) 0)
      (λ n. cond (eqb b (state_of p s station v + stride_of s (station n))) (up p v n) 0
      + cond (eqb (b + stride_of s (station n)) (state_of p s station v)) (down p v n) 0)
      (λ n h. of_unit v b n h)
      ∙ sum-add (units p) (λ n. cond (eqb b (state_of p s station v + stride_of s (station n))) (up p v n) 0)
      (λ n. cond (eqb (b + stride_of s (station n)) (state_of p s station v)) (down p v n) 0)
      ∙ ap (λ c. c + sum_below (units p) (λ n. cond (eqb (b + stride_of s (station n)) (state_of p s station v)) (down p v n) 0))
      (sum_of_classes (units p) station (stations s) t.inside (λ k. eqb b (state_of p s station v + stride_of s k)) (up p v))
      ∙ ap (λ c. sum_below (stations s)
      (λ k. cond (eqb b (state_of p s station v + stride_of s k)) (class_sum (units p) station (up p v) k) 0) + c)
      (sum_of_classes (units p) station (stations s) t.inside (λ k. eqb (b + stride_of s k) (state_of p s station v)) (down p v))
      ∙ sym (sum-add (stations s)
      (λ k. cond (eqb b (state_of p s station v + stride_of s k)) (class_sum (units p) station (up p v) k) 0)
      (λ k. cond (eqb (b + stride_of s k) (state_of p s station v)) (class_sum (units p) station (down p v) k) 0))
      ∙ sum-same (stations s)
      (λ k. cond (eqb b (state_of p s station v + stride_of s k)) (class_sum (units p) station (up p v) k) 0
      + cond (eqb (b + stride_of s k) (state_of p s station v)) (class_sum (units p) station (down p v) k) 0)
      (λ k. split p
      * (cond (eqb b (state_of p s station v + stride_of s k)) (sent_rate s (state_of p s station v) k) 0
      + cond (eqb (b + stride_of s k) (state_of p s station v)) (ended_rate s (state_of p s station v) k) 0))
      (λ k h. of_station v b k l h)
      ∙ sum-scaled (stations s) (split p)
      (λ k. cond (eqb b (state_of p s station v + stride_of s k)) (sent_rate s (state_of p s station v) k) 0
      + cond (eqb (b + stride_of s k) (state_of p s station v)) (ended_rate s (state_of p s station v) k) 0)

  -- so the states are classes of the words, with all rates times the factor of the words
  pub is_lumped : IsLumped (words p) (states s) (word_table p) (state_of p s station) (λ a b. split p * state_table s a b)
  is_lumped = record {
    inside = λ v l. state_inside p s station t v;
    sums = λ v b l h. rates_are v b l;
  }

-- a factor of all rates changes no solution
pub unscaled : (n g : ℕ) (rate : ℕ → ℕ → ℕ) (y : ℕ → ℕ) → 0 < g → SolvesTable n (λ a b. g * rate a b) y → SolvesTable n rate y
unscaled n g rate y h e = record {
  positive = e.positive;
  balanced = λ j l.
      same_factor g (y j * sum_below n (rate j)) (sum_below n (λ i. y i * rate i j)) h
      (omega (
        arith,
        e.balanced j l,
        ap (λ c. y j * c) (sum-scaled n g (rate j)),
        sum-same n (λ i. y i * (g * rate i j)) (λ i. g * (y i * rate i j)) (λ i k. omega arith),
        sum-scaled n g (λ i. y i * rate i j),
      ));
}

pub table_balance : {most : ℕ} (p : PlanParts) (s : StationPlan) (station : ℕ → ℕ) → IsAcceptedUpTo most p
    → IsStationed p s station → (xs : List ℕ) → SolvesWords p xs
    → SolvesTable (states s) (state_table s) (state_mass p s station (mass_in xs))
table_balance p s station a t xs e =
    unscaled (states s) (split p) (state_table s) (state_mass p s station (mass_in xs)) (split_positive p)
    (classes_balance (words p) (states s) (word_table p) (state_of p s station) (λ a b. split p * state_table s a b)
    (is_lumped p s station t a) (mass_in xs) (solves_word_table p a xs e))
