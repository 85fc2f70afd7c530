-- The chain of the states: each state but the first has a rate to an earlier one, since a busy crew ends its service.
use Rattle.std.proofs.Common.{◌≡◌, ℕ, zero, suc, ◌+◌, ◌-◌, ◌*◌, ◌/◌, ◌<◌, ◌≤◌, cond, eqb, eqb-true, eq-eqb, sym, ap, ◌∙◌, inl, inr, arith}
use Rattle.std.proofs.lemmas.Bool.{cases_lt, eqb-false}
use Rattle.std.proofs.Math.Nat.{mod-add-div, mod-lt, mod-eq_of_lt, div-lt_iff_lt-mul, mul-pos}
use Rattle.hyper_model.specs.Tables.{Descends}
use Rattle.hyper_model.proofs.Bits.{all_or_one}
use Rattle.hyper_model.proofs.Chains.{are_proportional}
use Rattle.hyper_model.proofs.Sums.{place_le_sum}
use Rattle.crew_stations.specs.FleetLaws.{HoldsForFleets}
use Rattle.crew_stations.specs.Spreads.{AreStatesProportional}
use Rattle.crew_stations.specs.Stations.{StationPlan, stations, crews_at, crew_service, stride, stride_of, states, busy_in, sent_rate, ended_rate, state_table, IsAcceptedFleet}
use Rattle.crew_stations.proofs.Neighbours.{digit, digit_le, digit_low}
use Rattle.crew_stations.proofs.Radix.{stride_positive}

-- a number without digits is 0
no_digits : (crews : ℕ → ℕ) (n a : ℕ) → a < stride crews n → ((k : ℕ) → k < n → digit crews k a ≡ 0) → a ≡ 0
no_digits crews zero a l h = omega (arith, l)
no_digits crews (suc n) a l h =
    let small : a / stride crews n < crews n + 1 =
    (div-lt_iff_lt-mul (stride_positive crews n)).1 (let g : a < (crews n + 1) * stride crews n = omega (arith, l) in g) in
    let none : a / stride crews n ≡ 0 = sym (mod-eq_of_lt small) ∙ h n (omega arith) in
    no_digits crews n a
    (omega (
      arith,
      mod-add-div a (stride crews n),
      ap (λ c. stride crews n * c) none,
      mod-lt a (stride_positive crews n),
    ))
    (λ k g. h k (omega (arith, g)))

module _ (s : StationPlan) (serves : (k : ℕ) → k < stations s → 0 < crews_at s k → 0 < crew_service s k) where
  -- the rate to the state with one busy crew less
  rate_down : (a k : ℕ) → k < stations s → 0 < busy_in s a k → stride_of s k ≤ a
      → 0 < state_table s a (a - stride_of s k)
  rate_down a k l pos high =
      let is : a - stride_of s k + stride_of s k ≡ a = omega (arith, high) in
      let most = digit_le (crews_at s) k a in
      omega (
        arith,
        mul-pos pos (serves k l (omega (arith, pos, most))),
        ap (λ c. cond c (ended_rate s a k) 0) (eq-eqb (a - stride_of s k + stride_of s k) a is),
        place_le_sum (stations s) (λ i.
            cond (eqb (a - stride_of s k) (a + stride_of s i)) (sent_rate s a i) 0
            + cond (eqb (a - stride_of s k + stride_of s i) a) (ended_rate s a i) 0) k l,
      )

  pub states_descend : Descends (states s) (state_table s)
  states_descend a pos l = elim (all_or_one (stations s) (λ k. eqb (busy_in s a k) 0)) [
    | inl all ↦
        let none = no_digits (crews_at s) (stations s) a l (λ k h. eqb-true (busy_in s a k) 0 (all k h)) in
        absurd (omega (arith, none, pos))
    | inr one ↦
        let k : ℕ = one.0 in
        let ne = eqb-false (busy_in s a k) 0 one.2 in
        let busy : 0 < busy_in s a k = omega (arith, ne) in
        let high : stride_of s k ≤ a = elim (cases_lt a (stride_of s k)) [
          | inl low ↦ absurd (omega (arith, busy, digit_low (crews_at s) k a low))
          | inr g ↦ omega (arith, g)
        ] in (
          a - stride_of s k,
          omega (arith, high, stride_positive (crews_at s) k),
          rate_down a k one.1 busy high,
        )
  ]

serves_of : {most : ℕ} (s : StationPlan) → IsAcceptedFleet most s
    → (k : ℕ) → k < stations s → 0 < crews_at s k → 0 < crew_service s k
serves_of s a k l h = omega (arith, (a.rates k l).low)

pub states_proportional : HoldsForFleets AreStatesProportional
states_proportional most s a = are_proportional (states s) (state_table s) (states_descend s (serves_of s a))
