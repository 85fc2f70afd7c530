-- At most 200 crews at twelve stations at most have no more than 2^60 states.
use Rattle.std.proofs.Common.{ℕ, zero, suc, ◌+◌, ◌*◌, ◌^◌, ◌<◌, ◌≤◌, inl, inr, arith}
use Rattle.std.proofs.lemmas.Bool.{cases_lt}
use Rattle.std.proofs.lemmas.Nat.{mul-le, pow-add}
use Rattle.std.proofs.Math.Nat.{pow-le-pow_right}
use Rattle.hyper_model.specs.Sums.{sum_below}
use Rattle.hyper_model.proofs.Sums.{place_le_sum}
use Rattle.hyper_model.proofs.TravelTimes.{sum_grows}
use Rattle.crew_stations.specs.Stations.{StationPlan, all_crews, crews_at, stations, stride, stride_of}

-- numbers of busy crews of one station, in binary digits of which 16 take at most 64 crews and those of the station
record HasDigits (count : ℕ) : Type 0 where
  digits : ℕ
  fit : count + 1 ≤ 2 ^ digits
  few : 16 * digits ≤ 64 + count

has_digits : (count : ℕ) → count ≤ 200 → HasDigits count
has_digits count small = elim (cases_lt count 16) [
  | inl a ↦ record { digits = 4; fit = omega (arith, a); few = omega arith }
  | inr a ↦ elim (cases_lt count 32) [
    | inl b ↦ record { digits = 5; fit = omega (arith, b); few = omega (arith, a) }
    | inr b ↦ elim (cases_lt count 64) [
      | inl d ↦ record { digits = 6; fit = omega (arith, d); few = omega (arith, b) }
      | inr d ↦ elim (cases_lt count 128) [
        | inl e ↦ record { digits = 7; fit = omega (arith, e); few = omega (arith, d) }
        | inr e ↦ record { digits = 8; fit = omega (arith, small); few = omega (arith, e) }
      ]
    ]
  ]
]

-- and of the first k stations together
record HaveDigits (crews : ℕ → ℕ) (k : ℕ) : Type 0 where
  digits : ℕ
  fit : stride crews k ≤ 2 ^ digits
  few : 16 * digits ≤ 64 * k + sum_below k crews

have_digits : (crews : ℕ → ℕ) (k : ℕ) → ((i : ℕ) → i < k → crews i ≤ 200) → HaveDigits crews k
have_digits crews zero small = record { digits = 0; fit = omega arith; few = omega arith }
have_digits crews (suc k) small =
    let before = have_digits crews k (λ i lt. small i (omega (arith, lt))) in
    let here = has_digits (crews k) (small k (omega arith)) in
    let both : stride crews k * (crews k + 1) ≤ 2 ^ before.digits * 2 ^ here.digits =
    mul-le (stride crews k) (crews k + 1) (2 ^ before.digits) (2 ^ here.digits) before.fit here.fit in
    record {
      digits = before.digits + here.digits;
      fit = rw (pow-add 2 before.digits here.digits) both;
      few = omega (arith, before.few, here.few);
    }

states_small : (crews : ℕ → ℕ) (k n : ℕ) → k ≤ n → n ≤ 12 → sum_below n crews ≤ 200 → ((i : ℕ) → i < n → crews i ≤ 200)
    → stride crews k ≤ 2 ^ 60
states_small crews k n le most few small =
    let some = have_digits crews k (λ i lt. small i (omega (arith, lt, le))) in
    let sums : sum_below k crews ≤ sum_below n crews = sum_grows k n crews le in
    let digits : some.digits ≤ 60 = omega (arith, some.few, sums, few, le, most) in
    let power : 2 ^ some.digits ≤ 2 ^ 60 = pow-le-pow_right (omega arith) digits in
    omega (arith, some.fit, power)

-- of a fleet with at most 200 crews
pub fleet_stride_small : (s : StationPlan) (k : ℕ) → k ≤ stations s → stations s ≤ 12 → all_crews s ≤ 200 → stride_of s k ≤ 2 ^ 60
fleet_stride_small s k le most few =
    states_small (crews_at s) k (stations s) le most few
    (λ i lt. omega (arith, place_le_sum (stations s) (crews_at s) i lt, few))
