-- The numbers of a fleet within its limits.
use Rattle.std.proofs.Common.{◌≡◌, ℕ, zero, suc, ◌*◌, ◌<◌, ◌≤◌, ap, inl, inr, arith}
use Rattle.std.proofs.lemmas.Bool.{cases_lt}
use Rattle.std.proofs.Math.Nat.{mul-pos}
use Rattle.hyper_model.specs.declared.TheConstants.{MOST_RATE}
use Rattle.hyper_model.specs.Sums.{sum_below}
use Rattle.hyper_model.proofs.Sums.{place_le_sum, positive_place}
use Rattle.hyper_model.proofs.TravelTimes.{sum_grows}
use Rattle.crew_stations.specs.declared.TheConstants.{MOST_CREWS, MOST_STATES}
use Rattle.crew_stations.specs.Fleets.{IsFleet}
use Rattle.crew_stations.specs.Stations.{StationPlan, stations, crews_at, all_crews, crew_service, fleet_service, stride, stride_of}

stride_next : (crews : ℕ → ℕ) (k : ℕ) → stride crews k ≤ stride crews (suc k)
stride_next crews k = omega (arith)

-- what one busy crew more adds grows from station to station
pub stride_grows : (crews : ℕ → ℕ) (k n : ℕ) → k ≤ n → stride crews k ≤ stride crews n
stride_grows crews k zero l = omega (arith, ap (stride crews) (let e : k ≡ 0 = omega (arith, l) in e))
stride_grows crews k (suc n) l = elim (cases_lt n k) [
  | inl g ↦ omega (arith, ap (stride crews) (let e : k ≡ suc n = omega (arith, l, g) in e))
  | inr h ↦ omega (arith, stride_grows crews k n h, stride_next crews n)
]

module _ (s : StationPlan) (f : IsFleet s) where
  pub crews_small : (k : ℕ) → k < stations s → crews_at s k ≤ MOST_CREWS
  crews_small k l = omega (arith, place_le_sum (stations s) (crews_at s) k l, f.accepted.number.high)

  pub stride_small : (k : ℕ) → k ≤ stations s → stride_of s k ≤ MOST_STATES
  stride_small k l = omega (arith, stride_grows (crews_at s) k (stations s) l, f.few_states)

  -- the service of the first stations is at most that of all
  pub service_so_far : (k : ℕ) → k ≤ stations s → sum_below k (λ i. crews_at s i * crew_service s i) ≤ MOST_RATE
  service_so_far k l =
      omega (arith, sum_grows k (stations s) (λ i. crews_at s i * crew_service s i) l, f.accepted.service)

  -- a station with a crew serves
  pub service_positive : 1 ≤ fleet_service s
  service_positive =
      let place = positive_place (stations s) (crews_at s) (let some : 0 < all_crews s = omega (arith, f.accepted.number.low) in some) in
      let serves : 0 < crews_at s place.0 * crew_service s place.0 = mul-pos place.2 (let h : 0 < crew_service s place.0 = omega (arith, (f.accepted.rates place.0 place.1).low) in h) in
      omega (arith, serves, place_le_sum (stations s) (λ k. crews_at s k * crew_service s k) place.0 place.1)
