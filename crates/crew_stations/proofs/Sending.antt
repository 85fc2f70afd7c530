-- The rates at which the crews of a station are sent and end their services.
use Rattle.std.proofs.Common.{◌≡◌, ℕ, ◌*◌, ◌<◌, Bool, true, false, cond, refl, ap, ◌∙◌, arith}
use Rattle.hyper_model.specs.declared.parts.PlanParts.{PlanParts}
use Rattle.hyper_model.specs.Sums.{sum_below}
use Rattle.hyper_model.specs.Plans.{units, atoms, service_of, calls_of, split, IsAcceptedUpTo}
use Rattle.hyper_model.specs.Words.{words, is_busy, takes, portion}
use Rattle.hyper_model.specs.Rates.{up, down}
use Rattle.hyper_model.proofs.Sums.{sum-same, sum-scaled}
use Rattle.crew_stations.specs.Lumps.{class_sum}
use Rattle.crew_stations.specs.Stations.{StationPlan, stations, crew_service, answers, sent_rate, ended_rate}
use Rattle.crew_stations.specs.Standing.{IsStationed, state_of}
use Rattle.crew_stations.proofs.Lumping.{class_same, class_scaled, class_swap}
use Rattle.crew_stations.proofs.Counting.{busy_count, busy_is}
use Rattle.crew_stations.proofs.Answering.{station_share}

module _ (p : PlanParts) (s : StationPlan) (station : ℕ → ℕ) (t : IsStationed p s station) where
  pub ended_by : (w k : ℕ) → k < stations s
      → class_sum (units p) station (down p w) k ≡ split p * ended_rate s (state_of p s station w) k
  ended_by w k l =
      class_same (units p) station (down p w) (λ n. split p * crew_service s k * busy_count w n) k
      (λ n h e. ap (λ c. cond (is_busy w n) (split p * c) 0) (t.service n h ∙ ap (λ m. service_of s.parts m) e)
      ∙ as_count (is_busy w n) (split p * crew_service s k))
      ∙ class_scaled (units p) station (split p * crew_service s k) (busy_count w) k
      ∙ omega (arith, ap (λ c. split p * crew_service s k * c) (busy_is p s station t w k l))
    where
      as_count : (b : Bool) (r : ℕ) → cond b r 0 ≡ r * cond b 1 0
      as_count true r = omega arith
      as_count false r = omega arith

  pub sent_by : {most : ℕ} → IsAcceptedUpTo most p → (w k : ℕ) → w < words p → k < stations s
      → class_sum (units p) station (up p w) k ≡ split p * sent_rate s (state_of p s station w) k
  sent_by accepted w k h l =
      class_swap (units p) station (atoms p) (λ j n. cond (takes p j w n) (calls_of p j * portion p j w) 0) k
      ∙ sum-same (atoms p)
      (λ j. class_sum (units p) station (λ n. cond (takes p j w n) (calls_of p j * portion p j w) 0) k)
      (λ j. split p * cond (answers s j (state_of p s station w) k) (calls_of s.parts j) 0)
      (λ j g.
      station_share p s station t accepted j w k (calls_of p j) g h l
      ∙ ap (λ c. cond (answers s j (state_of p s station w) k) (split p * c) 0) (t.calls j g)
      ∙ factor_out (answers s j (state_of p s station w) k) (split p) (calls_of s.parts j))
      ∙ sum-scaled (atoms p) (split p) (λ j. cond (answers s j (state_of p s station w) k) (calls_of s.parts j) 0)
      ∙ ap (λ n. split p * sum_below n (λ j. cond (answers s j (state_of p s station w) k) (calls_of s.parts j) 0))
      t.same_atoms
    where
      factor_out : (b : Bool) (g r : ℕ) → cond b (g * r) 0 ≡ g * cond b r 0
      factor_out true g r = refl
      factor_out false g r = omega arith
