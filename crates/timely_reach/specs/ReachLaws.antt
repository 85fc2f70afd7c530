-- What laws say of shares of calls that are reached in time.
use Rattle.std.specs.Prelude.{◌≡◌, ℕ, ◌*◌, ◌<◌, ◌≤◌, false, List}
use Rattle.hyper_model.specs.declared.kinds.Measure.TheVariants as time
use Rattle.hyper_model.specs.declared.parts.PlanParts.{PlanParts}
use Rattle.hyper_model.specs.Measures.{Ratio, measure_of}
use Rattle.hyper_model.specs.Plans.{atoms}
use Rattle.hyper_model.specs.Solutions.{IsSolution, mass_in}
use Rattle.timely_reach.specs.declared.kinds.ReachMeasure.{ReachMeasure}
use Rattle.timely_reach.specs.declared.kinds.ReachMeasure.TheVariants as measure
use Rattle.timely_reach.specs.Reach.{IsReachInRange, has_no_calls, reached_of}
use Rattle.timely_reach.specs.TimelyPlans.{timely_plan}

-- a ratio of seconds that is a thousand times a share: a thousandth of the one is a millionth of the other
pub record IsThousandfold (seconds share : Ratio) : Type 0 where
  pub numerator : seconds.numerator ≡ 1000 * share.numerator
  pub denominator : seconds.denominator ≡ share.denominator

-- whatever the masses, the mean travel times of the timely plan are a thousand times the shares
pub record AreTimelyTimes (p : PlanParts) (limit : ℕ) : Type 0 where
  pub region : (x : ℕ → ℕ) (z : ℕ)
      → IsThousandfold (measure_of (timely_plan p limit) x z time.Travel) (reached_of p x z limit measure.Region)
  pub atom : (x : ℕ → ℕ) (z j : ℕ) → j < atoms p
      → IsThousandfold (measure_of (timely_plan p limit) x z (time.TravelAtom j)) (reached_of p x z limit (measure.Atom j))
  pub unit : (x : ℕ → ℕ) (z n : ℕ)
      → IsThousandfold (measure_of (timely_plan p limit) x z (time.TravelUnit n)) (reached_of p x z limit (measure.Unit n))
  pub district : (x : ℕ → ℕ) (z n : ℕ)
      → IsThousandfold (measure_of (timely_plan p limit) x z (time.TravelDistrict n)) (reached_of p x z limit (measure.District n))

-- by cross-multiplication
abbrev pub IsAtMost : Ratio → Ratio → Type 0
IsAtMost r s = r.numerator * s.denominator ≤ s.numerator * r.denominator

-- the ratio is one
pub record IsWhole (r : Ratio) : Type 0 where
  pub positive : 0 < r.denominator
  pub one : r.numerator ≡ r.denominator

-- each share that has a value is a ratio over what is not 0
abbrev pub HavePositiveReachDenominators : PlanParts → Type 0
HavePositiveReachDenominators p =
    (xs : List ℕ) (z : ℕ) → IsSolution p xs z → (limit : ℕ) (m : ReachMeasure) → IsReachInRange p m → has_no_calls p m ≡ false
    → 0 < (reached_of p (mass_in xs) z limit m).denominator
