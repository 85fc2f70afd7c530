-- The measures of a fleet with a limited number of waiting places, each as a numerator over a denominator (Larson and
-- Odoni, Urban Operations Research, chapter 5). x(w) is the mass of the word w, and q(k) that of the state in which all
-- units are busy and k calls wait. A call that comes finds each state as often as its mass says.
use Rattle.std.specs.Prelude.{ℕ, ◌+◌, ◌-◌, ◌*◌, ◌<◌, List, All}
use Rattle.hyper_model.specs.declared.parts.PlanParts.{PlanParts}
use Rattle.hyper_model.specs.Sums.{sum_below}
use Rattle.hyper_model.specs.Plans.{all_calls}
use Rattle.hyper_model.specs.Solutions.{mass_in}
use Rattle.hyper_model.specs.Measures.{Ratio, ContainsRatio, busy_mass}
use Rattle.hyper_model.specs.Laws.{waiting_in}
use Rattle.finite_line.specs.declared.kinds.FiniteMeasure.{FiniteMeasure}
use Rattle.finite_line.specs.declared.kinds.FiniteMeasure.TheVariants as measure
use Rattle.finite_line.specs.declared.kinds.FiniteEnds.{FiniteEnds}
use Rattle.finite_line.specs.FiniteSolutions.{IsFiniteSolution, queue_mass, whole_mass}

-- the unit is one of so many
abbrev pub IsFiniteInRange : ℕ → FiniteMeasure → Type 0
IsFiniteInRange count (measure.Workload n) = n < count
IsFiniteInRange count m = Prim.Unit {0}

-- the last printed digit of the mean wait is a thousandth of a second, of all else a millionth
abbrev pub finite_scale : FiniteMeasure → ℕ
finite_scale measure.Wait = 1000
finite_scale m = 1000000

-- the calls that wait, summed over the states, each times the state's mass
abbrev pub queued_calls : ℕ → (ℕ → ℕ) → ℕ
queued_calls room q = sum_below (room + 1) (λ k. k * q k)

-- A call is lost if it finds all places taken, and waits if it finds all units busy and a place free. The mean wait is that
-- of the calls that are not lost: the calls that wait over those that come and are not lost (Little's law).
abbrev pub finite_ratio : PlanParts → ℕ → (ℕ → ℕ) → (ℕ → ℕ) → FiniteMeasure → Ratio
finite_ratio p room x q measure.Lost = record { numerator = q room; denominator = whole_mass p room x q }
finite_ratio p room x q measure.Delayed = record { numerator = sum_below room q; denominator = whole_mass p room x q }
finite_ratio p room x q measure.Busy = record { numerator = sum_below (room + 1) q; denominator = whole_mass p room x q }
finite_ratio p room x q measure.Queue = record { numerator = queued_calls room q; denominator = whole_mass p room x q }
finite_ratio p room x q measure.Wait = record {
  numerator = p.period * queued_calls room q;
  denominator = all_calls p * (whole_mass p room x q - q room);
}
finite_ratio p room x q (measure.Workload n) =
    record { numerator = busy_mass p x (waiting_in room q) n; denominator = whole_mass p room x q }

-- the ends of an item contain its measure
abbrev pub IsFiniteContained : PlanParts → ℕ → (ℕ → ℕ) → (ℕ → ℕ) → FiniteEnds → Type 0
IsFiniteContained p room x q e = ContainsRatio e.lo e.hi (finite_scale e.measure) (finite_ratio p room x q e.measure)

-- so does each item of a list, whatever solution the masses are taken from
abbrev pub ContainsFiniteSolutions : PlanParts → ℕ → List FiniteEnds → Type 0
ContainsFiniteSolutions p room items =
    (xs qs : List ℕ) → IsFiniteSolution p room xs qs
    → All (IsFiniteContained p room (mass_in xs) (queue_mass p xs qs)) items

-- in every solution each measure is a ratio over what is not 0
abbrev pub HavePositiveFiniteDenominators : PlanParts → ℕ → Type 0
HavePositiveFiniteDenominators p room =
    (xs qs : List ℕ) → IsFiniteSolution p room xs qs
    → (m : FiniteMeasure) → 0 < (finite_ratio p room (mass_in xs) (queue_mass p xs qs) m).denominator
