-- The shares of calls whose unit needs at most so many seconds to the scene, each as a numerator over a denominator (Larson
-- 1974; Larson and Odoni, Urban Operations Research, chapter 5). x(w) is the mass of the word w with nobody waiting, z the
-- mass of all states in which a call waits. A unit that is free starts from where it spends its free time, one that takes a
-- call out of the queue from the place of its last call.
use Rattle.std.specs.Prelude.{◌≡◌, ℕ, ◌+◌, ◌*◌, ◌<◌, ◌≤◌, ◌==◌, nat_le, Bool, true, false, if◌then◌else◌, List, [], All}
use Rattle.std.specs.List.{AllZip}
use Rattle.hyper_model.specs.declared.parts.PlanParts.{PlanParts}
use Rattle.hyper_model.specs.declared.values.Value.{Value}
use Rattle.hyper_model.specs.Sums.{sum_below}
use Rattle.hyper_model.specs.Plans.{units, atoms, service_of, calls_of, all_calls, all_service, is_inside, district_calls, located, travel, split}
use Rattle.hyper_model.specs.Solutions.{mass_in, IsSolution}
use Rattle.hyper_model.specs.Measures.{Ratio, ContainsRatio, mass, base, queued_mass, taken_mass, dispatch_flow_by}
use Rattle.timely_reach.specs.declared.kinds.ReachMeasure.{ReachMeasure}
use Rattle.timely_reach.specs.declared.kinds.ReachMeasure.TheVariants as measure
use Rattle.timely_reach.specs.declared.kinds.ReachRow.{ReachRow}

-- atom j is at most so many seconds from atom k
abbrev pub is_timely : PlanParts → ℕ → ℕ → ℕ → Bool
is_timely p limit k j = nat_le (travel p k j) limit

-- the thousandths of its free time that unit n spends where atom j is timely from
abbrev pub timely_presence : PlanParts → ℕ → ℕ → ℕ → ℕ
timely_presence p limit n j = sum_below (atoms p) (λ k. if is_timely p limit k j then located p n k else 0)

-- the calls of the atoms from which atom j is timely
abbrev pub timely_calls : PlanParts → ℕ → ℕ → ℕ
timely_calls p limit j = sum_below (atoms p) (λ i. if is_timely p limit i j then calls_of p i else 0)

-- The same summed over the atoms j, each times its calls: of two calls the rates at which the place of the second is timely
-- from that of the first.
abbrev pub timely_pairs : PlanParts → ℕ → ℕ
timely_pairs p limit = sum_below (atoms p) (λ j. calls_of p j * timely_calls p limit j)

-- the flow of calls that unit n takes at once, each times the thousandths in which it is reached in time
abbrev pub timely_flow : PlanParts → (ℕ → ℕ) → ℕ → ℕ → ℕ
timely_flow p x limit n = sum_below (atoms p) (λ j. calls_of p j * taken_mass p x n j * timely_presence p limit n j)

-- the numerator of the share of atom j's calls, over a denominator that is the same for each atom
abbrev pub timely_to : PlanParts → (ℕ → ℕ) → ℕ → ℕ → ℕ → ℕ
timely_to p x z limit j =
    all_calls p * sum_below (units p) (λ n. taken_mass p x n j * timely_presence p limit n j)
    + 1000 * split p * queued_mass p x z * timely_calls p limit j

-- the calls that are reached in time, at once and out of the queue
abbrev pub timely_at_once : PlanParts → (ℕ → ℕ) → ℕ → ℕ
timely_at_once p x limit = all_calls p * sum_below (units p) (timely_flow p x limit)

abbrev pub timely_answers : PlanParts → (ℕ → ℕ) → ℕ → ℕ → ℕ
timely_answers p x z limit = timely_at_once p x limit + 1000 * split p * queued_mass p x z * timely_pairs p limit

-- The share of the calls that are answered, over the states in which they are; of all calls, over all states: a call that is
-- lost is not reached; and of all calls those that find a free unit which is there in time, without those that wait. Then
-- the shares of an atom's calls, of a unit's, and of a district's, whichever unit answers them.
abbrev pub reached_of : PlanParts → (ℕ → ℕ) → ℕ → ℕ → ReachMeasure → Ratio
reached_of p x z limit measure.Region = record {
  numerator = timely_answers p x z limit;
  denominator = 1000 * all_calls p * all_calls p * split p * base p x z;
}
reached_of p x z limit measure.All = record {
  numerator = timely_answers p x z limit;
  denominator = 1000 * all_calls p * all_calls p * split p * mass p x z;
}
reached_of p x z limit measure.AtOnce = record {
  numerator = timely_at_once p x limit;
  denominator = 1000 * all_calls p * all_calls p * split p * mass p x z;
}
reached_of p x z limit (measure.Atom j) =
    record { numerator = timely_to p x z limit j; denominator = 1000 * all_calls p * split p * base p x z }
reached_of p x z limit (measure.Unit n) = record {
  numerator = all_calls p * all_service p * timely_flow p x limit n
      + 1000 * split p * service_of p n * queued_mass p x z * timely_pairs p limit;
  denominator = 1000 * all_calls p * dispatch_flow_by p x z n;
}
reached_of p x z limit (measure.District n) = record {
  numerator = sum_below (atoms p) (λ j. if is_inside p n j then calls_of p j * timely_to p x z limit j else 0);
  denominator = 1000 * all_calls p * split p * base p x z * district_calls p n;
}

-- the unit and the atom are the plan's
abbrev pub IsReachInRange : PlanParts → ReachMeasure → Type 0
IsReachInRange p (measure.Atom j) = j < atoms p
IsReachInRange p (measure.Unit n) = n < units p
IsReachInRange p (measure.District n) = n < units p
IsReachInRange p m = Prim.Unit {0}

-- no call comes from the district, so nothing can be said of its calls
abbrev pub has_no_calls : PlanParts → ReachMeasure → Bool
has_no_calls p (measure.District n) = district_calls p n == 0
has_no_calls p m = false

-- the ends contain the share, in millionths
abbrev pub IsReachBetween : PlanParts → (ℕ → ℕ) → ℕ → ReachMeasure → ℕ → Value → Type 0
IsReachBetween p x z m limit ends = ContainsRatio ends.lo ends.hi 1000000 (reached_of p x z limit m)

-- a row has ends for each limit, in order, that contain its share; or none if no call comes
pub record IsReachContained (p : PlanParts) (x : ℕ → ℕ) (z : ℕ) (limits : List ℕ) (row : ReachRow) : Type 0 where
  pub contained : has_no_calls p row.measure ≡ false → AllZip (IsReachBetween p x z row.measure) limits row.ends
  pub without : has_no_calls p row.measure ≡ true → row.ends ≡ []

-- so does each row, whatever solution the plan's masses are taken from
abbrev pub ContainsReach : PlanParts → List ℕ → List ReachRow → Type 0
ContainsReach p limits rows =
    (xs : List ℕ) (z : ℕ) → IsSolution p xs z → All (IsReachContained p (mass_in xs) z limits) rows

-- the ends of a share: in order, and at most one, in millionths
pub record IsShare (ends : Value) : Type 0 where
  pub ordered : ends.lo ≤ ends.hi
  pub most : ends.hi ≤ 1000000

-- a row of the plan, with shares
pub record IsReachRow (p : PlanParts) (row : ReachRow) : Type 0 where
  pub in_range : IsReachInRange p row.measure
  pub shares : All IsShare row.ends
