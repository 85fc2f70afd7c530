-- The measures of Larson's model, each as a numerator over a denominator (Larson 1974; Larson and Odoni,
-- Urban Operations Research, chapter 5). x(w) is the mass of the word w with nobody waiting, z the mass of
-- all states in which a call waits.
use Rattle.std.specs.Prelude.{◌≡◌, ℕ, ◌+◌, ◌-◌, ◌*◌, ◌<◌, ◌≤◌, ◌==◌, Bool, true, false, if◌then◌else◌, List, [], ◌∷◌, Option, All, codes, find}
use Rattle.std.specs.Str.{bytes_eq}
use Rattle.hyper_model.specs.declared.kinds.Line.{Line}
use Rattle.hyper_model.specs.declared.kinds.Line.TheVariants as line
use Rattle.hyper_model.specs.declared.kinds.Measure.{Measure}
use Rattle.hyper_model.specs.declared.kinds.Measure.TheVariants as measure
use Rattle.hyper_model.specs.declared.kinds.Subject.{Subject}
use Rattle.hyper_model.specs.declared.kinds.Subject.TheVariants as subject
use Rattle.hyper_model.specs.declared.kinds.Found.{Found}
use Rattle.hyper_model.specs.declared.kinds.Found.TheVariants as found
use Rattle.hyper_model.specs.declared.kinds.Enclosed.{Enclosed}
use Rattle.hyper_model.specs.declared.parts.PlanParts.{PlanParts}
use Rattle.hyper_model.specs.Sums.{sum_below}
use Rattle.hyper_model.specs.TravelTimes.{mean_travel_in}
use Rattle.hyper_model.specs.Plans.{units, atoms, service_of, calls_of, all_calls, all_service, is_inside, district_calls, travel, split}
use Rattle.hyper_model.specs.Words.{words, is_busy, full_word, takes, portion}
use Rattle.hyper_model.specs.Solutions.{mass_in, IsSolution}

-- what a measure is, in words: how it is printed and asked for, what it speaks of, and whether it is a time
pub record Description : Type 0 where
  pub word : List ℕ
  pub subject : Subject
  pub is_time : Bool

abbrev pub number_named : List ℕ → Subject → Description
number_named word about = record { word = word; subject = about; is_time = false }

abbrev pub time_named : List ℕ → Subject → Description
time_named word about = record { word = word; subject = about; is_time = true }

-- each measure, described once
abbrev pub description_of : Measure → Description
description_of measure.Loss = number_named (codes "loss") subject.Region
description_of measure.Delay = number_named (codes "delay") subject.Region
description_of measure.Queue = number_named (codes "queue") subject.Region
description_of measure.Wait = time_named (codes "wait") subject.Region
description_of (measure.Workload n) = number_named (codes "workload") (subject.Unit n)
description_of (measure.Dispatch n j) = number_named (codes "dispatch") (subject.UnitAndAtom n j)
description_of measure.Interdistrict = number_named (codes "interdistrict") subject.Region
description_of (measure.InterdistrictUnit n) = number_named (codes "interdistrict-unit") (subject.Unit n)
description_of (measure.InterdistrictDistrict n) = number_named (codes "interdistrict-district") (subject.District n)
description_of measure.Travel = time_named (codes "travel") subject.Region
description_of (measure.TravelAtom j) = time_named (codes "travel-atom") (subject.Atom j)
description_of (measure.TravelUnit n) = time_named (codes "travel-unit") (subject.Unit n)
description_of (measure.TravelDistrict n) = time_named (codes "travel-district") (subject.District n)

abbrev pub word_of : Measure → List ℕ
word_of m = (description_of m).word

abbrev pub subject_of : Measure → Subject
subject_of m = (description_of m).subject

abbrev pub is_time : Measure → Bool
is_time m = (description_of m).is_time

-- the last printed digit of times is a thousandth of a second, of all else a millionth
abbrev pub scale_of : Measure → ℕ
scale_of m = if is_time m then 1000 else 1000000

-- the unit and the atom are the plan's
abbrev pub IsSubjectOf : PlanParts → Subject → Type 0
IsSubjectOf p subject.Region = Prim.Unit {0}
IsSubjectOf p (subject.Unit n) = n < units p
IsSubjectOf p (subject.Atom j) = j < atoms p
IsSubjectOf p (subject.UnitAndAtom n j) = (n < units p) × (j < atoms p)
IsSubjectOf p (subject.District n) = n < units p

abbrev pub IsInRange : PlanParts → Measure → Type 0
IsInRange p m = IsSubjectOf p (subject_of m)

-- no call comes from the district, so nothing can be said of its calls
abbrev pub is_silent : PlanParts → Subject → Bool
is_silent p (subject.District n) = district_calls p n == 0
is_silent p about = false

abbrev pub is_without : PlanParts → Measure → Bool
is_without p m = is_silent p (subject_of m)

abbrev pub is_region : Subject → Bool
is_region subject.Region = true
is_region about = false

abbrev pub is_of_region : Measure → Bool
is_of_region m = is_region (subject_of m)

-- those of the whole region, in the order of a report
abbrev pub region_measures : List Measure
region_measures =
    measure.Loss ∷ measure.Delay ∷ measure.Queue ∷ measure.Wait ∷ measure.Interdistrict ∷ measure.Travel ∷ []

-- the one of them that has the word, if any
unfoldable pub measure_named : List ℕ → Option Measure
measure_named word = find (λ m. bytes_eq word (word_of m)) region_measures

-- the value of a measure
pub record Ratio : Type 0 where
  pub numerator : ℕ
  pub denominator : ℕ

-- the mass of all states
abbrev pub mass : PlanParts → (ℕ → ℕ) → ℕ → ℕ
mass p x z = sum_below (words p) x + z

-- the mass of the states in which unit n is busy
abbrev pub busy_mass : PlanParts → (ℕ → ℕ) → ℕ → ℕ → ℕ
busy_mass p x z n = sum_below (words p) (λ w. if is_busy w n then x w else 0) + z

-- the mass of the states in which a call that comes has to wait
abbrev pub queued_mass_on : Line → PlanParts → (ℕ → ℕ) → ℕ → ℕ
queued_mass_on line.Zero p x z = 0
queued_mass_on line.Infinite p x z = x (full_word p) + z

abbrev pub queued_mass : PlanParts → (ℕ → ℕ) → ℕ → ℕ
queued_mass p x z = queued_mass_on p.line p x z

-- the mass of the states in which a call that comes is answered, at once or later: the full word is the
-- last of the words, and its calls are lost if nobody can wait
abbrev pub base_on : Line → PlanParts → (ℕ → ℕ) → ℕ → ℕ
base_on line.Zero p x z = sum_below (full_word p) x
base_on line.Infinite p x z = mass p x z

abbrev pub base : PlanParts → (ℕ → ℕ) → ℕ → ℕ
base p x z = base_on p.line p x z

-- the mass of the words in which a call of atom j can go to unit n at once, each times the unit's share of
-- the call: its portion of `split p` shares
abbrev pub taken_mass : PlanParts → (ℕ → ℕ) → ℕ → ℕ → ℕ
taken_mass p x n j = sum_below (words p) (λ w. if takes p j w n then x w * portion p j w else 0)

-- the flow of calls of atom j that unit n answers, times all service and times `split p`: those answered at
-- once, and those out of the queue, of which each unit takes the part that its service is of all service
abbrev pub dispatch_flow : PlanParts → (ℕ → ℕ) → ℕ → ℕ → ℕ → ℕ
dispatch_flow p x z n j = calls_of p j * (all_service p * taken_mass p x n j + split p * service_of p n * queued_mass p x z)

-- such flows of unit n to the atoms of unit m's district, and to all others
abbrev pub dispatch_flow_inside : PlanParts → (ℕ → ℕ) → ℕ → ℕ → ℕ → ℕ
dispatch_flow_inside p x z n m = sum_below (atoms p) (λ j. if is_inside p m j then dispatch_flow p x z n j else 0)

abbrev pub dispatch_flow_outside : PlanParts → (ℕ → ℕ) → ℕ → ℕ → ℕ → ℕ
dispatch_flow_outside p x z n m = sum_below (atoms p) (λ j. if is_inside p m j then 0 else dispatch_flow p x z n j)

abbrev pub dispatch_flow_by : PlanParts → (ℕ → ℕ) → ℕ → ℕ → ℕ
dispatch_flow_by p x z n = sum_below (atoms p) (dispatch_flow p x z n)

-- the mean travel time of unit n, free, to atom j, in thousandths of a second
abbrev pub mean_travel : PlanParts → ℕ → ℕ → ℕ
mean_travel p n j = mean_travel_in p.located p.travel n j

-- the seconds of travel to atom j, summed over the atoms that a call comes from, each times its rate
abbrev pub travel_from_calls : PlanParts → ℕ → ℕ
travel_from_calls p j = sum_below (atoms p) (λ i. calls_of p i * travel p i j)

-- The same summed over the atoms j, each times its rate: the mean travel time from one call's place to the
-- next one's, times the square of all calls. A unit that takes a call out of the queue starts where its last
-- call was.
abbrev pub travel_among_calls : PlanParts → ℕ
travel_among_calls p = sum_below (atoms p) (λ j. calls_of p j * travel_from_calls p j)

-- the flow of calls that unit n answers at once, each times the unit's mean travel time to its atom
abbrev pub travel_flow : PlanParts → (ℕ → ℕ) → ℕ → ℕ
travel_flow p x n = sum_below (atoms p) (λ j. calls_of p j * taken_mass p x n j * mean_travel p n j)

-- the numerator of the mean travel time to atom j, over a denominator that is the same for each atom
abbrev pub travel_to : PlanParts → (ℕ → ℕ) → ℕ → ℕ → ℕ
travel_to p x z j =
    all_calls p * sum_below (units p) (λ n. taken_mass p x n j * mean_travel p n j)
    + 1000 * split p * queued_mass p x z * travel_from_calls p j

-- 0, as a ratio: a measure that the plan's line does not have
abbrev pub zero_ratio : Ratio
zero_ratio = record { numerator = 0; denominator = 1 }

abbrev pub loss_on : Line → PlanParts → (ℕ → ℕ) → ℕ → Ratio
loss_on line.Zero p x z = record { numerator = x (full_word p); denominator = mass p x z }
loss_on line.Infinite p x z = zero_ratio

abbrev pub delay_on : Line → PlanParts → (ℕ → ℕ) → ℕ → Ratio
delay_on line.Zero p x z = zero_ratio
delay_on line.Infinite p x z = record { numerator = x (full_word p) + z; denominator = mass p x z }

abbrev pub queue_on : Line → PlanParts → (ℕ → ℕ) → ℕ → Ratio
queue_on line.Zero p x z = zero_ratio
queue_on line.Infinite p x z =
    record { numerator = z * all_service p; denominator = mass p x z * (all_service p - all_calls p) }

abbrev pub wait_on : Line → PlanParts → (ℕ → ℕ) → ℕ → Ratio
wait_on line.Zero p x z = zero_ratio
wait_on line.Infinite p x z = record {
  numerator = p.period * z * all_service p;
  denominator = mass p x z * (all_service p - all_calls p) * all_calls p;
}

abbrev pub measure_of : PlanParts → (ℕ → ℕ) → ℕ → Measure → Ratio
measure_of p x z measure.Loss = loss_on p.line p x z
measure_of p x z measure.Delay = delay_on p.line p x z
measure_of p x z measure.Queue = queue_on p.line p x z
measure_of p x z measure.Wait = wait_on p.line p x z
measure_of p x z (measure.Workload n) =
    record { numerator = busy_mass p x z n; denominator = mass p x z }
measure_of p x z (measure.Dispatch n j) = record {
  numerator = dispatch_flow p x z n j;
  denominator = all_calls p * all_service p * split p * base p x z;
}
measure_of p x z measure.Interdistrict = record {
  numerator = sum_below (units p) (λ n. dispatch_flow_outside p x z n n);
  denominator = sum_below (units p) (dispatch_flow_by p x z);
}
measure_of p x z (measure.InterdistrictUnit n) =
    record { numerator = dispatch_flow_outside p x z n n; denominator = dispatch_flow_by p x z n }
measure_of p x z (measure.InterdistrictDistrict n) = record {
  numerator = sum_below (units p) (λ m. if m == n then 0 else dispatch_flow_inside p x z m n);
  denominator = sum_below (units p) (λ m. dispatch_flow_inside p x z m n);
}
measure_of p x z measure.Travel = record {
  numerator = all_calls p * sum_below (units p) (travel_flow p x)
      + 1000 * split p * queued_mass p x z * travel_among_calls p;
  denominator = 1000 * all_calls p * all_calls p * split p * base p x z;
}
measure_of p x z (measure.TravelAtom j) =
    record { numerator = travel_to p x z j; denominator = 1000 * all_calls p * split p * base p x z }
measure_of p x z (measure.TravelUnit n) = record {
  numerator = all_calls p * all_service p * travel_flow p x n
      + 1000 * split p * service_of p n * queued_mass p x z * travel_among_calls p;
  denominator = 1000 * all_calls p * dispatch_flow_by p x z n;
}
measure_of p x z (measure.TravelDistrict n) = record {
  numerator = sum_below (atoms p) (λ j. if is_inside p n j then calls_of p j * travel_to p x z j else 0);
  denominator = 1000 * all_calls p * split p * base p x z * district_calls p n;
}

-- lo over the scale is at most the ratio, and hi over the scale at least
pub record ContainsRatio (lo hi scale : ℕ) (r : Ratio) : Type 0 where
  pub least : lo * r.denominator ≤ scale * r.numerator
  pub most : scale * r.numerator ≤ hi * r.denominator

abbrev pub IsFoundOf : PlanParts → (ℕ → ℕ) → ℕ → Measure → Found → Type 0
IsFoundOf p x z m (found.Ends lo hi) =
    (is_without p m ≡ false) × ContainsRatio lo hi (scale_of m) (measure_of p x z m)
IsFoundOf p x z m found.Without = is_without p m ≡ true

-- for these masses the measure has a value, and the ends contain it; or nothing was found, and it has none
abbrev pub IsContained : PlanParts → (ℕ → ℕ) → ℕ → Enclosed → Type 0
IsContained p x z e = IsFoundOf p x z e.measure e.found

-- so has each item of a list
abbrev pub AreContained : PlanParts → (ℕ → ℕ) → ℕ → List Enclosed → Type 0
AreContained p x z items = All (IsContained p x z) items

-- each measure of a list is of the plan's units and atoms
abbrev pub AreInRange : PlanParts → List Enclosed → Type 0
AreInRange p items = All (λ e. IsInRange p e.measure) items

-- whatever solution the plan's masses are taken from
abbrev pub ContainsSolutions : PlanParts → List Enclosed → Type 0
ContainsSolutions p items = (xs : List ℕ) (z : ℕ) → IsSolution p xs z → AreContained p (mass_in xs) z items
