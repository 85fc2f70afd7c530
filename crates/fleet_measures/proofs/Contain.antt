-- The ends of a fleet's measures contain them, in every solution of the plan with a unit for each crew.
use Rattle.std.proofs.Common.{◌≡◌, ℕ, ◌-◌, ◌*◌, ◌<◌, ◌≤◌, false, List, [], ◌∷◌, ◌++◌, length, map, refl, sym, ap, subst, ◌∙◌, arith}
use Rattle.std.specs.Prelude.{All}
use Rattle.std.specs.List.{range_with_len}
use Rattle.std.proofs.lemmas.List.Elements.{All-nil, All-cons, All-head, All-tail, All-append, All-map}
use Rattle.fixed_interval.specs.Ends.{Ends}
use Rattle.fixed_interval.specs.WeightList.{EnclosesAll, ends_at}
use Rattle.fixed_interval.proofs.Scaled.{AreScaled, holds_of_list}
use Rattle.hyper_model.specs.declared.kinds.Line.{Line}
use Rattle.hyper_model.specs.declared.kinds.Line.TheVariants as line
use Rattle.hyper_model.specs.declared.kinds.Measure.{Measure}
use Rattle.hyper_model.specs.declared.kinds.Measure.TheVariants as measure
use Rattle.hyper_model.specs.declared.kinds.Subject.{Subject}
use Rattle.hyper_model.specs.declared.kinds.Subject.TheVariants as subject
use Rattle.hyper_model.specs.declared.kinds.Found.{Found}
use Rattle.hyper_model.specs.declared.kinds.Found.TheVariants as found
use Rattle.hyper_model.specs.declared.kinds.Enclosed.{Enclosed}
use Rattle.hyper_model.specs.declared.parts.PlanParts.{PlanParts}
use Rattle.hyper_model.specs.Measures.{base, measure_of, is_silent, is_without, scale_of, subject_of, AreContained, IsContained, IsFoundOf, IsInRange, IsSubjectOf}
use Rattle.hyper_model.specs.Plans.{units, atoms, all_calls}
use Rattle.hyper_model.specs.Solutions.{mass_in, IsSolution, IsTail}
use Rattle.hyper_model.specs.Sums.{sum_below}
use Rattle.hyper_model.specs.Words.{full_word}
use Rattle.hyper_model.proofs.Ranges.{all_range}
use Rattle.busy_words.specs.MeasureEnds.{measure_ends}
use Rattle.busy_words.specs.WeightParts.{EnclosesMasses}
use Rattle.busy_words.proofs.MeasureEnds.{contains_ratio}
use Rattle.busy_words.proofs.SetParts.{scaled_in_all}
use Rattle.workload_measures.specs.LoadEnds.{line_measures, loss_ends, queue_ends, wait_ends}
use Rattle.workload_measures.proofs.Contain.{line_contained, line_in_range, workload_contained}
use Rattle.dispatch_fractions.specs.PartLists.{PartList, HasParts, parts_from}
use Rattle.dispatch_fractions.specs.Fractions.{fractions_of, interdistrict_of}
use Rattle.dispatch_fractions.proofs.Contain.{all_dispatches, dispatches_contained, dispatches_in_range}
use Rattle.dispatch_fractions.proofs.Holding.{masses_have_parts, parts_are}
use Rattle.travel_measures.specs.TravelEnds.{travel_times_of}
use Rattle.travel_measures.proofs.Contain.{all_times, times_contained, times_in_range}
use Rattle.crew_stations.specs.CrewMeasures.{crew_measure, exhausted_share}
use Rattle.crew_stations.specs.Expanded.{station_of, expanded}
use Rattle.crew_stations.specs.Fleets.{IsFleet}
use Rattle.crew_stations.specs.Laws.{MeasuresAreOfStates, SharesAreOfStates}
use Rattle.crew_stations.specs.StateMeasures.{answerable, full_share, state_measure, total}
use Rattle.crew_stations.specs.Stations.{StationPlan, stations}
use Rattle.crew_stations.proofs.Exhausted.{shares_are_of_states}
use Rattle.crew_stations.proofs.Expanding.{accepted, of_crews, stationed}
use Rattle.crew_stations.proofs.Parts.{same_calls, full_mass as full_word_mass}
use Rattle.crew_stations.proofs.Positive.{positive_states, second_positive}
use Rattle.crew_stations.proofs.Ratios.{measures_are_of_states, same_of_multiple, spare_service}
use Rattle.fleet_measures.specs.declared.kinds.FleetMeasure.TheVariants as fleet
use Rattle.fleet_measures.specs.declared.kinds.FleetEnds.{FleetEnds}
use Rattle.fleet_measures.specs.FleetEnclosures.{AreFleetMeasures, answers_from, crew_workload_of, full_of, of_station}
use Rattle.fleet_measures.specs.FleetMeasures.{AreInFleet, ContainsCrews, IsFleetFound, IsInFleet}
use Rattle.fleet_measures.specs.Pooled.{EncloseCrews, crews_mass, masses_by_state, pooled, pooled_masses, state_places}
use Rattle.fleet_measures.proofs.Gathering.{gathered_enclose, masses_one_each, number}
use Rattle.fleet_measures.proofs.Pooling.{units_are, all_service_is, pooled_accepted}
use Rattle.fleet_measures.proofs.PooledMeasures as pools
use Rattle.fleet_measures.proofs.Workloads.{all_numbers, workload_held}

-- what three facts of each item give
all_of_three : {X : Type 0} (P Q R S : X → Type 0) → ((x : X) → P x → Q x → R x → S x) → (xs : List X) → All P xs → All Q xs
    → All R xs → All S xs
all_of_three P Q R S h [] p q r = All-nil S
all_of_three P Q R S h (x ∷ xs) p q r =
    All-cons S x xs (h x (All-head P x xs p) (All-head Q x xs q) (All-head R x xs r))
    (all_of_three P Q R S h xs (All-tail P x xs p) (All-tail Q x xs q) (All-tail R x xs r))

-- a measure of a unit of the pooled plan is one of a station
silent_as : (s : StationPlan) (about : Subject) → is_silent (pooled s) about ≡ is_silent s.parts about
silent_as s subject.Region = refl
silent_as s (subject.Unit k) = refl
silent_as s (subject.Atom j) = refl
silent_as s (subject.UnitAndAtom k j) = refl
silent_as s (subject.District k) = refl

subject_as : (s : StationPlan) (about : Subject) → IsSubjectOf (pooled s) about → IsSubjectOf s.parts about
subject_as s subject.Region r = r
subject_as s (subject.Unit k) r = omega (arith, r, units_are s)
subject_as s (subject.Atom j) r = r
subject_as s (subject.UnitAndAtom k j) r = (omega (arith, r.0, units_are s), r.1)
subject_as s (subject.District k) r = omega (arith, r, units_are s)

-- all lists but that of the workloads
abbrev IsOther : Enclosed → Type 0
IsOther e = pools.is_workload e.measure ≡ false

line_other : (p : PlanParts) (l : Line) (items : List Ends) → All IsOther (line_measures l p items)
line_other p line.Zero items =
    All-cons IsOther (measure_ends measure.Loss (loss_ends p items)) [] refl (All-nil IsOther)
line_other p line.Infinite items =
    let wait = measure_ends measure.Wait (wait_ends p items) in
    let queue = measure_ends measure.Queue (queue_ends p items) in
    All-cons IsOther (measure_ends measure.Delay (loss_ends p items)) (queue ∷ wait ∷ []) refl
    (All-cons IsOther queue (wait ∷ []) refl (All-cons IsOther wait [] refl (All-nil IsOther)))

-- what holds of the items of each of a fleet's lists holds of all
all_measures : (P : FleetEnds → Type 0) (s : StationPlan) (items : List Ends) (list : List FleetEnds)
    → (m : AreFleetMeasures s items list)
    → All P (map of_station (line_measures s.parts.line (pooled s) m.gathered))
    → ((k : ℕ) → k < stations s → P (crew_workload_of s items k))
    → ((k : ℕ) → k < stations s → P (full_of (pooled s) m.order m.gathered k))
    → All P (answers_from (pooled s) (parts_from (pooled s) m.order (ends_at m.gathered))) → All P list
all_measures P s items list m lines workloads fulls answers =
    let line = map of_station (line_measures s.parts.line (pooled s) m.gathered) in
    let loads = map (crew_workload_of s items) (range_with_len 0 (stations s)) in
    let full = map (full_of (pooled s) m.order m.gathered) (range_with_len 0 (stations s)) in
    let rest = answers_from (pooled s) (parts_from (pooled s) m.order (ends_at m.gathered)) in
    subst (All P) (sym m.exact)
    (All-append P ((line ++ loads) ++ full) rest
    (All-append P (line ++ loads) full
    (All-append P line loads lines (all_range P (crew_workload_of s items) (stations s) workloads))
    (all_range P (full_of (pooled s) m.order m.gathered) (stations s) fulls)) answers)

-- an item of the pooled plan's lists is of the fleet
item_in_fleet : (s : StationPlan) (items : List Enclosed) → All (λ e. IsInRange (pooled s) e.measure) items
    → AreInFleet s (map of_station items)
item_in_fleet s items r =
    All-map (λ (e : FleetEnds). IsInFleet s e.measure) of_station items
    (all_of_three (λ e. IsInRange (pooled s) e.measure) (λ e. IsInRange (pooled s) e.measure)
    (λ e. IsInRange (pooled s) e.measure) (λ e. IsInFleet s (of_station e).measure)
    (λ e p q t. subject_as s (subject_of e.measure) p) items r r r)

pub fleet_in_range : (s : StationPlan) (items : List Ends) (list : List FleetEnds) → AreFleetMeasures s items list
    → AreInFleet s list
fleet_in_range s items list m =
    let parts = parts_from (pooled s) m.order (ends_at m.gathered) in
    all_measures (λ e. IsInFleet s e.measure) s items list m
    (item_in_fleet s (line_measures s.parts.line (pooled s) m.gathered) (line_in_range (pooled s) s.parts.line m.gathered))
    (λ k l. l) (λ k l. l)
    (item_in_fleet s ((fractions_of (pooled s) parts ++ interdistrict_of (pooled s) parts) ++ travel_times_of (pooled s) parts)
    (All-append (λ e. IsInRange (pooled s) e.measure) (fractions_of (pooled s) parts ++ interdistrict_of (pooled s) parts)
    (travel_times_of (pooled s) parts) (dispatches_in_range (pooled s) parts) (times_in_range (pooled s) parts)))

module _ (s : StationPlan) (f : IsFleet s) (items : List Ends) (list : List FleetEnds) (m : AreFleetMeasures s items list)
    (e : EncloseCrews s items) (xs : List ℕ) (z : ℕ) (solves : IsSolution (expanded s) xs z) where
  abbrev y : ℕ → ℕ
  y = crews_mass s xs

  abbrev p : PlanParts
  p = pooled s

  idle : s.parts.line ≡ line.Zero → z ≡ 0
  idle is = subst (λ l. IsTail l (expanded s) xs z) is solves.tail

  tail_on : (l : Line) → IsTail l (expanded s) xs z → IsTail l p (pooled_masses s y) z
  tail_on line.Zero t = t
  tail_on line.Infinite t =
      let stands = stationed s f.accepted in
      let spare = spare_service (expanded s) s (station_of s) stands (accepted s f.accepted) (mass_in xs) z in
      let pooled_spare = ap (λ c. c - all_calls s.parts) (all_service_is s) in
      ap (λ c. c * z) (pooled_spare ∙ sym spare)
      ∙ t
      ∙ ap (λ c. c * mass_in xs (full_word (expanded s))) (same_calls (expanded s) s (station_of s) stands)
      ∙ ap (λ c. all_calls s.parts * c)
      (full_word_mass (expanded s) s (station_of s) stands (mass_in xs) ∙ sym (pools.full_mass s f y z))

  some_answered : 0 < answerable s y z
  some_answered =
      second_positive (1000 * all_calls s.parts) (answerable s y z)
      (positive_states _ s f.accepted xs z solves (measure.TravelAtom 0) (some_atom (f.accepted.atoms.number.low)) refl)
    where
      some_atom : 1 ≤ atoms s.parts → 0 < atoms s.parts
      some_atom l = omega (arith, l)

  some_base : 0 < base p (mass_in (pooled_masses s y)) z
  some_base = omega (arith, some_answered, pools.base_is s f y z)

  state_weights : EnclosesAll items (masses_by_state s y z)
  state_weights = e xs z solves

  same_length : length items ≡ state_places s
  same_length = state_weights.same_length ∙ masses_one_each s y z

  some_total : 0 < sum_below (state_places s) (number s y z)
  some_total =
      omega (
        arith,
        all_numbers s y z idle,
        pools.mass_is s f y z,
        pools.some_mass s f y z some_base,
      )

  scaled : AreScaled (length items) (ends_at items) (number s y z)
  scaled =
      scaled_in_all (length items) (ends_at items) (number s y z)
      (holds_of_list items (masses_by_state s y z) state_weights)
      (subst (λ n. 0 < sum_below n (number s y z)) (sym same_length) some_total)

  enclosed : EnclosesMasses p m.order m.gathered (pooled_masses s y) z
  enclosed = record {
    tail = tail_on s.parts.line solves.tail;
    some = some_base;
    encloses = gathered_enclose s y z m.order m.ordered items m.gathered m.weights state_weights scaled;
  }

  abbrev pub IsThere : FleetEnds → Type 0
  IsThere i = IsFleetFound s (mass_in xs) z i.measure i.found

  -- an item of the pooled plan's lists
  found_there : (measure : Measure) (what : Found) → IsFoundOf p (mass_in (pooled_masses s y)) z measure what
      → IsInRange p measure → pools.is_workload measure ≡ false → IsFleetFound s (mass_in xs) z (fleet.Of measure) what
  found_there measure (found.Ends lo hi) h r n =
      let within = subject_as s (subject_of measure) r in
      let valued : is_without s.parts measure ≡ false = sym (silent_as s (subject_of measure)) ∙ h.0 in (
        valued,
        pools.contains_same lo hi (scale_of measure) (crew_measure (expanded s) (station_of s) (mass_in xs) z measure)
            (state_measure s y z measure) (measure_of p (mass_in (pooled_masses s y)) z measure)
            (positive_states _ s f.accepted xs z solves measure within valued)
            (same_of_multiple (crew_measure (expanded s) (station_of s) (mass_in xs) z measure) (state_measure s y z measure)
            (of_crews MeasuresAreOfStates measures_are_of_states _ s f.accepted xs z solves measure within))
            (pools.same_parts s f y z measure within n) h.1,
      )
  found_there measure found.Without h r n = sym (silent_as s (subject_of measure)) ∙ h

  items_there : (some : List Enclosed) → AreContained p (mass_in (pooled_masses s y)) z some
      → All (λ i. IsInRange p i.measure) some → All IsOther some → All IsThere (map of_station some)
  items_there some h r n =
      All-map IsThere of_station some
      (all_of_three (IsContained p (mass_in (pooled_masses s y)) z) (λ i. IsInRange p i.measure) IsOther
      (λ i. IsThere (of_station i)) (λ i c q o. found_there i.measure i.found c q o) some h r n)

  workload_there : (k : ℕ) → k < stations s → IsThere (crew_workload_of s items k)
  workload_there k l = (
    refl,
    pools.contains_same _ _ 1000000 (crew_measure (expanded s) (station_of s) (mass_in xs) z (measure.Workload k))
        (state_measure s y z (measure.Workload k)) (state_measure s y z (measure.Workload k))
        (positive_states _ s f.accepted xs z solves (measure.Workload k) l refl)
        (same_of_multiple (crew_measure (expanded s) (station_of s) (mass_in xs) z (measure.Workload k))
        (state_measure s y z (measure.Workload k))
        (of_crews MeasuresAreOfStates measures_are_of_states _ s f.accepted xs z solves (measure.Workload k) l))
        (refl, refl)
        (contains_ratio _ 1000000 _ _ (state_measure s y z (measure.Workload k)) refl refl
        (workload_held s y z idle items same_length
        (subst (λ n. AreScaled n (ends_at items) (number s y z)) same_length scaled) k)),
  )

  whole_there : 0 < total s y z
  whole_there = omega (arith, pools.some_mass s f y z some_base, pools.mass_is s f y z)

  full_there : (k : ℕ) → k < stations s → IsThere (full_of p m.order m.gathered k)
  full_there k l =
      let inside = workload_contained p (pooled_accepted s f) m.order m.ordered m.gathered (pooled_masses s y) z enclosed k
      (let h : k < units p = omega (arith, l, units_are s) in h) in (
        refl,
        pools.contains_same _ _ 1000000 (exhausted_share (expanded s) (station_of s) (mass_in xs) z k)
            (full_share s y z k) (measure_of p (mass_in (pooled_masses s y)) z (measure.Workload k))
            whole_there
            (same_of_multiple (exhausted_share (expanded s) (station_of s) (mass_in xs) z k) (full_share s y z k)
            (of_crews SharesAreOfStates shares_are_of_states _ s f.accepted xs z solves k l))
            (pools.full_is s f y z k l, pools.mass_is s f y z) inside.1,
      )

  abbrev parts : PartList
  parts = parts_from p m.order (ends_at m.gathered)

  having : HasParts p (pooled_masses s y) z parts
  having =
      masses_have_parts p (pooled_accepted s f) m.order m.ordered m.gathered (pooled_masses s y) z enclosed parts
      (parts_are p m.order (ends_at m.gathered))

  answers_there : All IsThere (answers_from p parts)
  answers_there =
      items_there ((fractions_of p parts ++ interdistrict_of p parts) ++ travel_times_of p parts)
      (All-append (IsContained p (mass_in (pooled_masses s y)) z) (fractions_of p parts ++ interdistrict_of p parts)
      (travel_times_of p parts) (dispatches_contained p parts (pooled_masses s y) z having)
      (times_contained p parts (pooled_masses s y) z having))
      (All-append (λ i. IsInRange p i.measure) (fractions_of p parts ++ interdistrict_of p parts) (travel_times_of p parts)
      (dispatches_in_range p parts) (times_in_range p parts))
      (All-append IsOther (fractions_of p parts ++ interdistrict_of p parts) (travel_times_of p parts)
      (all_dispatches IsOther p parts (λ n j l k. refl) refl (λ n l. refl) (λ n l. refl))
      (all_times IsOther p parts refl (λ j i. refl) (λ n l. refl) (λ n l. refl)))

  pub fleet_there : All IsThere list
  fleet_there =
      all_measures IsThere s items list m
      (items_there (line_measures s.parts.line p m.gathered)
      (line_contained p (pooled_accepted s f) m.order m.ordered m.gathered (pooled_masses s y) z enclosed s.parts.line refl)
      (line_in_range p s.parts.line m.gathered) (line_other p s.parts.line m.gathered))
      workload_there full_there answers_there

pub fleet_contained : (s : StationPlan) → IsFleet s → (items : List Ends) (list : List FleetEnds)
    → AreFleetMeasures s items list → EncloseCrews s items → ContainsCrews s list
fleet_contained s f items list m e xs z solves = fleet_there s f items list m e xs z solves
