-- With one crew at each station the words are the states, and the measures are those of the plan.
use Rattle.std.proofs.Common.{◌≡◌, ℕ, zero, suc, ◌+◌, ◌*◌, ◌/◌, ◌%◌, ◌^◌, ◌<◌, ◌≤◌, Bool, true, false, cond, eqb, ◌||◌, List, [], ◌∷◌, length, map, drop, true≢false, refl, sym, ap, subst, ◌∙◌, inl, inr, arith}
use Rattle.std.specs.Int.{bit_at}
use Rattle.std.specs.Prelude.{All}
use Rattle.std.proofs.lemmas.Bool.{cases_lt, ne_eqb}
use Rattle.std.proofs.lemmas.List.{get_or_past}
use Rattle.std.proofs.lemmas.List.Elements.{All-nil, All-cons, All-head, All-tail}
use Rattle.std.proofs.lemmas.Nat.Bits.{bit_at_above, same_from_bits}
use Rattle.hyper_model.specs.declared.kinds.Measure.{Measure}
use Rattle.hyper_model.specs.declared.kinds.Measure.TheVariants as measure
use Rattle.hyper_model.specs.Groups.{row_of, put_before, groups_from}
use Rattle.hyper_model.specs.Laws.{IsSameRatio}
use Rattle.hyper_model.specs.Measures.{busy_mass, mass, dispatch_flow, dispatch_flow_by, measure_of, IsInRange}
use Rattle.hyper_model.specs.Plans.{IsBetween, all_calls, all_service, are_single, IsStable, IsAcceptedUpTo}
use Rattle.hyper_model.specs.Solutions.{mass_in}
use Rattle.hyper_model.specs.Words.{words, is_busy}
use Rattle.hyper_model.proofs.Bits.{busy_bit, free_bit}
use Rattle.hyper_model.proofs.Grouping.{groups_head, joined_put, single_put, from_grouped}
use Rattle.hyper_model.proofs.Sums.{on_test, sum-same, sum-at, sum_none, sum-constant}
use Rattle.crew_stations.specs.CrewMeasures.{away_flow, crew_measure}
use Rattle.crew_stations.specs.FleetLaws.{HoldsForFleets}
use Rattle.crew_stations.specs.Lumps.{class_sum}
use Rattle.crew_stations.specs.OneCrew.{HasOneCrewEach, AreWordsStates, AreMeasuresOfPlan}
use Rattle.crew_stations.specs.Standing.{IsStationed, IsCrewGroup, AreCrewGroups, state_of, state_mass}
use Rattle.crew_stations.specs.StateMeasures.{state_measure}
use Rattle.crew_stations.specs.Stations.{StationPlan, stations, crews_at, all_crews, crew_service, fleet_service, order_of, stride_of, IsAcceptedFleet, SolvesStates}
use Rattle.crew_stations.proofs.Counting.{busy_count, busy_is, state_inside}
use Rattle.crew_stations.proofs.Balance.{states_balance}
use Rattle.crew_stations.proofs.Ratios.{same_measure}

-- functions that agree everywhere are equal
agree : {f g : ℕ → ℕ} → ((a : ℕ) → f a ≡ g a) → f ≡ g
agree h = λ i. λ a. h a i

-- groups of one unit each are the units of the list
put_first : (unit : ℕ) (groups : List (List ℕ)) → put_before unit true groups ≡ (unit ∷ []) ∷ groups
put_first unit [] = refl
put_first unit (group ∷ groups) = refl

abbrev pub by_itself : ℕ → List ℕ
by_itself k = k ∷ []

pub singles : (order : List ℕ) (begins : List Bool) → are_single (groups_from order begins) ≡ true
    → groups_from order begins ≡ map by_itself order
singles [] begins e = refl
singles (k ∷ order) [] e =
    put_first k (groups_from order [])
    ∙ ap (λ groups. (k ∷ []) ∷ groups) (singles order [] (sym (single_put k (groups_from order [])) ∙ e))
singles (k ∷ order) (true ∷ begins) e =
    put_first k (groups_from order begins)
    ∙ ap (λ groups. (k ∷ []) ∷ groups) (singles order begins (sym (single_put k (groups_from order begins)) ∙ e))
singles (k ∷ []) (false ∷ begins) e = refl
singles (k ∷ m ∷ order) (false ∷ begins) e =
    let head = groups_head m order begins in
    absurd (true≢false (sym e
    ∙ ap (λ groups. are_single (put_before k false groups)) head.1.1
    ∙ joined_put k m head.0 head.1.0))

-- the class of a number that is its own class
own_class : (n : ℕ) (f : ℕ → ℕ) (k : ℕ) → k < n → class_sum n (λ v. v) f k ≡ f k
own_class n f k l = sum-at n f k l

module _ {most : ℕ} (s : StationPlan) (a : IsAcceptedFleet most s) (one : HasOneCrewEach s) where
  all_service_is : fleet_service s ≡ all_service s.parts
  all_service_is =
      sum-same (stations s) (λ k. crews_at s k * crew_service s k) (crew_service s)
      (λ k l. ap (λ c. c * crew_service s k) (one k l) ∙ omega arith)

  all_crews_are : all_crews s ≡ stations s
  all_crews_are = sum-same (stations s) (crews_at s) (λ k. 1) one ∙ sum-constant (stations s) 1 ∙ omega arith

  -- the plan is accepted as it stands
  accepted : IsAcceptedUpTo most s.parts
  accepted = record {
    units = record {
      number = subst (λ n. IsBetween 1 most n) all_crews_are a.number;
      named = a.named;
      rates = a.rates;
      service = omega (arith, a.service, all_service_is);
    };
    atoms = a.atoms;
    lists = a.lists;
    locations = a.locations;
    travel = a.travel;
    period = a.period;
    stable = subst (λ c. IsStable s.parts.line (all_calls s.parts) c) all_service_is a.stable;
  }

  own_group : (k : ℕ) → k < stations s → IsCrewGroup (stations s) (λ n. n) k (by_itself k)
  own_group k l = record {
    within = All-cons (λ n. n < stations s) k [] l (All-nil (λ n. n < stations s));
    members = λ n h. only (eqb k n);
  }
    where
      only : (b : Bool) → (b || false) ≡ b
      only true = refl
      only false = refl

  own_groups : (order : List ℕ) → All (λ k. k < stations s) order
      → AreCrewGroups (stations s) (λ n. n) (stations s) order (map by_itself order)
  own_groups [] h = tt
  own_groups (k ∷ order) h =
      let l = All-head (λ i. i < stations s) k order h in
      (l, own_group k l, own_groups order (All-tail (λ i. i < stations s) k order h))

  stationed : IsStationed s.parts s (λ n. n)
  stationed = record {
    inside = λ n l. l;
    crews = λ k l. own_class (stations s) (λ n. 1) k l ∙ sym (one k l);
    service = λ n l. refl;
    same_atoms = refl;
    calls = λ j l. refl;
    districts = λ j l. refl;
    groups = λ j l.
        subst (λ groups. AreCrewGroups (stations s) (λ n. n) (stations s) (order_of s j) groups)
        (sym (singles (order_of s j) (drop 1 (row_of s.parts.lists j).begins) (a.single j l)))
        (own_groups (order_of s j)
        (from_grouped (stations s) (order_of s j) (drop 1 (row_of s.parts.lists j).begins) (a.lists.grouped j l)).within);
    columns = refl;
    located = λ n k l h. refl;
    travel = refl;
    line = refl;
    period = refl;
  }

  -- the strides are powers of two, and so there are as many states as words
  stride_is : (k : ℕ) → k ≤ stations s → stride_of s k ≡ 2 ^ k
  stride_is zero l = refl
  stride_is (suc k) l =
      omega (
        arith,
        ap (λ c. stride_of s k * (c + 1)) (one k (omega (arith, l))),
        stride_is k (omega (arith, l)),
      )

  -- a word's state has its number
  word_is : (w : ℕ) → w < words s.parts → state_of s.parts s (λ n. n) w ≡ w
  word_is w l = same_from_bits (state_of s.parts s (λ n. n) w) w (λ k. elim (cases_lt k (stations s)) [
    | inl h ↦
        ap (λ d. state_of s.parts s (λ n. n) w / d % 2) (sym (stride_is k (omega (arith, h))))
        ∙ ap (λ c. state_of s.parts s (λ n. n) w / stride_of s k % c)
        (let e : 2 ≡ crews_at s k + 1 = omega (arith, one k h) in e)
        ∙ busy_is s.parts s (λ n. n) stationed w k h
        ∙ own_class (stations s) (busy_count w) k h
        ∙ as_bit k
    | inr g ↦
        bit_at_above (state_of s.parts s (λ n. n) w) (stations s) k
        (omega (arith, state_inside s.parts s (λ n. n) stationed w, stride_is (stations s) (omega arith))) g
        ∙ sym (bit_at_above w (stations s) k l g)
  ])
    where
      as_bit : (k : ℕ) → busy_count w k ≡ bit_at w k
      as_bit k = on_test (is_busy w k)
          (λ b. ap {B = ℕ} (λ c. cond c 1 0) b ∙ sym (busy_bit w k b))
          (λ f. ap {B = ℕ} (λ c. cond c 1 0) f ∙ sym (free_bit w k f))

  -- so the mass of a state is that of its word
  own_mass : (xs : List ℕ) → length xs ≡ words s.parts → (b : ℕ)
      → state_mass s.parts s (λ n. n) (mass_in xs) b ≡ mass_in xs b
  own_mass xs e b =
      sum-same (words s.parts) (λ w. cond (eqb (state_of s.parts s (λ n. n) w) b) (mass_in xs w) 0)
      (λ w. cond (eqb w b) (mass_in xs w) 0)
      (λ w l. ap (λ c. cond (eqb c b) (mass_in xs w) 0) (word_is w l))
      ∙ elim (cases_lt b (words s.parts)) [
        | inl l ↦ sum-at (words s.parts) (mass_in xs) b l
        | inr g ↦
            sum_none (words s.parts) (λ w. cond (eqb w b) (mass_in xs w) 0)
            (λ w l. ap (λ c. cond c (mass_in xs w) 0) (ne_eqb w b (omega (arith, l, g))))
            ∙ sym (get_or_past xs b 0 (omega (arith, e, g)))
      ]

  -- the sums over the crews of a station are those of its one crew
  same_parts : (x : ℕ → ℕ) (z : ℕ) (m : Measure) → IsInRange s.parts m
      → ((crew_measure s.parts (λ n. n) x z m).numerator ≡ (measure_of s.parts x z m).numerator)
      × ((crew_measure s.parts (λ n. n) x z m).denominator ≡ (measure_of s.parts x z m).denominator)
  same_parts x z measure.Loss r = (refl, refl)
  same_parts x z measure.Delay r = (refl, refl)
  same_parts x z measure.Queue r = (refl, refl)
  same_parts x z measure.Wait r = (refl, refl)
  same_parts x z (measure.Workload k) r =
      (own_class (stations s) (busy_mass s.parts x z) k r, own_class (stations s) (λ n. mass s.parts x z) k r)
  same_parts x z (measure.Dispatch k j) r = (own_class (stations s) (λ n. dispatch_flow s.parts x z n j) k r.0, refl)
  same_parts x z measure.Interdistrict r = (refl, refl)
  same_parts x z (measure.InterdistrictUnit k) r = (
    own_class (stations s) (λ n. away_flow s.parts (λ n. n) x z n k) k r,
    own_class (stations s) (dispatch_flow_by s.parts x z) k r,
  )
  same_parts x z (measure.InterdistrictDistrict k) r = (refl, refl)
  same_parts x z measure.Travel r = (refl, refl)
  same_parts x z (measure.TravelAtom j) r = (refl, refl)
  same_parts x z (measure.TravelUnit k) r = (
    own_class (stations s) (λ n. (measure_of s.parts x z (measure.TravelUnit n)).numerator) k r,
    own_class (stations s) (λ n. (measure_of s.parts x z (measure.TravelUnit n)).denominator) k r,
  )
  same_parts x z (measure.TravelDistrict k) r = (refl, refl)

  same_ratio : (x y : ℕ → ℕ) (z : ℕ) (m : Measure) → IsInRange s.parts m
      → IsSameRatio (crew_measure s.parts (λ n. n) x z m) (state_measure s y z m)
      → IsSameRatio (measure_of s.parts x z m) (state_measure s y z m)
  same_ratio x y z m r e =
      let parts = same_parts x z m r in
      ap (λ c. c * (state_measure s y z m).denominator) (sym parts.0)
      ∙ e
      ∙ ap (λ c. (state_measure s y z m).numerator * c) parts.1

pub words_are_states : HoldsForFleets AreWordsStates
words_are_states most s a one xs z e =
    subst (λ y. SolvesStates s y z) (agree (own_mass s a one xs e.words.one_each))
    (states_balance most s.parts s (λ n. n) (accepted s a one) (stationed s a one) xs z e)

pub measures_of_plan : HoldsForFleets AreMeasuresOfPlan
measures_of_plan most s a one xs z e m r =
    same_ratio s a one (mass_in xs) (mass_in xs) z m r
    (subst (λ y. IsSameRatio (crew_measure s.parts (λ n. n) (mass_in xs) z m) (state_measure s y z m))
    (agree (own_mass s a one xs e.words.one_each))
    (same_measure s.parts s (λ n. n) (stationed s a one) (accepted s a one) (mass_in xs) z m r))
