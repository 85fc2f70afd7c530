-- The weights of a fleet's states: they are pushed one after the other, and enclose what the masses bound.
use Rattle.std.proofs.Common.{◌≡◌, ℕ, ◌+◌, ◌-◌, ◌*◌, ◌^◌, ◌<◌, ◌≤◌, List, [], ◌∷◌, ◌++◌, length, map, refl, sym, ap, ap₂, subst, ◌∙◌, arith}
use Rattle.std.specs.List.{range_with_len}
use Rattle.std.specs.Prelude.{slice_index}
use Rattle.std.proofs.lemmas.List.{append-nil, length-map, length_push}
use Rattle.std.proofs.lemmas.List.FromFn.{fill_by_all, length-map-range_with_len}
use Rattle.std.proofs.Math.Nat.{le_of_mul-le-mul_left}
use Rattle.fixed_interval.specs.Ends.{Ends, between, shifted_ends}
use Rattle.fixed_interval.specs.WeightList.{EnclosesAll, PushesShifted, ends_at}
use Rattle.fixed_interval.proofs.Rounding.{div_ceil-positive, rounded-cross, rounded-ordered}
use Rattle.fixed_interval.proofs.Shifts.{pushed_unshifted}
use Rattle.hyper_model.specs.declared.kinds.Line.{Line}
use Rattle.hyper_model.specs.declared.kinds.Line.TheVariants as line
use Rattle.hyper_model.specs.declared.parts.PlanParts.{PlanParts}
use Rattle.hyper_model.specs.Plans.{all_calls, IsAcceptedUpTo}
use Rattle.hyper_model.specs.Solutions.{IsSolution, IsTail, mass_in}
use Rattle.hyper_model.specs.Tables.{SolvesTable}
use Rattle.hyper_model.specs.Words.{full_word}
use Rattle.hyper_model.proofs.ListPlaces.{listed_at}
use Rattle.hyper_model.proofs.PlanLaws.{full_below, stable_of, word_positive}
use Rattle.hyper_model.proofs.Ranges.{map_more}
use Rattle.crew_stations.specs.Standing.{IsStationed, state_mass}
use Rattle.crew_stations.specs.Stations.{StationPlan, fleet_service, full_state, states, state_table}
use Rattle.crew_stations.proofs.Balance.{states_balance}
use Rattle.crew_stations.proofs.Parts.{full_mass, same_calls, same_service, states_full}
use Rattle.queue_tail.specs.Tail.{IsTailOf, tail_weight}
use Rattle.queue_tail.proofs.Tail.{tail_encloses}
use Rattle.state_certificate.specs.Certificates.{AreWidest, BoundSolutions}
use Rattle.state_certificate.proofs.MaximumPrinciple.{certificates_bound}
use Rattle.station_flows.specs.CertifiedStates.{AreCertifiedStateWeights, EncloseEverySolution, GainsWaiting, masses_by_place, places_on, tail_masses, weights_between}

-- the weight of one state more
pub weights_more : (low high : ℕ → ℕ) (n : ℕ) (old new : List Ends) (w : Ends) → old ≡ weights_between low high n
    → w ≡ shifted_ends 10 (between (low n) (high n)) → w.hi ≤ 2 ^ 52 → PushesShifted old new w
    → new ≡ weights_between low high (n + 1)
weights_more low high n old new w so_far is most pushes =
    map_more (λ state. shifted_ends 10 (between (low state) (high state))) [] old new n w so_far is
    (pushed_unshifted old new w pushes most)

-- how many weights there are with that of the waiting calls
pub waiting_count : (l : Line) (s : StationPlan) (old new : List Ends) → GainsWaiting l s old new → length old ≡ states s
    → length new ≡ places_on l s
waiting_count line.Zero s old new same count = ap (λ list. length list) same ∙ count
waiting_count line.Infinite s old new gains count =
    let weight = tail_weight (all_calls s.parts) (fleet_service s) (ends_at old (length old - 1)) in
    ap (λ list. length list) gains.items
    ∙ length-map (old ++ weight ∷ []) (shifted_ends gains.power)
    ∙ length_push old weight
    ∙ ap (λ n. n + 1) count

module _ (s : StationPlan) where
  mass_here : (y : ℕ → ℕ) (a : ℕ) → a < states s → slice_index (map y (range_with_len 0 (states s))) a ≡ y a
  mass_here y a l = listed_at y (states s) a 0 l

  module _ (low high : ℕ → ℕ) where
    weight_here : (a : ℕ) → a < states s
        → ends_at (weights_between low high (states s)) a ≡ shifted_ends 10 (between (low a) (high a))
    weight_here a l = listed_at (λ state. shifted_ends 10 (between (low state) (high state))) (states s) a (between 0 0) l

    pub count : length (weights_between low high (states s)) ≡ states s
    count = length-map-range_with_len (λ state. shifted_ends 10 (between (low state) (high state))) 0 (states s)

    -- the widest masses give the widest weights
    pub widest_weights : AreWidest (states s) low high
        → weights_between low high (states s) ≡ weights_between (λ _. 0) (λ _. 1) (states s)
    widest_weights w =
        fill_by_all (λ _. shifted_ends 10 (between 0 1)) (weights_between low high (states s)) (states s) (between 0 0) count
        (λ a l. weight_here a l ∙ ap₂ (λ x y. shifted_ends 10 (between x y)) (w.lowest a l) (w.highest a l))

    -- masses that bound every solution, as weights enclose it
    pub states_enclose : BoundSolutions (states s) (state_table s) low high → (y : ℕ → ℕ)
        → SolvesTable (states s) (state_table s) y
        → EnclosesAll (weights_between low high (states s)) (map y (range_with_len 0 (states s)))
    states_enclose bound y solves = record {
      same_length = count ∙ sym (length-map-range_with_len y 0 (states s));
      in_ratio = λ i k l m.
          let i_inside : i < states s = omega (arith, l, count) in
          let k_inside : k < states s = omega (arith, m, count) in
          rw (weight_here i i_inside, weight_here k k_inside, mass_here y i i_inside, mass_here y k k_inside)
          (rounded-cross (2 ^ 10) (low i) (high k) (y k) (y i) (omega arith)
          (bound.in_ratio y solves i k i_inside k_inside));
      positive = λ k l some.
          let inside : k < states s = omega (arith, l, count) in
          rw (weight_here k inside) (div_ceil-positive (high k) (2 ^ 10) (omega arith) (bound.positive k inside));
    }

  module _ (most : ℕ) (p : PlanParts) (station : ℕ → ℕ) (a : IsAcceptedUpTo most p) (t : IsStationed p s station)
      (xs : List ℕ) (z : ℕ) (e : IsSolution p xs z) where
    abbrev y : ℕ → ℕ
    y = state_mass p s station (mass_in xs)

    last_state : states s - 1 ≡ full_state s
    last_state = omega (arith, states_full p s station t)

    last_inside : full_state s < states s
    last_inside = omega (arith, states_full p s station t)

    -- the mass of the waiting calls is the tail's, by the last of the masses in the order of the states
    pub tail_by_place : s.parts.line ≡ line.Infinite
        → IsTailOf (all_calls s.parts) (fleet_service s) (map y (range_with_len 0 (states s))) z
    tail_by_place is =
        ap₂ (λ service calls. (service - calls) * z) (sym (same_service p s station t)) (sym (same_calls p s station t))
        ∙ subst (λ l. IsTail l p xs z) (t.line ∙ is) e.tail
        ∙ ap₂ (λ calls m. calls * m) (same_calls p s station t)
        (full_mass p s station t (mass_in xs)
        ∙ sym (ap (λ n. mass_in (map y (range_with_len 0 (states s))) (n - 1)) (length-map-range_with_len y 0 (states s))
        ∙ ap (mass_in (map y (range_with_len 0 (states s)))) last_state
        ∙ mass_here y (full_state s) last_inside))

    -- calls do not come faster than all crews serve, if they wait
    stable : s.parts.line ≡ line.Infinite → all_calls s.parts < fleet_service s
    stable is =
        omega (arith, stable_of p a (t.line ∙ is), same_calls p s station t, same_service p s station t)

    -- masses that bound every solution are in order at the last state, since a solution has a mass there
    last_ordered : (low high : ℕ → ℕ) → BoundSolutions (states s) (state_table s) low high
        → low (full_state s) ≤ high (full_state s)
    last_ordered low high bound =
        let some : 0 < y (full_state s) =
        omega (arith, full_mass p s station t (mass_in xs), word_positive p a xs e.words (full_word p) (full_below p)) in
        let in_ratio = bound.in_ratio y (states_balance most p s station a t xs z e).table (full_state s) (full_state s) last_inside
        last_inside in
        le_of_mul-le-mul_left
        (let g : y (full_state s) * low (full_state s) ≤ y (full_state s) * high (full_state s) =
        omega (arith, in_ratio) in g) some

    pub certified_encloses : (items : List Ends) → AreCertifiedStateWeights s items → EnclosesAll items (masses_by_place s y z)
    certified_encloses items w = on_line s.parts.line refl w.waiting
      where
        low : ℕ → ℕ
        low = w.states.low

        high : ℕ → ℕ
        high = w.states.high

        bound : BoundSolutions (states s) (state_table s) low high
        bound = certificates_bound (states s) (state_table s) low high w.states.certified

        states_are : EnclosesAll w.before (map y (range_with_len 0 (states s)))
        states_are =
            subst (λ list. EnclosesAll list (map y (range_with_len 0 (states s)))) (sym w.states.weights)
            (states_enclose low high bound y (states_balance most p s station a t xs z e).table)

        length_is : length w.before ≡ states s
        length_is = ap (λ list. length list) w.states.weights ∙ count low high

        ordered : (ends_at w.before (length w.before - 1)).lo ≤ (ends_at w.before (length w.before - 1)).hi
        ordered =
            let here : ends_at w.before (length w.before - 1)
            ≡ shifted_ends 10 (between (low (full_state s)) (high (full_state s))) =
            ap (λ n. ends_at w.before (n - 1)) length_is
            ∙ ap (λ n. ends_at w.before n) last_state
            ∙ ap (λ list. ends_at list (full_state s)) w.states.weights
            ∙ weight_here low high (full_state s) last_inside in
            rw here
            (rounded-ordered (2 ^ 10) (low (full_state s)) (high (full_state s)) (omega arith) (last_ordered low high bound))

        on_line : (l : Line) → s.parts.line ≡ l → GainsWaiting l s w.before items
            → EnclosesAll items (map y (range_with_len 0 (states s)) ++ tail_masses l z)
        on_line line.Zero is same =
            subst (λ list. EnclosesAll list (map y (range_with_len 0 (states s)) ++ [])) (sym same)
            (subst (λ ys. EnclosesAll w.before ys) (sym (append-nil (map y (range_with_len 0 (states s))))) states_are)
        on_line line.Infinite is gains =
            tail_encloses (all_calls s.parts) (fleet_service s) w.before items (stable is)
            (omega (arith, length_is, last_inside)) ordered gains (map y (range_with_len 0 (states s))) z (tail_by_place is)
            states_are

-- certified weights enclose every solution
pub certified_enclose : (s : StationPlan) (items : List Ends) → AreCertifiedStateWeights s items → EncloseEverySolution s items
certified_enclose s items w most p station a t xs z e = certified_encloses s most p station a t xs z e items w
