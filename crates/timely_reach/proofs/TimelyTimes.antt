-- The mean travel times of the timely plan are a thousand times the shares of the calls that are reached in time.
use Rattle.std.proofs.Common.{◌≡◌, ◌∙◌, ℕ, ◌+◌, ◌*◌, ◌<◌, Bool, true, false, cond, refl, ap, ap₂, arith}
use Rattle.hyper_model.specs.Grid.{IsSized}
use Rattle.hyper_model.specs.declared.parts.PlanParts.{PlanParts}
use Rattle.hyper_model.specs.Sums.{sum_below}
use Rattle.hyper_model.specs.Plans.{units, atoms, service_of, calls_of, all_calls, all_service, district_calls, is_inside, located, travel, split, IsAccepted}
use Rattle.hyper_model.specs.Measures.{mean_travel, queued_mass, taken_mass, travel_among_calls, travel_flow, travel_from_calls, travel_to}
use Rattle.hyper_model.proofs.Sums.{sum-same, sum-scaled}
use Rattle.timely_reach.specs.Reach.{is_timely, timely_calls, timely_flow, timely_pairs, timely_presence, timely_to}
use Rattle.timely_reach.specs.ReachLaws.{AreTimelyTimes}
use Rattle.timely_reach.specs.TimelyPlans.{timely_plan}
use Rattle.timely_reach.proofs.SameMasses.{same_base, same_flow, same_queued}
use Rattle.timely_reach.proofs.TimelyTables.{timely_cell}

-- a thousand where the test holds
thousand_if : (b : Bool) (k : ℕ) → k * cond b 1000 0 ≡ 1000 * cond b k 0
thousand_if true k = omega arith
thousand_if false k = omega arith

thousand_of : (a b t : ℕ) → a * b * (1000 * t) ≡ 1000 * (a * b * t)
thousand_of a b t = omega arith

thousand_times : (a t : ℕ) → a * (1000 * t) ≡ 1000 * (a * t)
thousand_times a t = omega arith

thousand_both : (c t f g : ℕ) → c * (1000 * t) + f * (1000 * g) ≡ 1000 * (c * t + f * g)
thousand_both c t f g = omega arith

module _ (p : PlanParts) (a : IsAccepted p) (sized : IsSized p.travel) (limit : ℕ) where
  abbrev q : PlanParts
  q = timely_plan p limit

  -- a sum over the atoms, each where its trip is timely
  timely_sum : (weight : ℕ → ℕ) (j : ℕ) → j < atoms p
      → sum_below (atoms p) (λ k. weight k * travel q k j)
      ≡ 1000 * sum_below (atoms p) (λ k. cond (is_timely p limit k j) (weight k) 0)
  timely_sum weight j inside =
      sum-same (atoms p) (λ k. weight k * travel q k j) (λ k. 1000 * cond (is_timely p limit k j) (weight k) 0)
      (λ k l.
      ap (λ t. weight k * t) (timely_cell limit p.travel sized k j (omega (arith, a.travel.rows)) (omega (arith, a.travel.cols)))
      ∙ thousand_if (is_timely p limit k j) (weight k))
      ∙ sum-scaled (atoms p) 1000 (λ k. cond (is_timely p limit k j) (weight k) 0)

  pub presence_is : (n j : ℕ) → j < atoms p → mean_travel q n j ≡ 1000 * timely_presence p limit n j
  presence_is n j inside =
      ap (λ k. sum_below k (λ i. located p n i * travel q i j)) a.locations.cols ∙ timely_sum (located p n) j inside

  pub calls_are : (j : ℕ) → j < atoms p → travel_from_calls q j ≡ 1000 * timely_calls p limit j
  calls_are j inside = timely_sum (calls_of p) j inside

  pub pairs_are : travel_among_calls q ≡ 1000 * timely_pairs p limit
  pairs_are =
      sum-same (atoms p) (λ j. calls_of p j * travel_from_calls q j) (λ j. 1000 * (calls_of p j * timely_calls p limit j))
      (λ j l. ap (λ t. calls_of p j * t) (calls_are j l) ∙ thousand_times (calls_of p j) (timely_calls p limit j))
      ∙ sum-scaled (atoms p) 1000 (λ j. calls_of p j * timely_calls p limit j)

  module _ (x : ℕ → ℕ) (z : ℕ) where
    pub flow_is : (n : ℕ) → travel_flow q x n ≡ 1000 * timely_flow p x limit n
    flow_is n =
        sum-same (atoms p) (λ j. calls_of p j * taken_mass p x n j * mean_travel q n j)
        (λ j. 1000 * (calls_of p j * taken_mass p x n j * timely_presence p limit n j))
        (λ j l.
        ap (λ t. calls_of p j * taken_mass p x n j * t) (presence_is n j l)
        ∙ thousand_of (calls_of p j) (taken_mass p x n j) (timely_presence p limit n j))
        ∙ sum-scaled (atoms p) 1000 (λ j. calls_of p j * taken_mass p x n j * timely_presence p limit n j)

    pub flows_are : sum_below (units p) (travel_flow q x) ≡ 1000 * sum_below (units p) (timely_flow p x limit)
    flows_are =
        sum-same (units p) (travel_flow q x) (λ n. 1000 * timely_flow p x limit n) (λ n l. flow_is n)
        ∙ sum-scaled (units p) 1000 (timely_flow p x limit)

    trips_to : (j : ℕ) → j < atoms p
        → sum_below (units p) (λ n. taken_mass p x n j * mean_travel q n j)
        ≡ 1000 * sum_below (units p) (λ n. taken_mass p x n j * timely_presence p limit n j)
    trips_to j inside =
        sum-same (units p) (λ n. taken_mass p x n j * mean_travel q n j)
        (λ n. 1000 * (taken_mass p x n j * timely_presence p limit n j))
        (λ n l.
        ap (λ t. taken_mass p x n j * t) (presence_is n j inside) ∙ thousand_times (taken_mass p x n j) (timely_presence p limit n j))
        ∙ sum-scaled (units p) 1000 (λ n. taken_mass p x n j * timely_presence p limit n j)

    pub to_is : (j : ℕ) → j < atoms p → travel_to q x z j ≡ 1000 * timely_to p x z limit j
    to_is j inside =
        ap (λ l. all_calls p * sum_below (units p) (λ n. taken_mass p x n j * mean_travel q n j)
        + 1000 * split p * l * travel_from_calls q j) (same_queued p limit x z)
        ∙ ap₂ (λ t k. all_calls p * t + 1000 * split p * queued_mass p x z * k) (trips_to j inside) (calls_are j inside)
        ∙ thousand_both (all_calls p) (sum_below (units p) (λ n. taken_mass p x n j * timely_presence p limit n j))
        (1000 * split p * queued_mass p x z) (timely_calls p limit j)

    region_is : all_calls p * sum_below (units p) (travel_flow q x) + 1000 * split p * queued_mass p x z * travel_among_calls q
        ≡ 1000
        * (all_calls p * sum_below (units p) (timely_flow p x limit)
        + 1000 * split p * queued_mass p x z * timely_pairs p limit)
    region_is =
        ap₂ (λ t k. all_calls p * t + 1000 * split p * queued_mass p x z * k) flows_are pairs_are
        ∙ thousand_both (all_calls p) (sum_below (units p) (timely_flow p x limit)) (1000 * split p * queued_mass p x z)
        (timely_pairs p limit)

    unit_is : (n : ℕ)
        → all_calls p * all_service p * travel_flow q x n
        + 1000 * split p * service_of p n * queued_mass p x z * travel_among_calls q
        ≡ 1000
        * (all_calls p * all_service p * timely_flow p x limit n
        + 1000 * split p * service_of p n * queued_mass p x z * timely_pairs p limit)
    unit_is n =
        ap₂ (λ t k. all_calls p * all_service p * t + 1000 * split p * service_of p n * queued_mass p x z * k) (flow_is n) pairs_are
        ∙ thousand_both (all_calls p * all_service p) (timely_flow p x limit n)
        (1000 * split p * service_of p n * queued_mass p x z) (timely_pairs p limit)

    district_is : (n : ℕ)
        → sum_below (atoms p) (λ j. cond (is_inside p n j) (calls_of p j * travel_to q x z j) 0)
        ≡ 1000 * sum_below (atoms p) (λ j. cond (is_inside p n j) (calls_of p j * timely_to p x z limit j) 0)
    district_is n =
        sum-same (atoms p) (λ j. cond (is_inside p n j) (calls_of p j * travel_to q x z j) 0)
        (λ j. 1000 * cond (is_inside p n j) (calls_of p j * timely_to p x z limit j) 0)
        (λ j l.
        ap (λ t. cond (is_inside p n j) (calls_of p j * t) 0) (to_is j l)
        ∙ ap (λ t. cond (is_inside p n j) t 0) (thousand_times (calls_of p j) (timely_to p x z limit j))
        ∙ thousand_out (is_inside p n j) (calls_of p j * timely_to p x z limit j))
        ∙ sum-scaled (atoms p) 1000 (λ j. cond (is_inside p n j) (calls_of p j * timely_to p x z limit j) 0)
      where
        thousand_out : (b : Bool) (t : ℕ) → cond b (1000 * t) 0 ≡ 1000 * cond b t 0
        thousand_out true t = refl
        thousand_out false t = omega arith

  pub timely_times : AreTimelyTimes p limit
  timely_times = record {
    region = λ x z. record {
      numerator = ap (λ l. all_calls p * sum_below (units p) (travel_flow q x) + 1000 * split p * l * travel_among_calls q)
          (same_queued p limit x z)
          ∙ region_is x z;
      denominator = ap (λ b. 1000 * all_calls p * all_calls p * split p * b) (same_base p limit x z);
    };
    atom = λ x z j l. record {
      numerator = to_is x z j l;
      denominator = ap (λ b. 1000 * all_calls p * split p * b) (same_base p limit x z);
    };
    unit = λ x z n. record {
      numerator = ap (λ l. all_calls p * all_service p * travel_flow q x n
          + 1000 * split p * service_of p n * l * travel_among_calls q) (same_queued p limit x z)
          ∙ unit_is x z n;
      denominator = ap (λ v. 1000 * all_calls p * v) (same_flow p limit x z n);
    };
    district = λ x z n. record {
      numerator = district_is x z n;
      denominator = ap (λ b. 1000 * all_calls p * split p * b * district_calls p n) (same_base p limit x z);
    };
  }
