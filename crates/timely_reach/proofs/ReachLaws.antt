-- The shares do not fall as the limit grows; from the longest travel time on the region's is one, and below the shortest all
-- are 0. Their denominators are positive.
use Rattle.std.proofs.Common.{◌≡◌, ◌∙◌, ℕ, ◌+◌, ◌*◌, ◌<◌, ◌≤◌, Bool, true, false, cond, List, refl, ap, ap₂, arith}
use Rattle.std.specs.Prelude.{nat_le}
use Rattle.std.proofs.Math.Nat.{mul-le-mul_left, mul-le-mul_right, mul-pos}
use Rattle.std.proofs.lemmas.Bool.Decides.{nat_tests}
use Rattle.hyper_model.specs.declared.kinds.Measure.TheVariants as time
use Rattle.hyper_model.specs.declared.parts.PlanParts.{PlanParts}
use Rattle.hyper_model.specs.Sums.{sum_below}
use Rattle.hyper_model.specs.Plans.{units, atoms, service_of, calls_of, all_calls, all_service, is_inside, located, travel, split, IsAccepted}
use Rattle.hyper_model.specs.Solutions.{mass_in, IsSolution}
use Rattle.hyper_model.specs.Measures.{base, mass, queued_mass, taken_mass}
use Rattle.hyper_model.proofs.Denominators.{denominator_positive}
use Rattle.hyper_model.proofs.Masses.{mass_positive, taken_room}
use Rattle.hyper_model.proofs.Sums.{sum-add, sum-le, sum-same, sum-scaled, sum-swap, sum_none}
use Rattle.hyper_model.proofs.Takers.{split_positive}
use Rattle.timely_reach.specs.declared.kinds.ReachMeasure.{ReachMeasure}
use Rattle.timely_reach.specs.declared.kinds.ReachMeasure.TheVariants as measure
use Rattle.timely_reach.specs.Reach.{IsReachInRange, has_no_calls, is_timely, reached_of, timely_answers, timely_at_once, timely_calls, timely_flow, timely_pairs, timely_presence, timely_to}
use Rattle.timely_reach.specs.ReachLaws.{IsAtMost, IsWhole}

-- what passes a test against a limit passes it against a greater one
wider : (t limit more k : ℕ) → limit ≤ more → cond (nat_le t limit) k 0 ≤ cond (nat_le t more) k 0
wider t limit more k le = grind (arith, nat_tests)

within : (t limit k : ℕ) → t ≤ limit → cond (nat_le t limit) k 0 ≡ k
within t limit k le = grind (arith, nat_tests)

beyond : (t limit k : ℕ) → limit < t → cond (nat_le t limit) k 0 ≡ 0
beyond t limit k l = grind (arith, nat_tests)

cond_grows : (b : Bool) (k m : ℕ) → k ≤ m → cond b k 0 ≤ cond b m 0
cond_grows true k m le = le
cond_grows false k m le = omega arith

none_where : (b : Bool) (k : ℕ) → k ≡ 0 → cond b k 0 ≡ 0
none_where true k e = e
none_where false k e = refl

over_one : (n m d : ℕ) → n ≤ m → n * d ≤ m * d
over_one n m d le = mul-le-mul_right d le

module _ (p : PlanParts) (limit more : ℕ) (le : limit ≤ more) where
  presence_grows : (n j : ℕ) → timely_presence p limit n j ≤ timely_presence p more n j
  presence_grows n j =
      sum-le (atoms p) (λ k. cond (is_timely p limit k j) (located p n k) 0) (λ k. cond (is_timely p more k j) (located p n k) 0)
      (λ k l. wider (travel p k j) limit more (located p n k) le)

  calls_grow : (j : ℕ) → timely_calls p limit j ≤ timely_calls p more j
  calls_grow j =
      sum-le (atoms p) (λ i. cond (is_timely p limit i j) (calls_of p i) 0) (λ i. cond (is_timely p more i j) (calls_of p i) 0)
      (λ i l. wider (travel p i j) limit more (calls_of p i) le)

  pairs_grow : timely_pairs p limit ≤ timely_pairs p more
  pairs_grow =
      sum-le (atoms p) (λ j. calls_of p j * timely_calls p limit j) (λ j. calls_of p j * timely_calls p more j)
      (λ j l. mul-le-mul_left (calls_of p j) (calls_grow j))

  module _ (x : ℕ → ℕ) (z : ℕ) where
    flow_grows : (n : ℕ) → timely_flow p x limit n ≤ timely_flow p x more n
    flow_grows n =
        sum-le (atoms p) (λ j. calls_of p j * taken_mass p x n j * timely_presence p limit n j)
        (λ j. calls_of p j * taken_mass p x n j * timely_presence p more n j)
        (λ j l. mul-le-mul_left (calls_of p j * taken_mass p x n j) (presence_grows n j))

    at_once_grows : timely_at_once p x limit ≤ timely_at_once p x more
    at_once_grows =
        mul-le-mul_left (all_calls p)
        (sum-le (units p) (timely_flow p x limit) (timely_flow p x more) (λ n l. flow_grows n))

    answers_grow : timely_answers p x z limit ≤ timely_answers p x z more
    answers_grow = omega (arith, at_once_grows, mul-le-mul_left (1000 * split p * queued_mass p x z) pairs_grow)

    to_grows : (j : ℕ) → timely_to p x z limit j ≤ timely_to p x z more j
    to_grows j =
        let trips =
        sum-le (units p) (λ n. taken_mass p x n j * timely_presence p limit n j)
        (λ n. taken_mass p x n j * timely_presence p more n j)
        (λ n l. mul-le-mul_left (taken_mass p x n j) (presence_grows n j)) in
        omega (
          arith,
          mul-le-mul_left (all_calls p) trips,
          mul-le-mul_left (1000 * split p * queued_mass p x z) (calls_grow j),
        )

    unit_grows : (n : ℕ) → (reached_of p x z limit (measure.Unit n)).numerator ≤ (reached_of p x z more (measure.Unit n)).numerator
    unit_grows n =
        omega (
          arith,
          mul-le-mul_left (all_calls p * all_service p) (flow_grows n),
          mul-le-mul_left (1000 * split p * service_of p n * queued_mass p x z) pairs_grow,
        )

    district_grows : (n : ℕ)
        → (reached_of p x z limit (measure.District n)).numerator ≤ (reached_of p x z more (measure.District n)).numerator
    district_grows n =
        sum-le (atoms p) (λ j. cond (is_inside p n j) (calls_of p j * timely_to p x z limit j) 0)
        (λ j. cond (is_inside p n j) (calls_of p j * timely_to p x z more j) 0)
        (λ j l.
        cond_grows (is_inside p n j) (calls_of p j * timely_to p x z limit j) (calls_of p j * timely_to p x z more j)
        (mul-le-mul_left (calls_of p j) (to_grows j)))

    pub reach_grows : (m : ReachMeasure) → IsAtMost (reached_of p x z limit m) (reached_of p x z more m)
    reach_grows measure.Region = over_one _ _ (reached_of p x z limit measure.Region).denominator answers_grow
    reach_grows measure.All = over_one _ _ (reached_of p x z limit measure.All).denominator answers_grow
    reach_grows measure.AtOnce = over_one _ _ (reached_of p x z limit measure.AtOnce).denominator at_once_grows
    reach_grows (measure.Atom j) = over_one _ _ (reached_of p x z limit (measure.Atom j)).denominator (to_grows j)
    reach_grows (measure.Unit n) = over_one _ _ (reached_of p x z limit (measure.Unit n)).denominator (unit_grows n)
    reach_grows (measure.District n) = over_one _ _ (reached_of p x z limit (measure.District n)).denominator (district_grows n)

-- no trip is timely
module _ (p : PlanParts) (limit : ℕ) (none : (k j : ℕ) → k < atoms p → j < atoms p → limit < travel p k j) where
  no_presence : (n j : ℕ) → j < atoms p → timely_presence p limit n j ≡ 0
  no_presence n j h =
      sum_none (atoms p) (λ k. cond (is_timely p limit k j) (located p n k) 0)
      (λ k l. beyond (travel p k j) limit (located p n k) (none k j l h))

  no_calls : (j : ℕ) → j < atoms p → timely_calls p limit j ≡ 0
  no_calls j h =
      sum_none (atoms p) (λ i. cond (is_timely p limit i j) (calls_of p i) 0)
      (λ i l. beyond (travel p i j) limit (calls_of p i) (none i j l h))

  no_pairs : timely_pairs p limit ≡ 0
  no_pairs =
      sum_none (atoms p) (λ j. calls_of p j * timely_calls p limit j)
      (λ j l. let e = ap (λ t. calls_of p j * t) (no_calls j l) in omega (arith, e))

  module _ (x : ℕ → ℕ) (z : ℕ) where
    no_flow : (n : ℕ) → timely_flow p x limit n ≡ 0
    no_flow n =
        sum_none (atoms p) (λ j. calls_of p j * taken_mass p x n j * timely_presence p limit n j)
        (λ j l. let e = ap (λ t. calls_of p j * taken_mass p x n j * t) (no_presence n j l) in omega (arith, e))

    none_at_once : timely_at_once p x limit ≡ 0
    none_at_once =
        ap (λ t. all_calls p * t) (sum_none (units p) (timely_flow p x limit) (λ n l. no_flow n)) ∙ omega arith

    no_answers : timely_answers p x z limit ≡ 0
    no_answers =
        ap₂ (λ t k. t + 1000 * split p * queued_mass p x z * k) none_at_once no_pairs ∙ omega arith

    none_to : (j : ℕ) → j < atoms p → timely_to p x z limit j ≡ 0
    none_to j h =
        let trips : sum_below (units p) (λ n. taken_mass p x n j * timely_presence p limit n j) ≡ 0 =
        sum_none (units p) (λ n. taken_mass p x n j * timely_presence p limit n j)
        (λ n l. let e = ap (λ t. taken_mass p x n j * t) (no_presence n j h) in omega (arith, e)) in
        ap₂ (λ t k. all_calls p * t + 1000 * split p * queued_mass p x z * k) trips (no_calls j h) ∙ omega arith

    pub none_reached : (m : ReachMeasure) → IsReachInRange p m → (reached_of p x z limit m).numerator ≡ 0
    none_reached measure.Region h = no_answers
    none_reached measure.All h = no_answers
    none_reached measure.AtOnce h = none_at_once
    none_reached (measure.Atom j) h = none_to j h
    none_reached (measure.Unit n) h =
        ap₂ (λ t k. all_calls p * all_service p * t + 1000 * split p * service_of p n * queued_mass p x z * k) (no_flow n) no_pairs
        ∙ omega arith
    none_reached (measure.District n) h =
        sum_none (atoms p) (λ j. cond (is_inside p n j) (calls_of p j * timely_to p x z limit j) 0)
        (λ j l.
        none_where (is_inside p n j) (calls_of p j * timely_to p x z limit j)
        (let e = ap (λ t. calls_of p j * t) (none_to j l) in omega (arith, e)))

module _ (p : PlanParts) (a : IsAccepted p) where
  -- the calls that are answered at once, and those that wait, are all that are answered
  pub all_answered : (x : ℕ → ℕ) (z : ℕ)
      → sum_below (units p) (λ n. sum_below (atoms p) (λ j. calls_of p j * taken_mass p x n j))
      + split p * queued_mass p x z * all_calls p
      ≡ split p * base p x z * all_calls p
  all_answered x z =
      let by_atom = sum-swap (units p) (atoms p) (λ n j. calls_of p j * taken_mass p x n j)
      ∙ sum-same (atoms p) (λ j. sum_below (units p) (λ n. calls_of p j * taken_mass p x n j))
      (λ j. calls_of p j * sum_below (units p) (λ n. taken_mass p x n j))
      (λ j l. sum-scaled (units p) (calls_of p j) (λ n. taken_mass p x n j)) in
      let waits = sum-scaled (atoms p) (split p * queued_mass p x z) (calls_of p) in
      let both = sum-add (atoms p) (λ j. calls_of p j * sum_below (units p) (λ n. taken_mass p x n j))
      (λ j. split p * queued_mass p x z * calls_of p j) in
      let each = sum-same (atoms p)
      (λ j. calls_of p j * sum_below (units p) (λ n. taken_mass p x n j) + split p * queued_mass p x z * calls_of p j)
      (λ j. split p * base p x z * calls_of p j)
      (λ j l. let e = ap (λ t. calls_of p j * t) (taken_room p a x z j l) in omega (arith, e)) in
      omega (arith, by_atom, waits, both, each, sum-scaled (atoms p) (split p * base p x z) (calls_of p))

  module _ (limit : ℕ) (most : 100000 ≤ limit) where
    timely_all : (k j h : ℕ) → k < atoms p → j < atoms p → cond (is_timely p limit k j) h 0 ≡ h
    timely_all k j h l i = within (travel p k j) limit h (omega (arith, a.travel.within k j l i))

    all_presence : (n j : ℕ) → n < units p → j < atoms p → timely_presence p limit n j ≡ 1000
    all_presence n j l i =
        sum-same (atoms p) (λ k. cond (is_timely p limit k j) (located p n k) 0) (located p n)
        (λ k h. timely_all k j (located p n k) h i)
        ∙ a.locations.whole n l

    every_call : (j : ℕ) → j < atoms p → timely_calls p limit j ≡ all_calls p
    every_call j i =
        sum-same (atoms p) (λ k. cond (is_timely p limit k j) (calls_of p k) 0) (calls_of p)
        (λ k h. timely_all k j (calls_of p k) h i)

    every_pair : timely_pairs p limit ≡ all_calls p * all_calls p
    every_pair =
        sum-same (atoms p) (λ j. calls_of p j * timely_calls p limit j) (λ j. all_calls p * calls_of p j)
        (λ j l. let e = ap (λ t. calls_of p j * t) (every_call j l) in omega (arith, e))
        ∙ sum-scaled (atoms p) (all_calls p) (calls_of p)

    every_flow : (x : ℕ → ℕ) (n : ℕ) → n < units p
        → timely_flow p x limit n ≡ 1000 * sum_below (atoms p) (λ j. calls_of p j * taken_mass p x n j)
    every_flow x n l =
        sum-same (atoms p) (λ j. calls_of p j * taken_mass p x n j * timely_presence p limit n j)
        (λ j. 1000 * (calls_of p j * taken_mass p x n j))
        (λ j i. let e = ap (λ t. calls_of p j * taken_mass p x n j * t) (all_presence n j l i) in omega (arith, e))
        ∙ sum-scaled (atoms p) 1000 (λ j. calls_of p j * taken_mass p x n j)

    every_answer : (x : ℕ → ℕ) (z : ℕ) → timely_answers p x z limit ≡ 1000 * all_calls p * all_calls p * split p * base p x z
    every_answer x z =
        let taken : ℕ = sum_below (units p) (λ n. sum_below (atoms p) (λ j. calls_of p j * taken_mass p x n j)) in
        let flows : sum_below (units p) (timely_flow p x limit) ≡ 1000 * taken =
        sum-same (units p) (timely_flow p x limit) (λ n. 1000 * sum_below (atoms p) (λ j. calls_of p j * taken_mass p x n j))
        (every_flow x)
        ∙ sum-scaled (units p) 1000 (λ n. sum_below (atoms p) (λ j. calls_of p j * taken_mass p x n j)) in
        ap₂ (λ t k. all_calls p * t + 1000 * split p * queued_mass p x z * k) flows every_pair
        ∙ put_together (all_calls p) taken (split p) (queued_mass p x z) (base p x z) (all_answered x z)
      where
        put_together : (c t g l b : ℕ) → t + g * l * c ≡ g * b * c
            → c * (1000 * t) + 1000 * g * l * (c * c) ≡ 1000 * c * c * g * b
        put_together c t g l b e = let f = ap (λ k. 1000 * c * k) e in omega (arith, f)

    pub whole_reached : (xs : List ℕ) (z : ℕ) → IsSolution p xs z → IsWhole (reached_of p (mass_in xs) z limit measure.Region)
    whole_reached xs z s = record {
      positive = denominator_positive p a xs z s time.Travel tt refl;
      one = every_answer (mass_in xs) z;
    }

  all_positive : (xs : List ℕ) (z : ℕ) → IsSolution p xs z
      → 0 < 1000 * all_calls p * all_calls p * split p * mass p (mass_in xs) z
  all_positive xs z s =
      let come : 0 < all_calls p = omega (arith, a.atoms.calls.low) in
      let both = mul-pos (mul-pos come come) (mul-pos (split_positive p) (mass_positive p xs z s)) in
      omega (arith, both)

  pub reach_positive : (xs : List ℕ) (z : ℕ) → IsSolution p xs z → (limit : ℕ) (m : ReachMeasure) → IsReachInRange p m
      → has_no_calls p m ≡ false → 0 < (reached_of p (mass_in xs) z limit m).denominator
  reach_positive xs z s limit measure.Region h v = denominator_positive p a xs z s time.Travel tt refl
  reach_positive xs z s limit measure.All h v = all_positive xs z s
  reach_positive xs z s limit measure.AtOnce h v = all_positive xs z s
  reach_positive xs z s limit (measure.Atom j) h v = denominator_positive p a xs z s (time.TravelAtom j) h refl
  reach_positive xs z s limit (measure.Unit n) h v = denominator_positive p a xs z s (time.TravelUnit n) h refl
  reach_positive xs z s limit (measure.District n) h v = denominator_positive p a xs z s (time.TravelDistrict n) h v
