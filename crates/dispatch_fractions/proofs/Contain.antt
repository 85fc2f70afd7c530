-- For every solution that has these parts, each measure of dispatches lies between its ends.
use Rattle.std.proofs.Common.{◌≡◌, ℕ, ◌+◌, ◌*◌, ◌^◌, ◌<◌, ◌≤◌, Bool, true, false, not, cond, eqb, List, ◌++◌, All, refl, sym, ap, subst, ◌∙◌, arith, add_comm}
use Rattle.std.proofs.Math.Nat.{mul-le-mul_right}
use Rattle.std.proofs.lemmas.List.Elements.{All-cons, All-append}
use Rattle.std.specs.List.{range_with_len}
use Rattle.std.specs.Prelude.{map}
use Rattle.fixed_interval.specs.Ends.{Ends, Encloses, exact_ends, scaled_ends, share_ends, quotient_ends}
use Rattle.hyper_model.specs.declared.kinds.Measure.{Measure}
use Rattle.hyper_model.specs.declared.kinds.Measure.TheVariants as measure
use Rattle.hyper_model.specs.declared.kinds.Found.TheVariants as found
use Rattle.hyper_model.specs.declared.kinds.Enclosed.{Enclosed}
use Rattle.hyper_model.specs.declared.parts.PlanParts.{PlanParts}
use Rattle.hyper_model.specs.Sums.{sum_below}
use Rattle.hyper_model.specs.Plans.{units, atoms, service_of, calls_of, all_calls, all_service, is_inside, district_calls, split}
use Rattle.hyper_model.specs.Solutions.{mass_in}
use Rattle.hyper_model.specs.Measures.{queued_mass, base, taken_mass, dispatch_flow, dispatch_flow_inside, dispatch_flow_outside, dispatch_flow_by, ContainsRatio, measure_of, is_without, scale_of, IsFoundOf, IsInRange, IsContained, AreContained}
use Rattle.hyper_model.proofs.Sums.{sum-same, sum-add, sum-scaled, sum-at, sum_split, place_le_sum, choices_scaled}
use Rattle.hyper_model.proofs.Masses.{dispatched_to_atom, dispatched_parts}
use Rattle.busy_words.specs.Algebra.{where_ends}
use Rattle.busy_words.specs.MeasureEnds.{found_ends}
use Rattle.busy_words.proofs.MeasureEnds.{contains_ratio}
use Rattle.busy_words.proofs.Algebra.{encloses_total, encloses_where}
use Rattle.dispatch_fractions.specs.PartLists.{PartList, taken_by, help_of, HasParts}
use Rattle.dispatch_fractions.specs.Fractions.{flow_ends, is_on_side, side_ends, region_ends, others_ends, fraction_of, unit_fractions, fractions_of, region_share, unit_share, district_share, interdistrict_of, is_absent, HasEndsOnly}
use Rattle.dispatch_fractions.proofs.FlowEnds.{flow_is, fraction_is, share_is}
use Rattle.hyper_model.proofs.Ranges.{all_range, all_flat}

turned_round : (b : Bool) (k : ℕ) → cond (not b) k 0 ≡ cond b 0 k
turned_round true k = refl
turned_round false k = refl

-- a measure that has ends exactly if it has a value
pub found_where : (p : PlanParts) (x : ℕ → ℕ) (z : ℕ) (m : Measure) (b : Bool) (i : Ends) → is_without p m ≡ b
    → ContainsRatio i.lo i.hi (scale_of m) (measure_of p x z m)
    → IsFoundOf p x z m (cond b found.Without (found_ends i))
found_where p x z m true i is h = is
found_where p x z m false i is h = (is, h)

pub absent_where : (b : Bool) (i : Ends) → is_absent (cond b found.Without (found_ends i)) ≡ b
absent_where true i = refl
absent_where false i = refl

times_grouped : (c m g b : ℕ) → c * (m * g * b) ≡ c * m * g * b
times_grouped c m g b = omega arith

module _ (p : PlanParts) (xs : List ℕ) (z : ℕ) (parts : PartList) (h : HasParts p xs z parts) where
  abbrev x : ℕ → ℕ
  x w = mass_in xs w

  -- what all flows are over
  abbrev whole : ℕ
  whole = all_service p * split p * base p (mass_in xs) z

  flow_holds : (n j : ℕ) → n < units p → j < atoms p
      → Encloses (flow_ends p parts n j) (2 ^ 62 * dispatch_flow p (mass_in xs) z n j) whole
  flow_holds n j l k =
      flow_is (taken_by parts n j) (help_of parts n) (calls_of p j) (all_service p) (split p)
      (taken_mass p (mass_in xs) n j) (service_of p n) (queued_mass p (mass_in xs) z) (base p (mass_in xs) z)
      (h.taken n j l k) (h.help n l)

  part_of_calls : (n j : ℕ) → n < units p → j < atoms p → dispatch_flow p (mass_in xs) z n j ≤ all_calls p * whole
  part_of_calls n j l k =
      omega (
        arith,
        place_le_sum (units p) (λ m. dispatch_flow p (mass_in xs) z m j) n l,
        dispatched_to_atom p h.accepted (mass_in xs) z j k,
        mul-le-mul_right whole (place_le_sum (atoms p) (calls_of p) j k),
      )

  fraction_contained : (n j : ℕ) → n < units p → j < atoms p → IsContained p (mass_in xs) z (fraction_of p parts n j)
  fraction_contained n j l k = (
    refl,
    contains_ratio
        (quotient_ends (scaled_ends 1000000 (flow_ends p parts n j)) (exact_ends (all_calls p * 2 ^ 62)) 1000000) 1000000
        (dispatch_flow p (mass_in xs) z n j) (all_calls p * whole) (measure_of p (mass_in xs) z (measure.Dispatch n j)) refl
        (times_grouped (all_calls p) (all_service p) (split p) (base p (mass_in xs) z))
        (fraction_is (flow_ends p parts n j) (all_calls p) (dispatch_flow p (mass_in xs) z n j) whole (part_of_calls n j l k)
        (flow_holds n j l k)),
  )

  abbrev side_flow : Bool → ℕ → ℕ → ℕ
  side_flow inside n m = sum_below (atoms p) (λ j. cond (is_on_side p m inside j) (dispatch_flow p (mass_in xs) z n j) 0)

  side_holds : (inside : Bool) (n m : ℕ) → n < units p
      → Encloses (side_ends p parts inside n m) (2 ^ 62 * side_flow inside n m) whole
  side_holds inside n m l =
      subst (λ k. Encloses (side_ends p parts inside n m) k whole)
      (choices_scaled (atoms p) (2 ^ 62) (is_on_side p m inside) (dispatch_flow p (mass_in xs) z n))
      (encloses_total (atoms p) (λ j. where_ends (is_on_side p m inside j) (flow_ends p parts n j))
      (λ j. cond (is_on_side p m inside j) (2 ^ 62 * dispatch_flow p (mass_in xs) z n j) 0) whole
      (λ j k. encloses_where (is_on_side p m inside j) (flow_ends p parts n j) (2 ^ 62 * dispatch_flow p (mass_in xs) z n j) whole
      (λ on. flow_holds n j l k)))

  inside_holds : (n m : ℕ) → n < units p
      → Encloses (side_ends p parts true n m) (2 ^ 62 * dispatch_flow_inside p (mass_in xs) z n m) whole
  inside_holds n m l = side_holds true n m l

  outside_holds : (n m : ℕ) → n < units p
      → Encloses (side_ends p parts false n m) (2 ^ 62 * dispatch_flow_outside p (mass_in xs) z n m) whole
  outside_holds n m l =
      subst (λ k. Encloses (side_ends p parts false n m) (2 ^ 62 * k) whole)
      (sum-same (atoms p) (λ j. cond (not (is_inside p m j)) (dispatch_flow p (mass_in xs) z n j) 0)
      (λ j. cond (is_inside p m j) 0 (dispatch_flow p (mass_in xs) z n j))
      (λ j k. turned_round (is_inside p m j) (dispatch_flow p (mass_in xs) z n j)))
      (side_holds false n m l)

  both_sides : (n : ℕ)
      → dispatch_flow_outside p (mass_in xs) z n n + dispatch_flow_inside p (mass_in xs) z n n ≡ dispatch_flow_by p (mass_in xs) z n
  both_sides n =
      add_comm (dispatch_flow_outside p (mass_in xs) z n n) (dispatch_flow_inside p (mass_in xs) z n n)
      ∙ dispatched_parts p (mass_in xs) z n n

  unit_contained : (n : ℕ) → n < units p → IsContained p (mass_in xs) z (unit_share p parts n)
  unit_contained n l = (
    refl,
    contains_ratio (share_ends 1000000 (side_ends p parts false n n) (side_ends p parts true n n)) 1000000
        (dispatch_flow_outside p (mass_in xs) z n n)
        (dispatch_flow_outside p (mass_in xs) z n n + dispatch_flow_inside p (mass_in xs) z n n)
        (measure_of p (mass_in xs) z (measure.InterdistrictUnit n)) refl (both_sides n)
        (share_is (side_ends p parts false n n) (side_ends p parts true n n) 1000000 (dispatch_flow_outside p (mass_in xs) z n n)
        (dispatch_flow_inside p (mass_in xs) z n n) whole (outside_holds n n l) (inside_holds n n l)),
  )

  -- of all units
  region_holds : (inside : Bool) (flow : ℕ → ℕ)
      → ((n : ℕ) → n < units p → Encloses (side_ends p parts inside n n) (2 ^ 62 * flow n) whole)
      → Encloses (region_ends p parts inside) (2 ^ 62 * sum_below (units p) flow) whole
  region_holds inside flow each =
      subst (λ k. Encloses (region_ends p parts inside) k whole) (sum-scaled (units p) (2 ^ 62) flow)
      (encloses_total (units p) (λ n. side_ends p parts inside n n) (λ n. 2 ^ 62 * flow n) whole each)

  all_sides : sum_below (units p) (λ n. dispatch_flow_outside p (mass_in xs) z n n)
      + sum_below (units p) (λ n. dispatch_flow_inside p (mass_in xs) z n n)
      ≡ sum_below (units p) (dispatch_flow_by p (mass_in xs) z)
  all_sides =
      sym (sum-add (units p) (λ n. dispatch_flow_outside p (mass_in xs) z n n) (λ n. dispatch_flow_inside p (mass_in xs) z n n))
      ∙ sum-same (units p) (λ n. dispatch_flow_outside p (mass_in xs) z n n + dispatch_flow_inside p (mass_in xs) z n n)
      (dispatch_flow_by p (mass_in xs) z) (λ n l. both_sides n)

  region_contained : IsContained p (mass_in xs) z (region_share p parts)
  region_contained = (
    refl,
    contains_ratio (share_ends 1000000 (region_ends p parts false) (region_ends p parts true)) 1000000
        (sum_below (units p) (λ n. dispatch_flow_outside p (mass_in xs) z n n))
        (sum_below (units p) (λ n. dispatch_flow_outside p (mass_in xs) z n n)
        + sum_below (units p) (λ n. dispatch_flow_inside p (mass_in xs) z n n))
        (measure_of p (mass_in xs) z measure.Interdistrict) refl all_sides
        (share_is (region_ends p parts false) (region_ends p parts true) 1000000
        (sum_below (units p) (λ n. dispatch_flow_outside p (mass_in xs) z n n))
        (sum_below (units p) (λ n. dispatch_flow_inside p (mass_in xs) z n n)) whole
        (region_holds false (λ n. dispatch_flow_outside p (mass_in xs) z n n) (λ n l. outside_holds n n l))
        (region_holds true (λ n. dispatch_flow_inside p (mass_in xs) z n n) (λ n l. inside_holds n n l))),
  )

  abbrev others_flow : ℕ → ℕ
  others_flow n = sum_below (units p) (λ m. cond (eqb m n) 0 (dispatch_flow_inside p (mass_in xs) z m n))

  others_same : (n : ℕ)
      → sum_below (units p) (λ m. cond (not (eqb m n)) (dispatch_flow_inside p (mass_in xs) z m n) 0) ≡ others_flow n
  others_same n =
      sum-same (units p) (λ m. cond (not (eqb m n)) (dispatch_flow_inside p (mass_in xs) z m n) 0)
      (λ m. cond (eqb m n) 0 (dispatch_flow_inside p (mass_in xs) z m n))
      (λ m l. turned_round (eqb m n) (dispatch_flow_inside p (mass_in xs) z m n))

  others_hold : (n : ℕ) → Encloses (others_ends p parts n) (2 ^ 62 * others_flow n) whole
  others_hold n =
      subst (λ k. Encloses (others_ends p parts n) k whole)
      (choices_scaled (units p) (2 ^ 62) (λ m. not (eqb m n)) (λ m. dispatch_flow_inside p (mass_in xs) z m n)
      ∙ ap (λ k. 2 ^ 62 * k) (others_same n))
      (encloses_total (units p) (λ m. where_ends (not (eqb m n)) (side_ends p parts true m n))
      (λ m. cond (not (eqb m n)) (2 ^ 62 * dispatch_flow_inside p (mass_in xs) z m n) 0) whole
      (λ m l. encloses_where (not (eqb m n)) (side_ends p parts true m n) (2 ^ 62 * dispatch_flow_inside p (mass_in xs) z m n) whole
      (λ other. inside_holds m n l)))

  -- the district's own unit and the others
  all_units : (n : ℕ) → n < units p
      → others_flow n + dispatch_flow_inside p (mass_in xs) z n n ≡ sum_below (units p) (λ m. dispatch_flow_inside p (mass_in xs) z m n)
  all_units n l =
      omega (
        arith,
        others_same n,
        sum_split (units p) (λ m. eqb m n) (λ m. dispatch_flow_inside p (mass_in xs) z m n),
        sum-at (units p) (λ m. dispatch_flow_inside p (mass_in xs) z m n) n l,
      )

  district_contained : (n : ℕ) → n < units p → IsContained p (mass_in xs) z (district_share p parts n)
  district_contained n l =
      found_where p (mass_in xs) z (measure.InterdistrictDistrict n) (eqb (district_calls p n) 0)
      (share_ends 1000000 (others_ends p parts n) (side_ends p parts true n n)) refl
      (contains_ratio (share_ends 1000000 (others_ends p parts n) (side_ends p parts true n n)) 1000000 (others_flow n)
      (others_flow n + dispatch_flow_inside p (mass_in xs) z n n)
      (measure_of p (mass_in xs) z (measure.InterdistrictDistrict n)) refl (all_units n l)
      (share_is (others_ends p parts n) (side_ends p parts true n n) 1000000 (others_flow n)
      (dispatch_flow_inside p (mass_in xs) z n n) whole (others_hold n) (inside_holds n n l)))

-- what holds of each fraction and of each share holds of all
pub all_dispatches : (P : Enclosed → Type 0) (p : PlanParts) (parts : PartList)
    → ((n j : ℕ) → n < units p → j < atoms p → P (fraction_of p parts n j)) → P (region_share p parts)
    → ((n : ℕ) → n < units p → P (unit_share p parts n)) → ((n : ℕ) → n < units p → P (district_share p parts n))
    → All P (fractions_of p parts ++ interdistrict_of p parts)
all_dispatches P p parts fractions region of_units of_districts =
    let by_unit = map (unit_share p parts) (range_with_len 0 (units p)) in
    let by_district = map (district_share p parts) (range_with_len 0 (units p)) in
    All-append P (fractions_of p parts) (interdistrict_of p parts)
    (all_flat P (unit_fractions p parts) (units p)
    (λ n l. all_range P (fraction_of p parts n) (atoms p) (λ j k. fractions n j l k)))
    (All-cons P (region_share p parts) (by_unit ++ by_district) region
    (All-append P by_unit by_district (all_range P (unit_share p parts) (units p) of_units)
    (all_range P (district_share p parts) (units p) of_districts)))

pub dispatches_contained : (p : PlanParts) (parts : PartList) (xs : List ℕ) (z : ℕ) → HasParts p xs z parts
    → AreContained p (mass_in xs) z (fractions_of p parts ++ interdistrict_of p parts)
dispatches_contained p parts xs z h =
    all_dispatches (IsContained p (mass_in xs) z) p parts (fraction_contained p xs z parts h)
    (region_contained p xs z parts h) (unit_contained p xs z parts h) (district_contained p xs z parts h)

-- the measures are the plan's
pub dispatches_in_range : (p : PlanParts) (parts : PartList)
    → All (λ e. IsInRange p e.measure) (fractions_of p parts ++ interdistrict_of p parts)
dispatches_in_range p parts =
    all_dispatches (λ e. IsInRange p e.measure) p parts (λ n j l k. (l, k)) tt (λ n l. l) (λ n l. l)

-- and none is without ends but those of districts without calls
pub dispatches_without : (p : PlanParts) (parts : PartList)
    → All (HasEndsOnly p) (fractions_of p parts ++ interdistrict_of p parts)
dispatches_without p parts =
    all_dispatches (HasEndsOnly p) p parts (λ n j l k. refl) refl (λ n l. refl)
    (λ n l.
    absent_where (eqb (district_calls p n) 0)
    (share_ends 1000000 (others_ends p parts n) (side_ends p parts true n n)))
