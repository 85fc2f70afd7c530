-- A site that is dropped is beaten by one that is kept: the one with the least high end.
use Rattle.std.proofs.Common.{◌≡◌, ◌∙◌, ℕ, zero, suc, ◌+◌, ◌*◌, ◌<◌, ◌≤◌, ◌⊎◌, inl, inr, Bool, true, false, not, List, [], ◌∷◌, length, get_or, refl, sym, ap, subst, arith, Some}
use Rattle.std.specs.Prelude.{All, nat_lt, slice_get}
use Rattle.std.proofs.Math.Nat.{mul-le-mul_right}
use Rattle.std.proofs.lemmas.Bool.Decides.{nat_tests}
use Rattle.std.proofs.lemmas.List.Elements.{All-from_get_or}
use Rattle.std.proofs.lemmas.List.Folds.{Any-from_list_any, list_any_none}
use Rattle.std.proofs.lemmas.List.FromFn.{get_or-map-range_with_len, length-map-range_with_len}
use Rattle.std.proofs.lemmas.Option.{get_or_from_slice_get, slice_get-get_or, slice_get_within}
use Rattle.std.proofs.lemmas.Slice.Zip.{AllZip-long}
use Rattle.hyper_model.specs.Measures.{ContainsRatio, Ratio, is_of_region, measure_of, scale_of}
use Rattle.hyper_model.specs.Plans.{IsAccepted, atoms, units}
use Rattle.hyper_model.specs.Solutions.{mass_in}
use Rattle.hyper_model.specs.Values.{value_in, zero_value}
use Rattle.hyper_model.specs.declared.kinds.Measure.{Measure}
use Rattle.hyper_model.specs.declared.parts.PlanParts.{PlanParts}
use Rattle.hyper_model.specs.declared.values.Value.{Value}
use Rattle.hyper_model.proofs.Denominators.{denominator_positive}
use Rattle.hyper_model.proofs.MeasureValues.{region_in_range}
use Rattle.hyper_model.proofs.PlanLaws.{has_solution}
use Rattle.plan_solver.proofs.RegionValues.{region_below, region_value_contains}
use Rattle.plan_solver.proofs.SolvedPlans.{AllZip-at}
use Rattle.site_sweep.specs.Placed.{placed}
use Rattle.site_sweep.specs.Sites.{AreSitesOf, IsValueOf, is_beaten, placed_plans, site_at, sites_of, value_at}
use Rattle.site_sweep.specs.Truth.{AreBestKept, AreDroppedBeaten, ContainsSites, HasBetter}
use Rattle.site_sweep.specs.declared.site_list.Site.{Site}
use Rattle.site_sweep.proofs.AcceptedPlaces.{placed_accepted}
use Rattle.site_sweep.proofs.PlanValues.{same_values}

-- ends that contain a ratio are in order
ordered : (lo hi scale : ℕ) (r : Ratio) → ContainsRatio lo hi scale r → 0 < r.denominator → lo ≤ hi
ordered lo hi scale r c some =
    let cases : (lo ≤ hi) ⊎ (hi < lo) = grind arith in
    elim cases [ inl le ↦ le | inr l ↦ absurd (if_not l) ]
  where
    if_not : hi < lo → ⊥
    if_not apart =
        let more : hi + 1 ≤ lo = omega arith in
        let wide : (hi + 1) * r.denominator ≤ lo * r.denominator = mul-le-mul_right r.denominator more in
        let split : (hi + 1) * r.denominator ≡ hi * r.denominator + r.denominator = grind arith in
        omega (arith, c.least, c.most, wide, split, some)

-- so are those of a plan, since it has a solution
pub value_ordered : (p : PlanParts) (m : Measure) (v : Value) → IsAccepted p → is_of_region m ≡ true → IsValueOf m p v → v.lo ≤ v.hi
value_ordered p m v a region is =
    let s = has_solution p a in
    let within = region_in_range p m region in
    rw is.exact
    (ordered (value_in m is.items).lo (value_in m is.items).hi (scale_of m) (measure_of p (mass_in s.masses) s.waiting m)
    (region_value_contains p m is.items region a is.enclosed s.masses s.waiting s.solves)
    (denominator_positive p a s.masses s.waiting s.solves m within.0 within.1))

-- the place of the least high end
record HasLeast (values : List Value) : Type 0 where
  place : ℕ
  within : place < length values
  least : (j : ℕ) → j < length values → (value_at values place).hi ≤ (value_at values j).hi

one_more : (v : Value) (values : List Value) → HasLeast values → HasLeast (v ∷ values)
one_more v values rest = by (compared v.hi (value_at values rest.place).hi)
  where
    compared : (a b : ℕ) → (a ≤ b) ⊎ (b < a)
    compared a b = grind arith

    first : v.hi ≤ (value_at values rest.place).hi → (j : ℕ) → j < length (v ∷ values) → v.hi ≤ (value_at (v ∷ values) j).hi
    first le zero l = omega arith
    first le (suc j) l = let later = rest.least j (omega arith) in omega (arith, le, later)

    other : (value_at values rest.place).hi < v.hi → (j : ℕ) → j < length (v ∷ values)
        → (value_at values rest.place).hi ≤ (value_at (v ∷ values) j).hi
    other less zero l = omega (arith, less)
    other less (suc j) l = rest.least j (omega arith)

    by : (v.hi ≤ (value_at values rest.place).hi) ⊎ ((value_at values rest.place).hi < v.hi) → HasLeast (v ∷ values)
    by (inl le) = record { place = 0; within = omega arith; least = first le }
    by (inr less) = record { place = suc rest.place; within = let l = rest.within in omega (arith, l); least = other less }

least_of : (v : Value) (values : List Value) → HasLeast (v ∷ values)
least_of v [] = record { place = 0; within = omega arith; least = only }
  where
    only : (j : ℕ) → j < 1 → v.hi ≤ (value_at (v ∷ []) j).hi
    only zero l = omega arith
    only (suc j) l = absurd (omega arith)
least_of v (w ∷ values) = one_more v (w ∷ values) (least_of w values)

some_least : (values : List Value) (k : ℕ) → k < length values → HasLeast values
some_least [] k l = absurd (omega arith)
some_least (v ∷ values) k l = least_of v values

-- a value that is beaten, and one that is not
beaten_by : (values : List Value) (v : Value) → is_beaten values v ≡ true
    → (j : ℕ) × (j < length values) × ((value_at values j).hi < v.lo)
beaten_by values v h =
    let (j, other, l, at, apart) = Any-from_list_any (λ (o : Value). nat_lt o.hi v.lo) values h in
    (j, l, rw (same_at j other l at) (grind (arith, nat_tests, apart)))
  where
    same_at : (j : ℕ) (other : Value) → j < length values → get_or values j other ≡ other → value_at values j ≡ other
    same_at j other l at = get_or_from_slice_get values j other zero_value (slice_get-get_or values j other l ∙ ap Some at)

unbeaten : (values : List Value) (v : Value) → ((j : ℕ) → j < length values → v.lo ≤ (value_at values j).hi) → is_beaten values v ≡ false
unbeaten values v h =
    list_any_none (λ (o : Value). nat_lt o.hi v.lo) values
    (All-from_get_or (λ (o : Value). nat_lt o.hi v.lo ≡ false) values zero_value
    (λ j l. let above = h j l in grind (arith, nat_tests)))

-- the sites of one unit by one measure
module _ (p : PlanParts) (n : ℕ) (m : Measure) (sites : List Site) (is : AreSitesOf p n m sites) where
  many : length is.values ≡ atoms p
  many = AllZip-long (IsValueOf m) (placed_plans p n) is.values is.enclosed ∙ length-map-range_with_len (placed p n) 0 (atoms p)

  pub one_each : length sites ≡ atoms p
  one_each =
      ap (λ (ss : List Site). length ss) is.exact
      ∙ length-map-range_with_len (site_at is.values) 0 (length is.values) ∙ many

  value_is : (k : ℕ) → k < atoms p → IsValueOf m (placed p n k) (value_at is.values k)
  value_is k l =
      subst (λ q. IsValueOf m q (value_at is.values k))
      (get_or-map-range_with_len (placed p n) 0 (atoms p) k k p l (omega arith))
      (AllZip-at (IsValueOf m) (placed_plans p n) is.values is.enclosed k p zero_value
      (omega (arith, length-map-range_with_len (placed p n) 0 (atoms p))))

  pub site_within : (k : ℕ) (s : Site) → slice_get sites k ≡ Some s → k < atoms p
  site_within k s there = omega (arith, slice_get_within sites k s there, one_each)

  pub site_is : (k : ℕ) (s : Site) → slice_get sites k ≡ Some s → s ≡ site_at is.values k
  site_is k s there =
      sym (get_or_from_slice_get sites k s s there)
      ∙ ap (λ (ss : List Site). get_or ss k s) is.exact
      ∙ get_or-map-range_with_len (site_at is.values) 0 (length is.values) k k s
      (omega (arith, site_within k s there, many)) (omega arith)

  pub atoms_within : All (λ (s : Site). s.atom < atoms p) sites
  atoms_within k s l =
      let here = slice_get-get_or sites k s l in
      rw (ap (λ (x : Site). x.atom) (site_is k (get_or sites k s) here)) (site_within k (get_or sites k s) here)

  site_there : (k : ℕ) → k < atoms p → slice_get sites k ≡ Some (site_at is.values k)
  site_there k l =
      slice_get-get_or sites k (site_at is.values k) (omega (arith, one_each))
      ∙ ap Some (ap (λ (ss : List Site). get_or ss k (site_at is.values k)) is.exact
      ∙ get_or-map-range_with_len (site_at is.values) 0 (length is.values) k k (site_at is.values k)
      (omega (arith, many)) (omega arith))

  module _ (a : IsAccepted p) (in_units : n < units p) (region : is_of_region m ≡ true) where
    accepted : (k : ℕ) → k < atoms p → IsAccepted (placed p n k)
    accepted k l = placed_accepted p a n k in_units l

    pub sites_contain : ContainsSites p n m sites
    sites_contain k s there xs z solves =
        let l = site_within k s there in
        let value = value_is k l in
        let ratio = measure_of (placed p n k) (mass_in xs) z m in
        subst (λ (x : Site). ContainsRatio x.lo x.hi (scale_of m) ratio) (sym (site_is k s there))
        (subst (λ (v : Value). ContainsRatio v.lo v.hi (scale_of m) ratio) (sym value.exact)
        (region_value_contains (placed p n k) m value.items region (accepted k l) value.enclosed xs z solves))

    -- the one with the least high end is kept
    least_kept : (least : HasLeast is.values) → is_beaten is.values (value_at is.values least.place) ≡ false
    least_kept least =
        unbeaten is.values (value_at is.values least.place)
        (λ j l.
        let within = least.within in
        let in_order = value_ordered (placed p n least.place) m (value_at is.values least.place)
        (accepted least.place (omega (arith, within, many))) region (value_is least.place (omega (arith, within, many))) in
        let low = least.least j l in
        omega (arith, in_order, low))

    better_than : (k : ℕ) → k < atoms p → is_beaten is.values (value_at is.values k) ≡ true → HasBetter p n m sites k
    better_than k l beaten =
        let (j, l_j, apart) = beaten_by is.values (value_at is.values k) beaten in
        let least = some_least is.values j l_j in
        let within = least.within in
        let low = least.least j l_j in
        let inside : least.place < atoms p = omega (arith, within, many) in
        let best = value_is least.place inside in
        let worse = value_is k l in
        let gap : (value_at is.values least.place).hi < (value_at is.values k).lo = omega (arith, low, apart) in
        record {
          atom = least.place;
          site = site_at is.values least.place;
          there = site_there least.place inside;
          kept = ap not (least_kept least);
          better = region_below (placed p n least.place) (placed p n k) m best.items worse.items region (accepted least.place inside)
              (accepted k l) best.enclosed worse.enclosed (rw (sym best.exact, sym worse.exact) gap);
        }

    pub dropped_beaten : AreDroppedBeaten p n m sites
    dropped_beaten k s there dropped =
        better_than k (site_within k s there) (by (is_beaten is.values (value_at is.values k)) (sym (ap (λ (x : Site). x.kept) (site_is k s there)) ∙ dropped))
      where
        by : (b : Bool) → not b ≡ false → b ≡ true
        by true h = refl
        by false h = absurd (cc)

    pub best_kept : AreBestKept p n m sites
    best_kept k s there best = by s.kept refl
      where
        by : (b : Bool) → s.kept ≡ b → s.kept ≡ true
        by true h = h
        by false h =
            let better = dropped_beaten k s there h in
            absurd (best better.atom (site_within better.atom better.site better.there) better.better)

-- and they are one list
pub one_list : (p : PlanParts) (n : ℕ) (m : Measure) (sites others : List Site) → AreSitesOf p n m sites → AreSitesOf p n m others
    → others ≡ sites
one_list p n m sites others is again =
    again.exact
    ∙ ap (λ (vs : List Value). sites_of vs) (same_values m (placed_plans p n) is.values again.values is.enclosed again.enclosed)
    ∙ sym is.exact
