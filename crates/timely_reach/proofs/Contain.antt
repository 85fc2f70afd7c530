-- The ends of each share contain it, for every solution that has these parts, and are those of a share.
use Rattle.std.proofs.Common.{◌≡◌, ℕ, ◌+◌, ◌-◌, ◌*◌, ◌^◌, ◌<◌, ◌≤◌, min, Bool, true, false, true≢false, cond, List, refl, ap, subst, inl, inr, arith}
use Rattle.std.specs.Prelude.{None}
use Rattle.std.proofs.Math.Nat.{le_of_mul-le-mul_right, mul-le-mul_left, mul-le-mul_right}
use Rattle.std.proofs.lemmas.Bool.{cases_lt}
use Rattle.fixed_interval.specs.Ends.{Ends, Encloses, exact_ends, times_part_ends}
use Rattle.fixed_interval.proofs.Rounding.{div_ceil-le, encloses_exact, encloses_outward, encloses_quotient, encloses_same, encloses_times_part, times_part-in_range}
use Rattle.hyper_model.specs.Grid.{IsSized}
use Rattle.hyper_model.specs.declared.kinds.Found.TheVariants as found
use Rattle.hyper_model.specs.declared.kinds.Line.{Line}
use Rattle.hyper_model.specs.declared.kinds.Line.TheVariants as line
use Rattle.hyper_model.specs.declared.kinds.Measure.{Measure}
use Rattle.hyper_model.specs.declared.kinds.Measure.TheVariants as time
use Rattle.hyper_model.specs.declared.parts.PlanParts.{PlanParts}
use Rattle.hyper_model.specs.Sums.{sum_below}
use Rattle.hyper_model.specs.Plans.{units, atoms, calls_of, all_calls, located, split, IsAccepted}
use Rattle.hyper_model.specs.Words.{full_word}
use Rattle.hyper_model.specs.Solutions.{IsSolution, mass_in}
use Rattle.hyper_model.specs.Measures.{ContainsRatio, IsFoundOf, Ratio, base, base_on, mass, measure_of, queued_mass, queued_mass_on, scale_of, taken_mass}
use Rattle.hyper_model.proofs.Masses.{all_words, base_positive}
use Rattle.hyper_model.proofs.Sums.{sum-le, sum-scaled}
use Rattle.busy_words.specs.MeasureEnds.{found_ends}
use Rattle.dispatch_fractions.specs.PartLists.{HasParts, PartList}
use Rattle.travel_measures.specs.TravelEnds.{all_trip_ends, longest_mean}
use Rattle.travel_measures.proofs.Contain.{all_trips_hold, atom_contained, district_contained, region_contained, unit_contained}
use Rattle.timely_reach.specs.declared.kinds.ReachMeasure.{ReachMeasure}
use Rattle.timely_reach.specs.declared.kinds.ReachMeasure.TheVariants as measure
use Rattle.timely_reach.specs.Reach.{IsReachInRange, has_no_calls, is_timely, reached_of, timely_at_once, timely_flow, timely_pairs, timely_presence}
use Rattle.timely_reach.specs.ReachEnds.{all_ends_on, answered_part, at_once_ends, prompt_part, region_share_ends, share_ends_of}
use Rattle.timely_reach.specs.ReachLaws.{IsThousandfold}
use Rattle.timely_reach.specs.TimelyPlans.{timely_plan}
use Rattle.timely_reach.proofs.ReachLaws.{all_answered, reach_positive}
use Rattle.timely_reach.proofs.SameMasses.{same_base}
use Rattle.timely_reach.proofs.TimelyPlans.{short_mean, timely_parts}
use Rattle.timely_reach.proofs.TimelyTimes.{flows_are, timely_times}

-- thousandths of a second are millionths of a share
in_millionths : (lo hi : ℕ) (seconds share : Ratio) → IsThousandfold seconds share → ContainsRatio lo hi 1000 seconds
    → ContainsRatio lo hi 1000000 share
in_millionths lo hi seconds share t c =
    let low : lo * share.denominator ≤ 1000 * (1000 * share.numerator) = rw (← t.numerator, ← t.denominator) c.least in
    let high : 1000 * (1000 * share.numerator) ≤ hi * share.denominator = rw (← t.numerator, ← t.denominator) c.most in
    record { least = omega (arith, low); most = omega (arith, high) }

-- ends that stand if a test fails are those of a measure with a value
value_where : (p : PlanParts) (x : ℕ → ℕ) (z : ℕ) (m : Measure) (b : Bool) (i : Ends) → b ≡ false
    → IsFoundOf p x z m (cond b found.Without (found_ends i)) → ContainsRatio i.lo i.hi (scale_of m) (measure_of p x z m)
value_where p x z m true i e h = absurd (true≢false e)
value_where p x z m false i e h = h.1

-- the same share over the same
same_ratio : (lo hi n d k e : ℕ) → n ≡ k → d ≡ e → ContainsRatio lo hi 1000000 (record { numerator = n; denominator = d })
    → ContainsRatio lo hi 1000000 (record { numerator = k; denominator = e })
same_ratio lo hi n d k e same over c =
    let low : lo * e ≤ 1000000 * k = rw (← same, ← over) c.least in
    let high : 1000000 * k ≤ hi * e = rw (← same, ← over) c.most in
    record { least = low; most = high }

where_at_most : (b : Bool) (k : ℕ) → cond b k 0 ≤ k
where_at_most true k = omega arith
where_at_most false k = omega arith

-- the rest of a part is the part of the rest
rest_low : (hi l b m k : ℕ) → k * l ≤ hi * m → l + b ≡ m → (k - hi) * m ≤ k * b
rest_low hi l b m k high whole = elim (cases_lt hi k) [
  | inl less ↦
      let sum : k - hi + hi ≡ k = omega arith in
      let both = ap (λ t. t * m) sum in
      let split = ap (λ t. k * t) whole in
      omega (arith, high, both, split)
  | inr most ↦
      let none : k - hi ≡ 0 = omega arith in
      let gone = ap (λ t. t * m) none in
      omega (arith, gone)
]

rest_high : (lo l b m k : ℕ) → lo * m ≤ k * l → l + b ≡ m → k * b ≤ (k - lo) * m
rest_high lo l b m k low whole = elim (cases_lt k lo) [
  | inl less ↦
      let more : k + 1 ≤ lo = omega arith in
      let split = ap (λ t. k * t) whole in
      omega (arith, low, split, mul-le-mul_right m more)
  | inr most ↦
      let sum : k - lo + lo ≡ k = omega arith in
      let both = ap (λ t. t * m) sum in
      let split = ap (λ t. k * t) whole in
      omega (arith, low, both, split)
]

-- of a mean over all calls, that of one of them
per_call : (lo hi c g m r : ℕ) → lo * (1000000 * c * (g * m)) ≤ 1000000 * (1000 * r) → 1000000 * (1000 * r) ≤ hi * (1000000 * c * (g * m))
    → ContainsRatio lo hi 1000000 (record { numerator = c * r; denominator = 1000 * c * c * g * m })
per_call lo hi c g m r low high = record {
  least = omega (arith, mul-le-mul_left c low);
  most = omega (arith, mul-le-mul_left c high);
}

module _ (p : PlanParts) (a : IsAccepted p) (sized : IsSized p.travel) (limit : ℕ) (parts : PartList) (xs : List ℕ) (z : ℕ)
    (s : IsSolution p xs z) (h : HasParts p xs z parts)
    (full : Encloses parts.full (2 ^ 62 * (mass_in xs (full_word p) + z)) (mass p (mass_in xs) z)) where
  abbrev q : PlanParts
  q = timely_plan p limit

  abbrev x : ℕ → ℕ
  x = mass_in xs

  abbrev reached : ℕ
  reached = sum_below (units p) (timely_flow p x limit)

  having : HasParts q xs z parts
  having = timely_parts p limit xs z parts h

  -- a free unit is in time for no more than all calls
  presence_most : (n j : ℕ) → n < units p → timely_presence p limit n j ≤ 1000
  presence_most n j l =
      omega (
        arith,
        sum-le (atoms p) (λ k. cond (is_timely p limit k j) (located p n k) 0) (located p n)
            (λ k i. where_at_most (is_timely p limit k j) (located p n k)),
        a.locations.whole n l,
      )

  flow_most : (n : ℕ) → n < units p
      → timely_flow p x limit n ≤ 1000 * sum_below (atoms p) (λ j. calls_of p j * taken_mass p x n j)
  flow_most n l =
      omega (
        arith,
        sum-le (atoms p) (λ j. calls_of p j * taken_mass p x n j * timely_presence p limit n j)
            (λ j. 1000 * (calls_of p j * taken_mass p x n j))
            (λ j i.
            omega (arith, mul-le-mul_left (calls_of p j * taken_mass p x n j) (presence_most n j l))),
        sum-scaled (atoms p) 1000 (λ j. calls_of p j * taken_mass p x n j),
      )

  reached_most : reached ≤ 1000 * all_calls p * (split p * base p x z)
  reached_most =
      omega (
        arith,
        sum-le (units p) (timely_flow p x limit)
            (λ n. 1000 * sum_below (atoms p) (λ j. calls_of p j * taken_mass p x n j)) flow_most,
        sum-scaled (units p) 1000 (λ n. sum_below (atoms p) (λ j. calls_of p j * taken_mass p x n j)),
        all_answered p a x z,
      )

  trips_hold : Encloses (all_trip_ends q parts None) (2 ^ 62 * (1000 * reached)) (split p * base p x z)
  trips_hold =
      subst (λ b. Encloses (all_trip_ends q parts None) (2 ^ 62 * (1000 * reached)) (split p * b)) (same_base p limit x z)
      (subst (λ t. Encloses (all_trip_ends q parts None) (2 ^ 62 * t) (split p * base q x z)) (flows_are p a sized limit x z)
      (all_trips_hold q xs z parts having None))

  prompt_holds : Encloses (prompt_part q parts) (2 ^ 62 * (1000 * reached)) (1000000 * all_calls p * (split p * base p x z))
  prompt_holds =
      encloses_quotient (all_trip_ends q parts None) (exact_ends (1000000 * all_calls p)) (prompt_part q parts) (2 ^ 62) refl
      (2 ^ 62 * (1000 * reached)) (1000000 * all_calls p * (split p * base p x z)) (split p * base p x z) trips_hold
      (encloses_exact (1000000 * all_calls p) (exact_ends (1000000 * all_calls p)) refl (split p * base p x z))
      (mul-le-mul_left (2 ^ 62)
      (let most : 1000 * reached ≤ 1000000 * all_calls p * (split p * base p x z) = omega (arith, reached_most) in most))

  -- the states in which a call that comes is answered
  answered_holds : Encloses (answered_part p.line parts.full) (2 ^ 62 * base p x z) (mass p x z)
  answered_holds = on_line p.line
    where
      on_line : (l : Line) → Encloses (answered_part l parts.full) (2 ^ 62 * base_on l p x z) (mass p x z)
      on_line line.Zero =
          let whole : x (full_word p) + z + sum_below (full_word p) x ≡ mass p x z = omega (arith, all_words p x) in
          record {
            low = rest_low parts.full.hi (x (full_word p) + z) (sum_below (full_word p) x) (mass p x z) (2 ^ 62) full.high whole;
            high = rest_high parts.full.lo (x (full_word p) + z) (sum_below (full_word p) x) (mass p x z) (2 ^ 62) full.low whole;
          }
      on_line line.Infinite = record { low = omega arith; high = omega arith }

  at_once_holds : Encloses (at_once_ends q parts) (1000000 * (1000 * reached)) (1000000 * all_calls p * (split p * mass p x z))
  at_once_holds =
      let part : Ends = times_part_ends (prompt_part q parts) (answered_part p.line parts.full) in
      let both = encloses_times_part (prompt_part q parts) (answered_part p.line parts.full) part refl
      (2 ^ 62 * (1000 * reached)) (1000000 * all_calls p * (split p * base p x z)) (base p x z) (mass p x z) prompt_holds
      answered_holds in
      let of_all = encloses_same part (base p x z) (2 ^ 62 * (1000 * reached)) (1000000 * all_calls p * (split p * mass p x z))
      (2 ^ 62 * (1000 * reached) * base p x z) (1000000 * all_calls p * (split p * base p x z) * mass p x z)
      (base_positive p a xs z s) (turned (2 ^ 62 * (1000 * reached)) (base p x z))
      (moved (1000000 * all_calls p) (split p) (base p x z) (mass p x z)) both in
      encloses_outward part (at_once_ends q parts) 1000000 refl (1000 * reached) (1000000 * all_calls p * (split p * mass p x z))
      of_all
    where
      turned : (t b : ℕ) → t * b ≡ b * t
      turned t b = omega arith

      moved : (c g b m : ℕ) → c * (g * b) * m ≡ b * (c * (g * m))
      moved c g b m = omega arith

  at_once_contained : ContainsRatio (at_once_ends q parts).lo (at_once_ends q parts).hi 1000000
      (reached_of p x z limit measure.AtOnce)
  at_once_contained =
      per_call (at_once_ends q parts).lo (at_once_ends q parts).hi (all_calls p) (split p) (mass p x z) reached at_once_holds.low
      at_once_holds.high

  region_is_contained : ContainsRatio (region_share_ends q parts).lo (region_share_ends q parts).hi 1000000
      (reached_of p x z limit measure.Region)
  region_is_contained =
      in_millionths (region_share_ends q parts).lo (region_share_ends q parts).hi (measure_of q x z time.Travel)
      (reached_of p x z limit measure.Region) ((timely_times p a sized limit).region x z) (region_contained q xs z parts having).1

  -- if calls are lost nobody waits, and if they wait all are answered
  all_contained : ContainsRatio (all_ends_on p.line q parts).lo (all_ends_on p.line q parts).hi 1000000
      (reached_of p x z limit measure.All)
  all_contained = on_line p.line refl
    where
      on_line : (l : Line) → p.line ≡ l
          → ContainsRatio (all_ends_on l q parts).lo (all_ends_on l q parts).hi 1000000 (reached_of p x z limit measure.All)
      on_line line.Zero e =
          let nobody : queued_mass p x z ≡ 0 = ap (λ k. queued_mass_on k p x z) e in
          let same : timely_at_once p x limit ≡ timely_at_once p x limit + 1000 * split p * queued_mass p x z * timely_pairs p limit =
          nothing_more (timely_at_once p x limit) (1000 * split p) (queued_mass p x z) (timely_pairs p limit) nobody in
          same_ratio (at_once_ends q parts).lo (at_once_ends q parts).hi (timely_at_once p x limit) _ _ _ same refl
          at_once_contained
        where
          nothing_more : (t g l k : ℕ) → l ≡ 0 → t ≡ t + g * l * k
          nothing_more t g l k none = let gone = ap (λ m. g * m * k) none in omega (arith, gone)
      on_line line.Infinite e =
          let every : base p x z ≡ mass p x z = ap (λ k. base_on k p x z) e in
          same_ratio (region_share_ends q parts).lo (region_share_ends q parts).hi _ _ _ _ refl
          (ap (λ b. 1000 * all_calls p * all_calls p * split p * b) every) region_is_contained

  pub share_contained : (m : ReachMeasure) → IsReachInRange p m → has_no_calls p m ≡ false
      → ContainsRatio (share_ends_of q parts m).lo (share_ends_of q parts m).hi 1000000 (reached_of p x z limit m)
  share_contained measure.Region l v = region_is_contained
  share_contained measure.All l v = all_contained
  share_contained measure.AtOnce l v = at_once_contained
  share_contained (measure.Atom j) l v =
      in_millionths _ _ (measure_of q x z (time.TravelAtom j)) (reached_of p x z limit (measure.Atom j))
      ((timely_times p a sized limit).atom x z j l) (atom_contained q xs z parts having j l).1
  share_contained (measure.Unit n) l v =
      in_millionths _ _ (measure_of q x z (time.TravelUnit n)) (reached_of p x z limit (measure.Unit n))
      ((timely_times p a sized limit).unit x z n) (unit_contained q xs z parts having n l).1
  share_contained (measure.District n) l v =
      in_millionths _ _ (measure_of q x z (time.TravelDistrict n)) (reached_of p x z limit (measure.District n))
      ((timely_times p a sized limit).district x z n)
      (value_where q x z (time.TravelDistrict n) (has_no_calls p (measure.District n)) (share_ends_of q parts (measure.District n)) v
      (district_contained q xs z parts having n l))

  -- ends that contain a share are in order
  pub share_ordered : (m : ReachMeasure) → IsReachInRange p m → has_no_calls p m ≡ false
      → (share_ends_of q parts m).lo ≤ (share_ends_of q parts m).hi
  share_ordered m l v =
      let c = share_contained m l v in
      let some = reach_positive p a xs z s limit m l v in
      let whole : (share_ends_of q parts m).lo * (reached_of p x z limit m).denominator
      ≤ (share_ends_of q parts m).hi * (reached_of p x z limit m).denominator = omega (arith, c.least, c.most) in
      le_of_mul-le-mul_right whole some

-- no share is more than one
capped_end : (b : Bool) (n cap : ℕ) → cond b cap (min n cap) ≤ cap
capped_end true n cap = omega arith
capped_end false n cap = omega arith

answered_most : (l : Line) (full : Ends) → (answered_part l full).hi ≤ 2 ^ 62
answered_most line.Zero full = omega arith
answered_most line.Infinite full = omega arith

module _ (p : PlanParts) (limit : ℕ) (parts : PartList) where
  abbrev t : PlanParts
  t = timely_plan p limit

  prompt_most : (prompt_part t parts).hi ≤ 2 ^ 62
  prompt_most = capped_end _ _ (2 ^ 62)

  at_once_most : (at_once_ends t parts).hi ≤ 1000000
  at_once_most =
      let part : Ends = times_part_ends (prompt_part t parts) (answered_part p.line parts.full) in
      let most : part.hi ≤ (prompt_part t parts).hi =
      times_part-in_range (prompt_part t parts) (answered_part p.line parts.full) (answered_most p.line parts.full) in
      div_ceil-le (1000000 * part.hi) (2 ^ 62) 1000000 (omega arith)
      (mul-le-mul_left 1000000 (let le : part.hi ≤ 2 ^ 62 = omega (arith, prompt_most) in le))

  mean_most : (b : Bool) (n : ℕ) → cond b (longest_mean t) (min n (longest_mean t)) ≤ 1000000
  mean_most b n = omega (arith, capped_end b n (longest_mean t), short_mean p limit)

  pub share_most : (m : ReachMeasure) → (share_ends_of t parts m).hi ≤ 1000000
  share_most measure.Region = mean_most _ _
  share_most measure.All = on_line p.line
    where
      on_line : (l : Line) → (all_ends_on l t parts).hi ≤ 1000000
      on_line line.Zero = at_once_most
      on_line line.Infinite = mean_most _ _
  share_most measure.AtOnce = at_once_most
  share_most (measure.Atom j) = mean_most _ _
  share_most (measure.Unit n) = mean_most _ _
  share_most (measure.District n) = mean_most _ _
