-- The value that a plan's measures have for a measure of the region contains the measure, for every solution; so it is
-- less in the plan whose high end lies below the other's low end.
use Rattle.std.proofs.Common.{◌≡◌, ℕ, ◌<◌, ◌∙◌, sym, ap, refl, subst, arith, Bool, true, false, List, ◌++◌}
use Rattle.std.specs.Prelude.{All, ◌||◌, is_some}
use Rattle.std.proofs.lemmas.List.Folds.{list_any-append}
use Rattle.std.proofs.Math.Bool.{or-true}
use Rattle.fixed_interval.specs.Ends.{Ends}
use Rattle.fixed_interval.specs.WeightList.{ends_at}
use Rattle.hyper_model.specs.Measures.{ContainsRatio, IsContained, is_of_region, measure_of, scale_of, zero_ratio}
use Rattle.hyper_model.specs.Plans.{IsAccepted}
use Rattle.hyper_model.specs.Separation.{IsBelow}
use Rattle.hyper_model.specs.Solutions.{IsSolution, mass_in}
use Rattle.hyper_model.specs.Values.{value_in, value_of}
use Rattle.hyper_model.specs.declared.kinds.Enclosed.{Enclosed}
use Rattle.hyper_model.specs.declared.kinds.Line.{Line}
use Rattle.hyper_model.specs.declared.kinds.Line.TheVariants as line
use Rattle.hyper_model.specs.declared.kinds.Measure.{Measure}
use Rattle.hyper_model.specs.declared.kinds.Measure.TheVariants as measure
use Rattle.hyper_model.specs.declared.parts.PlanParts.{PlanParts}
use Rattle.hyper_model.specs.declared.values.Value.{Value}
use Rattle.hyper_model.proofs.Denominators.{denominator_positive}
use Rattle.hyper_model.proofs.MeasureValues.{has_value, less, region_in_range, value_contains, value_none}
use Rattle.busy_words.specs.Order.{WordOrder}
use Rattle.workload_measures.specs.LoadEnds.{line_measures, workloads_of}
use Rattle.dispatch_fractions.specs.PartLists.{parts_from}
use Rattle.dispatch_fractions.specs.Fractions.{fractions_of, interdistrict_of}
use Rattle.travel_measures.specs.TravelEnds.{travel_times_of}
use Rattle.plan_solver.specs.Enclosures.{IsEnclosureOf, dispatches_of, measures_of}
use Rattle.plan_solver.specs.SoundEnclosures.{IsSoundEnclosure}
use Rattle.plan_solver.proofs.SoundMeasures.{enclosure_sound, sound_contains}

-- the line has the measure
abbrev is_on : Line → Measure → Bool
is_on line.Zero measure.Loss = true
is_on line.Infinite measure.Delay = true
is_on line.Infinite measure.Queue = true
is_on line.Infinite measure.Wait = true
is_on l measure.Interdistrict = true
is_on l measure.Travel = true
is_on l m = false

any_before : (m : Measure) (xs ys : List Enclosed) → has_value m xs ≡ true → has_value m (xs ++ ys) ≡ true
any_before m xs ys h = list_any-append (λ e. is_some (value_of m e)) xs ys ∙ ap (λ b. b || has_value m ys) h

any_after : (m : Measure) (xs ys : List Enclosed) → has_value m ys ≡ true → has_value m (xs ++ ys) ≡ true
any_after m xs ys h =
    list_any-append (λ e. is_some (value_of m e)) xs ys ∙ ap (λ b. has_value m xs || b) h ∙ or-true (has_value m xs)

-- and so has the list of the plan's measures
module _ (p : PlanParts) (order : WordOrder) (items : List Ends) where
  of_line : (m : Measure) → has_value m (line_measures p.line p items) ≡ true → has_value m (measures_of p order items) ≡ true
  of_line m h =
      any_before m (line_measures p.line p items ++ workloads_of p order items) (dispatches_of p (parts_from p order (ends_at items)))
      (any_before m (line_measures p.line p items) (workloads_of p order items) h)

  of_dispatches : (m : Measure) → has_value m (dispatches_of p (parts_from p order (ends_at items))) ≡ true
      → has_value m (measures_of p order items) ≡ true
  of_dispatches m h = any_after m (line_measures p.line p items ++ workloads_of p order items) (dispatches_of p (parts_from p order (ends_at items))) h

  listed : (l : Line) → p.line ≡ l → (m : Measure) → is_on l m ≡ true → has_value m (measures_of p order items) ≡ true
  listed line.Zero e measure.Loss h = of_line measure.Loss (rw e refl)
  listed line.Infinite e measure.Delay h = of_line measure.Delay (rw e refl)
  listed line.Infinite e measure.Queue h = of_line measure.Queue (rw e refl)
  listed line.Infinite e measure.Wait h = of_line measure.Wait (rw e refl)
  listed l e measure.Interdistrict h =
      let parts = parts_from p order (ends_at items) in
      of_dispatches measure.Interdistrict
      (any_before measure.Interdistrict (fractions_of p parts ++ interdistrict_of p parts) (travel_times_of p parts)
      (any_after measure.Interdistrict (fractions_of p parts) (interdistrict_of p parts) refl))
  listed l e measure.Travel h =
      let parts = parts_from p order (ends_at items) in
      of_dispatches measure.Travel (any_after measure.Travel (fractions_of p parts ++ interdistrict_of p parts) (travel_times_of p parts) refl)
  listed l e m h = absurd (cc)

-- a measure that the line does not have is 0
lacking : (p : PlanParts) (x : ℕ → ℕ) (z : ℕ) (l : Line) → p.line ≡ l → (m : Measure) → is_of_region m ≡ true → is_on l m ≡ false
    → measure_of p x z m ≡ zero_ratio
lacking p x z line.Zero e measure.Delay r h = rw e refl
lacking p x z line.Zero e measure.Queue r h = rw e refl
lacking p x z line.Zero e measure.Wait r h = rw e refl
lacking p x z line.Infinite e measure.Loss r h = rw e refl
lacking p x z l e m r h = absurd (cc)

-- so the ends of the list contain each measure of the region
region_contained : (p : PlanParts) (order : WordOrder) (items : List Ends) (x : ℕ → ℕ) (z : ℕ) (m : Measure) → is_of_region m ≡ true
    → All (IsContained p x z) (measures_of p order items)
    → ContainsRatio (value_in m (measures_of p order items)).lo (value_in m (measures_of p order items)).hi (scale_of m) (measure_of p x z m)
region_contained p order items x z m region each = by (has_value m (measures_of p order items)) refl
  where
    list : List Enclosed
    list = measures_of p order items

    nothing : (b : Bool) → is_on p.line m ≡ b → has_value m list ≡ false → ContainsRatio 0 0 (scale_of m) (measure_of p x z m)
    nothing true o h = absurd (let some = listed p order items p.line refl m o in cc)
    nothing false o h = rw (lacking p x z p.line refl m region o) (record { least = omega arith; most = omega arith })

    by : (b : Bool) → has_value m list ≡ b → ContainsRatio (value_in m list).lo (value_in m list).hi (scale_of m) (measure_of p x z m)
    by true h = value_contains p x z m list each h
    by false h =
        subst (λ (v : Value). ContainsRatio v.lo v.hi (scale_of m) (measure_of p x z m)) (sym (value_none m list h))
        (nothing (is_on p.line m) refl h)

pub sound_value_contains : (p : PlanParts) (m : Measure) (found : List Enclosed) → is_of_region m ≡ true → IsAccepted p → IsSoundEnclosure p found
    → (xs : List ℕ) (z : ℕ) → IsSolution p xs z
    → ContainsRatio (value_in m found).lo (value_in m found).hi (scale_of m) (measure_of p (mass_in xs) z m)
sound_value_contains p m found region a e xs z s =
    let each = sound_contains p a found e xs z s in
    subst (λ list. ContainsRatio (value_in m list).lo (value_in m list).hi (scale_of m) (measure_of p (mass_in xs) z m)) (sym e.exact)
    (region_contained p e.order e.items (mass_in xs) z m region (subst (λ list. All (IsContained p (mass_in xs) z) list) e.exact each))

pub sound_below : (p q : PlanParts) (m : Measure) (found others : List Enclosed) → is_of_region m ≡ true → IsAccepted p → IsAccepted q
    → IsSoundEnclosure p found → IsSoundEnclosure q others → (value_in m found).hi < (value_in m others).lo → IsBelow m p q
sound_below p q m found others region a b e f apart xs ys z t s u =
    let of_p = region_in_range p m region in
    let of_q = region_in_range q m region in
    less _ _ _ _ (scale_of m) (measure_of p (mass_in xs) z m) (measure_of q (mass_in ys) t m) (sound_value_contains p m found region a e xs z s)
    (sound_value_contains q m others region b f ys t u) apart (denominator_positive p a xs z s m of_p.0 of_p.1)
    (denominator_positive q b ys t u m of_q.0 of_q.1)

-- with the ends of the elimination as well
pub region_value_contains : (p : PlanParts) (m : Measure) (found : List Enclosed) → is_of_region m ≡ true → IsAccepted p → IsEnclosureOf p found
    → (xs : List ℕ) (z : ℕ) → IsSolution p xs z
    → ContainsRatio (value_in m found).lo (value_in m found).hi (scale_of m) (measure_of p (mass_in xs) z m)
region_value_contains p m found region a e = sound_value_contains p m found region a (enclosure_sound p a found e)

pub region_below : (p q : PlanParts) (m : Measure) (found others : List Enclosed) → is_of_region m ≡ true → IsAccepted p → IsAccepted q
    → IsEnclosureOf p found → IsEnclosureOf q others → (value_in m found).hi < (value_in m others).lo → IsBelow m p q
region_below p q m found others region a b e f =
    sound_below p q m found others region a b (enclosure_sound p a found e) (enclosure_sound q b others f)
