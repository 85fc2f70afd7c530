-- The ends that the text has of the model are those of its list, and contain the measures.
use Rattle.std.proofs.Common.{◌≡◌, ◌∙◌, ℕ, ◌+◌, ◌*◌, ◌<◌, Bool, true, false, ◌||◌, List, [], ◌∷◌, ◌++◌, length, map, refl, sym, ap, subst, arith, rules}
use Rattle.std.specs.Prelude.{All, Some, None, if◌then◌else◌, unwrap_or}
use Rattle.std.specs.List.{flat_map, list_any, range_with_len}
use Rattle.std.proofs.lemmas.List.Elements.{All-append, All-head, All-tail}
use Rattle.std.proofs.lemmas.List.Folds.{list_any-append, list_any_at}
use Rattle.std.proofs.lemmas.List.FromFn.{length-map-range_with_len}
use Rattle.fixed_interval.specs.Ends.{Ends}
use Rattle.fixed_interval.specs.WeightList.{ends_at}
use Rattle.hyper_model.specs.Measures.{ContainsSolutions, IsContained}
use Rattle.hyper_model.specs.Plans.{IsAccepted, atoms, units}
use Rattle.hyper_model.specs.Solutions.{mass_in}
use Rattle.hyper_model.specs.declared.kinds.Enclosed.{Enclosed}
use Rattle.hyper_model.specs.declared.kinds.Measure.{Measure}
use Rattle.hyper_model.specs.declared.kinds.Measure.TheVariants as measure
use Rattle.hyper_model.specs.declared.parts.PlanParts.{PlanParts}
use Rattle.hyper_model.proofs.Grids.{place_within}
use Rattle.hyper_model.proofs.ListPlaces.{listed_at}
use Rattle.hyper_model.proofs.Ranges.{all_flat, all_range, table_length, table_read}
use Rattle.busy_words.specs.Order.{WordOrder}
use Rattle.workload_measures.specs.LoadEnds.{line_measures, loads_of, workload_of, workloads_of}
use Rattle.dispatch_fractions.specs.Fractions.{fraction_of, fractions_of, interdistrict_of}
use Rattle.dispatch_fractions.specs.PartLists.{PartList, parts_from}
use Rattle.travel_measures.specs.TravelEnds.{travel_times_of}
use Rattle.plan_solver.specs.Enclosures.{IsEnclosureOf, dispatches_of, measures_of}
use Rattle.plan_solver.proofs.AllMeasures.{enclosure_contains}
use Rattle.day_replay.specs.Texts.{dispatch_items, found_of, is_measure, item_of, printed_items}

same_is : (a b : Measure) → is_measure a b ≡ true → a ≡ b
same_is a b h = search (rules, h)

dispatch_same : (n j : ℕ) → is_measure (measure.Dispatch n j) (measure.Dispatch n j) ≡ true
dispatch_same n j = search rules

workload_same : (n : ℕ) → is_measure (measure.Workload n) (measure.Workload n) ≡ true
workload_same n = search rules

-- the list has the measure
abbrev has_measure : Measure → List Enclosed → Bool
has_measure m items = list_any (λ e. is_measure e.measure m) items

-- what holds of all items holds of what is found of a measure that the list has
item_holds : (P : Enclosed → Type 0) (m : Measure) (items : List Enclosed) → has_measure m items ≡ true → All P items
    → P (item_of items m)
item_holds P m [] has all = absurd (cc)
item_holds P m (e ∷ items) has all =
    by (is_measure e.measure m) refl has (λ h. item_holds P m items h (All-tail P e items all))
  where
    by : (b : Bool) → is_measure e.measure m ≡ b → (b || has_measure m items) ≡ true
        → (has_measure m items ≡ true → P (item_of items m))
        → P (record { measure = m; found = unwrap_or (if b then Some e.found else None) (found_of m items) })
    by true is h rest =
        subst (λ (k : Measure). P (record { measure = k; found = e.found })) (same_is e.measure m is) (All-head P e items all)
    by false is h rest = rest h

or_true : (b : Bool) → (b || true) ≡ true
or_true true = refl
or_true false = refl

has_left : (m : Measure) (items others : List Enclosed) → has_measure m items ≡ true → has_measure m (items ++ others) ≡ true
has_left m items others has =
    list_any-append (λ (e : Enclosed). is_measure e.measure m) items others ∙ ap (λ b. b || has_measure m others) has

has_right : (m : Measure) (items others : List Enclosed) → has_measure m others ≡ true → has_measure m (items ++ others) ≡ true
has_right m items others has =
    list_any-append (λ (e : Enclosed). is_measure e.measure m) items others ∙ ap (λ b. has_measure m items || b) has
    ∙ or_true (has_measure m items)

has_fraction : (p : PlanParts) (parts : PartList) (n j : ℕ) → n < units p → j < atoms p
    → has_measure (measure.Dispatch n j) (fractions_of p parts) ≡ true
has_fraction p parts n j unit atom =
    let d = fraction_of p parts n j in
    let place = n * atoms p + j in
    let inside : place < length (fractions_of p parts) =
    omega (arith, place_within (units p) (atoms p) n j unit atom, table_length (fraction_of p parts) (atoms p) (units p)) in
    list_any_at (λ (e : Enclosed). is_measure e.measure (measure.Dispatch n j)) (fractions_of p parts) place d inside
    (ap (λ (e : Enclosed). is_measure e.measure (measure.Dispatch n j))
    (table_read (fraction_of p parts) (atoms p) (units p) n j d unit atom) ∙ dispatch_same n j)

has_workload : (p : PlanParts) (order : WordOrder) (items : List Ends) (n : ℕ) → n < units p
    → has_measure (measure.Workload n) (workloads_of p order items) ≡ true
has_workload p order items n unit =
    let d = workload_of p order items n in
    let inside : n < length (workloads_of p order items) =
    omega (arith, length-map-range_with_len (workload_of p order items) 0 (units p)) in
    list_any_at (λ (e : Enclosed). is_measure e.measure (measure.Workload n)) (workloads_of p order items) n d inside
    (ap (λ (e : Enclosed). is_measure e.measure (measure.Workload n)) (listed_at (workload_of p order items) (units p) n d unit)
    ∙ workload_same n)

dispatch_listed : (p : PlanParts) (order : WordOrder) (items : List Ends) (n j : ℕ) → n < units p → j < atoms p
    → has_measure (measure.Dispatch n j) (measures_of p order items) ≡ true
dispatch_listed p order items n j unit atom =
    let parts = parts_from p order (ends_at items) in
    has_right (measure.Dispatch n j) (loads_of p order items) (dispatches_of p parts)
    (has_left (measure.Dispatch n j) (fractions_of p parts ++ interdistrict_of p parts) (travel_times_of p parts)
    (has_left (measure.Dispatch n j) (fractions_of p parts) (interdistrict_of p parts) (has_fraction p parts n j unit atom)))

workload_listed : (p : PlanParts) (order : WordOrder) (items : List Ends) (n : ℕ) → n < units p
    → has_measure (measure.Workload n) (measures_of p order items) ≡ true
workload_listed p order items n unit =
    has_left (measure.Workload n) (loads_of p order items) (dispatches_of p (parts_from p order (ends_at items)))
    (has_right (measure.Workload n) (line_measures p.line p items) (workloads_of p order items) (has_workload p order items n unit))

pub printed_contained : (p : PlanParts) → IsAccepted p → (items : List Enclosed) → IsEnclosureOf p items
    → ContainsSolutions p (printed_items p items)
printed_contained p accepted items is = λ xs z solves.
    let contained = IsContained p (mass_in xs) z in
    let all : All contained items = enclosure_contains p accepted items is xs z solves in
    All-append contained (flat_map (dispatch_items p items) (range_with_len 0 (units p)))
    (map (λ n. item_of items (measure.Workload n)) (range_with_len 0 (units p)))
    (all_flat contained (dispatch_items p items) (units p) (λ n unit.
    all_range contained (λ j. item_of items (measure.Dispatch n j)) (atoms p) (λ j atom.
    item_holds contained (measure.Dispatch n j) items
    (ap (has_measure (measure.Dispatch n j)) is.exact ∙ dispatch_listed p is.order is.items n j unit atom) all)))
    (all_range contained (λ n. item_of items (measure.Workload n)) (units p) (λ n unit.
    item_holds contained (measure.Workload n) items
    (ap (has_measure (measure.Workload n)) is.exact ∙ workload_listed p is.order is.items n unit) all))
