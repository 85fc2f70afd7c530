-- If the ends of two plans are apart, so are the measures of all their solutions.
use Rattle.std.proofs.Common.{◌≡◌, ◌+◌, ◌<◌, ◌∙◌, sym, ap, refl, subst, arith, Bool, true, false, List, [], ◌∷◌, length, get_or}
use Rattle.std.specs.Prelude.{All, if◌then◌else◌, nat_lt, option_map, slice_get}
use Rattle.std.specs.List.{flat_map, range_with_len}
use Rattle.std.proofs.lemmas.Bool.Decides.{nat_tests}
use Rattle.std.proofs.lemmas.List.Elements.{All-append, All-head, All-map, All-nil, All-tail}
use Rattle.std.proofs.lemmas.Option.{get_or_from_slice_get, same_Some, slice_get-map, slice_get_within}
use Rattle.hyper_model.specs.Enclosures.{EnclosureList}
use Rattle.hyper_model.specs.Measures.{IsContained, is_of_region}
use Rattle.hyper_model.specs.Separation.{IsBelow}
use Rattle.hyper_model.specs.Solutions.{mass_in}
use Rattle.hyper_model.specs.declared.kinds.Measure.{Measure}
use Rattle.hyper_model.specs.declared.parts.PlanParts.{PlanParts}
use Rattle.hyper_model.specs.declared.values.Value.{Value}
use Rattle.hyper_model.proofs.MeasureValues.{region_in_range}
use Rattle.plan_solver.proofs.RegionValues.{sound_below, sound_value_contains}
use Rattle.plan_compare.specs.Studies.{StudyParts}
use Rattle.plan_compare.specs.Truth.{AreTrue, ContainsPlans, IsTrueOf, item_at}
use Rattle.plan_compare.specs.Values.{list_at, value_at}
use Rattle.plan_compare.specs.Verdicts.{all_pairs, pairs_from, pairs_of, verdict_of, verdict_on, verdicts_of}
use Rattle.plan_compare.specs.declared.verdict_list.Verdict.{Verdict}
use Rattle.plan_compare.specs.declared.verdict_list.Verdict.TheVariants as verdict

pub all_contained : (study : StudyParts) (found : List EnclosureList) → All (λ m. is_of_region m ≡ true) study.measures
    → ContainsPlans study found
all_contained study found region place p a e xs z s =
    All-map (IsContained p (mass_in xs) z) (item_at found place) study.measures
    (λ k d h. (
      (region_in_range p (get_or study.measures k d) (region k d h)).1,
      sound_value_contains p (get_or study.measures k d) (list_at found place) (region k d h) a e xs z s,
    ))

-- what a verdict of ends says
verdict_true : (m : Measure) (p q : PlanParts) (a b : Value) → (a.hi < b.lo → IsBelow m p q) → (b.hi < a.lo → IsBelow m q p)
    → IsTrueOf m p q (verdict_on a b)
verdict_true m p q a b first second = by (nat_lt a.hi b.lo) refl (nat_lt b.hi a.lo) refl
  where
    by : (s : Bool) → nat_lt a.hi b.lo ≡ s → (t : Bool) → nat_lt b.hi a.lo ≡ t
        → IsTrueOf m p q (if s then verdict.Below else if t then verdict.Above else verdict.NotSeparated)
    by true s t u = first (grind (arith, nat_tests, s))
    by false s true u = second (grind (arith, nat_tests, u))
    by false s false u = tt

-- the measures that are compared are those of the study
all_flat : {A B : Type 0} (P : A → Type 0) (Q : B → Type 0) (f : A → List B) → ((x : A) → P x → All Q (f x))
    → (xs : List A) → All P xs → All Q (flat_map f xs)
all_flat P Q f each [] h = All-nil Q
all_flat P Q f each (x ∷ xs) h =
    All-append Q (f x) (flat_map f xs) (each x (All-head P x xs h)) (all_flat P Q f each xs (All-tail P x xs h))

pairs_region : (study : StudyParts) → All (λ m. is_of_region m ≡ true) study.measures → All (λ c. is_of_region c.measure ≡ true) (all_pairs study)
pairs_region study region =
    all_flat (λ m. is_of_region m ≡ true) (λ c. is_of_region c.measure ≡ true) (pairs_of (length study.plans))
    (λ m h. all_flat (λ _. is_of_region m ≡ true) (λ c. is_of_region c.measure ≡ true) (pairs_from (length study.plans) m)
    (λ a g. All-map (λ c. is_of_region c.measure ≡ true) (λ b. record { measure = m; first = a; second = b }) (range_with_len (a + 1) _) (λ k d l. g))
    (range_with_len 0 (length study.plans)) (λ k d l. h))
    study.measures region

pub all_true : (study : StudyParts) (found : List EnclosureList) (verdicts : List Verdict) → All (λ m. is_of_region m ≡ true) study.measures
    → verdicts ≡ verdicts_of study found → AreTrue study found verdicts
all_true study found verdicts region is k c v at_c at_v p q a b e f =
    let same : verdict_of found c ≡ v = same_Some (verdict_of found c) v
    (sym (slice_get-map (verdict_of found) (all_pairs study) k ∙ ap (option_map (verdict_of found)) at_c) ∙ ap (λ vs. slice_get vs k) (sym is) ∙ at_v) in
    let of_region = rw (get_or_from_slice_get (all_pairs study) k c c at_c) at (pairs_region study region k c (slice_get_within (all_pairs study) k c at_c)) in
    subst (IsTrueOf c.measure p q) same
    (verdict_true c.measure p q (value_at found c.measure c.first) (value_at found c.measure c.second)
    (λ apart. sound_below p q c.measure (list_at found c.first) (list_at found c.second) of_region a b e f apart)
    (λ apart. sound_below q p c.measure (list_at found c.second) (list_at found c.first) of_region b a f e apart))
