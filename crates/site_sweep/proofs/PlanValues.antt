-- The values of a measure in several plans, one plan after the other.
use Rattle.std.proofs.Common.{◌≡◌, ◌∙◌, ℕ, zero, suc, ◌+◌, ◌-◌, ◌*◌, ◌<◌, ◌≤◌, List, [], ◌∷◌, ◌++◌, length, map, refl, sym, ap, subst, arith, append-nil, append_assoc}
use Rattle.std.specs.Prelude.{min}
use Rattle.std.proofs.lemmas.List.FromFn.{length-map-range_with_len, map-range_with_len_more}
use Rattle.std.proofs.lemmas.Slice.Zip.{AllZip-long}
use Rattle.hyper_model.specs.Enclosures.{EnclosureList}
use Rattle.hyper_model.specs.Plans.{atoms}
use Rattle.hyper_model.specs.Values.{value_in}
use Rattle.hyper_model.specs.declared.kinds.Enclosed.{Enclosed}
use Rattle.hyper_model.specs.declared.kinds.Measure.{Measure}
use Rattle.hyper_model.specs.declared.parts.PlanParts.{PlanParts}
use Rattle.hyper_model.specs.declared.values.Value.{Value}
use Rattle.plan_solver.specs.Enclosures.{AreEnclosuresOf}
use Rattle.plan_solver.proofs.AllMeasures.{one_enclosure}
use Rattle.plan_solver.proofs.SolvedPlans.{AllZip-append}
use Rattle.site_sweep.specs.Placed.{placed}
use Rattle.site_sweep.specs.Sites.{AreValuesOf, GainsValues, IsValueOf, placed_from, placed_plans}

module _ (m : Measure) where
  -- those of the lists that enclose the plans
  pub enclosed_values : (plans : List PlanParts) (found : List EnclosureList) → AreEnclosuresOf plans found
      → AreValuesOf m plans (map (λ (list : EnclosureList). value_in m list.items) found)
  enclosed_values [] [] h = tt
  enclosed_values [] (f ∷ fs) h = absurd h
  enclosed_values (p ∷ ps) [] h = absurd h
  enclosed_values (p ∷ ps) (f ∷ fs) h =
      (record { items = f.items; enclosed = h.0; exact = refl }, enclosed_values ps fs h.1)

  one_value : (p : PlanParts) (v w : Value) → IsValueOf m p v → IsValueOf m p w → w ≡ v
  one_value p v w is again =
      again.exact ∙ ap (λ (items : List Enclosed). value_in m items) (one_enclosure p is.items again.items is.enclosed again.enclosed) ∙ sym is.exact

  -- there is one value for each plan
  pub same_values : (plans : List PlanParts) (values others : List Value) → AreValuesOf m plans values → AreValuesOf m plans others
      → others ≡ values
  same_values [] [] [] h g = refl
  same_values [] [] (w ∷ ws) h g = absurd g
  same_values [] (v ∷ vs) others h g = absurd h
  same_values (p ∷ ps) [] others h g = absurd h
  same_values (p ∷ ps) (v ∷ vs) [] h g = absurd g
  same_values (p ∷ ps) (v ∷ vs) (w ∷ ws) h g = rw (one_value p v w h.0 g.0, same_values ps vs ws h.1 g.1) refl

  -- the plans with the unit at the atoms up to one, and from there on
  placed_on : (p : PlanParts) (n a b : ℕ) → placed_from p n 0 (a + b) ≡ placed_from p n 0 a ++ placed_from p n a b
  placed_on p n a zero =
      let same : a + 0 ≡ a = omega arith in
      ap (λ k. placed_from p n 0 k) same ∙ sym (append-nil (placed_from p n 0 a))
  placed_on p n a (suc b) =
      let next : a + suc b ≡ a + b + 1 = omega arith in
      let more : suc b ≡ b + 1 = omega arith in
      ap (λ k. placed_from p n 0 k) next
      ∙ map-range_with_len_more (placed p n) 0 (a + b) (a + b) (omega arith)
      ∙ ap (λ ps. ps ++ placed p n (a + b) ∷ []) (placed_on p n a b)
      ∙ append_assoc (placed_from p n 0 a) (placed_from p n a b) (placed p n (a + b) ∷ [])
      ∙ ap (λ ps. placed_from p n 0 a ++ ps) (sym (map-range_with_len_more (placed p n) a b (a + b) refl))
      ∙ ap (λ k. placed_from p n 0 a ++ placed_from p n a k) (sym more)

  -- the values of the plans that come next
  values_next : (p : PlanParts) (n first b until : ℕ) (plans : List PlanParts) (before after : List Value)
      → AreValuesOf m (placed_from p n 0 first) before → first + b ≡ until → plans ≡ placed_from p n first b
      → GainsValues m plans before after → AreValuesOf m (placed_from p n 0 until) after
  values_next p n first b until plans before after done sum is gains =
      let both : AreValuesOf m (placed_from p n 0 first ++ plans) after =
      subst (λ vs. AreValuesOf m (placed_from p n 0 first ++ plans) vs) (sym gains.gained)
      (AllZip-append (IsValueOf m) (placed_from p n 0 first) plans before gains.more done gains.enclosed) in
      subst (λ ps. AreValuesOf m ps after)
      (ap (λ ps. placed_from p n 0 first ++ ps) is ∙ sym (placed_on p n first b) ∙ ap (λ k. placed_from p n 0 k) sum) both

  -- one batch more
  pub batch_next : (p : PlanParts) (n batch first until size : ℕ) (plans : List PlanParts) (before after : List Value)
      → batch * size < atoms p → first ≡ batch * size → until ≡ min (atoms p) (first + size)
      → AreValuesOf m (placed_from p n 0 (min (batch * size) (atoms p))) before → plans ≡ placed_from p n first (until - first)
      → GainsValues m plans before after → AreValuesOf m (placed_from p n 0 (min ((batch + 1) * size) (atoms p))) after
  batch_next p n batch first until size plans before after l is_first is_until done is gains =
      let product : (batch + 1) * size ≡ batch * size + size = grind arith in
      let here : min (batch * size) (atoms p) ≡ first = omega (arith, is_first, l) in
      let there : min ((batch + 1) * size) (atoms p) ≡ until = omega (arith, product, is_first, is_until) in
      let sum : first + (until - first) ≡ until = omega (arith, is_first, is_until, l) in
      subst (λ k. AreValuesOf m (placed_from p n 0 k) after) (sym there)
      (values_next p n first (until - first) until plans before after
      (subst (λ k. AreValuesOf m (placed_from p n 0 k) before) here done) sum is gains)

  -- all of them
  pub all_values : (p : PlanParts) (n done : ℕ) (values : List Value) → atoms p ≤ done
      → AreValuesOf m (placed_from p n 0 (min done (atoms p))) values → AreValuesOf m (placed_plans p n) values
  all_values p n done values end are =
      let whole : min done (atoms p) ≡ atoms p = omega (arith, end) in
      subst (λ k. AreValuesOf m (placed_from p n 0 k) values) whole are

  pub one_for_each : (p : PlanParts) (n : ℕ) (values : List Value) → AreValuesOf m (placed_plans p n) values → length values ≡ atoms p
  one_for_each p n values are =
      AllZip-long (IsValueOf m) (placed_plans p n) values are ∙ length-map-range_with_len (placed p n) 0 (atoms p)

-- the plans of a batch, one after the other
pub plans_more : (p : PlanParts) (n first k : ℕ) (before after : List PlanParts) (moved : PlanParts) → first ≤ k
    → before ≡ placed_from p n first (k - first) → moved ≡ placed p n k → after ≡ before ++ moved ∷ []
    → after ≡ placed_from p n first (k + 1 - first)
plans_more p n first k before after moved l is_before is_moved is_after =
    let more : k + 1 - first ≡ k - first + 1 = omega arith in
    rw (is_after, is_before, is_moved, more)
    (sym (map-range_with_len_more (placed p n) first (k - first) k (omega arith)))
