-- The rows of a plan: they are of its units and atoms, each contains its share for every solution, and there is one list.
use Rattle.std.proofs.Common.{◌≡◌, ◌∙◌, ℕ, ◌+◌, ◌*◌, ◌^◌, Bool, true, false, cond, List, [], ◌∷◌, ◌++◌, All, Some, length, map, take, refl, sym, ap, subst, length-append}
use Rattle.std.specs.Prelude.{slice_get}
use Rattle.std.specs.List.{AllZip, range_with_len}
use Rattle.std.proofs.lemmas.List.{map-append}
use Rattle.std.proofs.lemmas.List.FromFn.{length-map-range_with_len}
use Rattle.text_lines.proofs.Pieces.{take_at}
use Rattle.std.proofs.lemmas.List.Elements.{All-append, All-cons, All-nil}
use Rattle.fixed_interval.specs.Ends.{Ends, Encloses}
use Rattle.fixed_interval.specs.WeightList.{ends_at}
use Rattle.hyper_model.specs.Grid.{IsSized}
use Rattle.hyper_model.specs.declared.parts.PlanParts.{PlanParts}
use Rattle.hyper_model.specs.declared.values.Value.{Value}
use Rattle.hyper_model.specs.Plans.{units, atoms, IsAccepted}
use Rattle.hyper_model.specs.Words.{full_word}
use Rattle.hyper_model.specs.Measures.{mass}
use Rattle.hyper_model.specs.Solutions.{HasSolution, IsSolution, mass_in}
use Rattle.hyper_model.proofs.Ranges.{all_range}
use Rattle.busy_words.specs.Order.{WordOrder}
use Rattle.busy_words.specs.WeightParts.{EnclosesSolution}
use Rattle.busy_words.proofs.WeightParts.{full_part_encloses}
use Rattle.dispatch_fractions.specs.PartLists.{HasParts, PartList, parts_from}
use Rattle.dispatch_fractions.proofs.Holding.{has_parts, parts_are}
use Rattle.plan_solver.specs.PlanWeights.{ArePlanWeights}
use Rattle.plan_solver.proofs.AllMeasures.{one_weighing}
use Rattle.plan_solver.proofs.PlanChains.{encloses}
use Rattle.timely_reach.specs.declared.kinds.ReachMeasure.{ReachMeasure}
use Rattle.timely_reach.specs.declared.kinds.ReachMeasure.TheVariants as measure
use Rattle.timely_reach.specs.declared.kinds.ReachRow.{ReachRow}
use Rattle.timely_reach.specs.Reach.{ContainsReach, IsReachBetween, IsReachContained, IsReachInRange, IsReachRow, IsShare, has_no_calls}
use Rattle.timely_reach.specs.ReachRows.{IsReachOf, row_of, rows_from, share_in, timely_plans}
use Rattle.timely_reach.specs.TimelyPlans.{timely_plan}
use Rattle.timely_reach.proofs.Contain.{share_contained, share_most, share_ordered}

-- what holds of the row of each share holds of all rows
pub all_rows : (p : PlanParts) (timely : List PlanParts) (parts : PartList) (P : ReachRow → Type 0)
    → ((m : ReachMeasure) → IsReachInRange p m → P (row_of p timely parts m)) → All P (rows_from p timely parts)
all_rows p timely parts P each =
    let row = row_of p timely parts in
    let of_atoms = map (λ j. row (measure.Atom j)) (range_with_len 0 (atoms p)) in
    let of_units = map (λ n. row (measure.Unit n)) (range_with_len 0 (units p)) in
    let of_districts = map (λ n. row (measure.District n)) (range_with_len 0 (units p)) in
    let others = (of_atoms ++ of_units) ++ of_districts in
    All-cons P (row measure.Region) (row measure.All ∷ row measure.AtOnce ∷ others) (each measure.Region tt)
    (All-cons P (row measure.All) (row measure.AtOnce ∷ others) (each measure.All tt)
    (All-cons P (row measure.AtOnce) others (each measure.AtOnce tt)
    (All-append P (of_atoms ++ of_units) of_districts
    (All-append P of_atoms of_units
    (all_range P (λ j. row (measure.Atom j)) (atoms p) (λ j l. each (measure.Atom j) l))
    (all_range P (λ n. row (measure.Unit n)) (units p) (λ n l. each (measure.Unit n) l)))
    (all_range P (λ n. row (measure.District n)) (units p) (λ n l. each (measure.District n) l)))))

-- one item more of a list that is made of another
pub mapped_next : {A B : Type 0} (f : A → B) (xs : List A) (i : ℕ) (x : A) (before after : List B) (y : B)
    → slice_get xs i ≡ Some x → before ≡ map f (take i xs) → y ≡ f x → after ≡ before ++ y ∷ []
    → after ≡ map f (take (i + 1) xs)
mapped_next f xs i x before after y there is_before is_y is_after =
    is_after
    ∙ ap (λ ys. ys ++ y ∷ []) is_before
    ∙ ap (λ b. map f (take i xs) ++ b ∷ []) is_y
    ∙ sym (ap (map f) (take_at xs i x there) ∙ map-append f (take i xs) (x ∷ []))

-- how long a list becomes
pub gained_one : {A : Type 0} (before after : List A) (x : A) → after ≡ before ++ x ∷ [] → length after ≡ length before + 1
gained_one before after x is = ap (λ l. length l) is ∙ length-append before (x ∷ [])

pub gained_each : {A : Type 0} (f : ℕ → A) (before after : List A) (n : ℕ) → after ≡ before ++ map f (range_with_len 0 n)
    → length after ≡ length before + n
gained_each f before after n is =
    ap (λ l. length l) is
    ∙ length-append before (map f (range_with_len 0 n))
    ∙ ap (λ k. length before + k) (length-map-range_with_len f 0 n)

-- a list of values, one for each limit
each_limit : {A : Type 0} (R : ℕ → Value → Type 0) (f : A → Value) (g : ℕ → A) (limits : List ℕ) → ((limit : ℕ) → R limit (f (g limit)))
    → AllZip R limits (map f (map g limits))
each_limit R f g [] h = tt
each_limit R f g (limit ∷ limits) h = (h limit, each_limit R f g limits h)

each_value : {A : Type 0} (P : Value → Type 0) (f : A → Value) (g : ℕ → A) (limits : List ℕ) → ((limit : ℕ) → P (f (g limit)))
    → All P (map f (map g limits))
each_value P f g [] h = All-nil P
each_value P f g (limit ∷ limits) h = All-cons P (f (g limit)) (map f (map g limits)) (h limit) (each_value P f g limits h)

module _ (p : PlanParts) (a : IsAccepted p) (sized : IsSized p.travel) (limits : List ℕ) (order : WordOrder) (items : List Ends)
    (w : ArePlanWeights p order items) (xs : List ℕ) (z : ℕ) (s : IsSolution p xs z) where
  abbrev parts : PartList
  parts = parts_from p order (ends_at items)

  abbrev timely : List PlanParts
  timely = timely_plans p limits

  enclosed : EnclosesSolution p order items xs z
  enclosed = encloses p a order w.ordered xs z s items w.weights

  having : HasParts p xs z parts
  having = has_parts p a order w.ordered items xs z enclosed parts (parts_are p order (ends_at items))

  full : Encloses parts.full (2 ^ 62 * (mass_in xs (full_word p) + z)) (mass p (mass_in xs) z)
  full = full_part_encloses p order w.ordered items xs z enclosed

  row_contained : (m : ReachMeasure) → IsReachInRange p m → IsReachContained p (mass_in xs) z limits (row_of p timely parts m)
  row_contained m l = record {
    contained = λ v.
        subst (λ b. AllZip (IsReachBetween p (mass_in xs) z m) limits (cond b [] (map (share_in parts m) timely))) (sym v)
        (each_limit (IsReachBetween p (mass_in xs) z m) (share_in parts m) (timely_plan p) limits
        (λ limit. share_contained p a sized limit parts xs z s having full m l v));
    without = λ v. ap (λ b. cond b [] (map (share_in parts m) timely)) v;
  }

  row_in_range : (m : ReachMeasure) → IsReachInRange p m → IsReachRow p (row_of p timely parts m)
  row_in_range m l = record { in_range = l; shares = on_calls (has_no_calls p m) refl }
    where
      on_calls : (b : Bool) → has_no_calls p m ≡ b → All IsShare (cond b [] (map (share_in parts m) timely))
      on_calls true v = All-nil IsShare
      on_calls false v =
          each_value IsShare (share_in parts m) (timely_plan p) limits
          (λ limit. record {
            ordered = share_ordered p a sized limit parts xs z s having full m l v;
            most = share_most p limit parts m;
          })

  rows_contained : All (IsReachContained p (mass_in xs) z limits) (rows_from p timely parts)
  rows_contained = all_rows p timely parts (IsReachContained p (mass_in xs) z limits) row_contained

  rows_in_range : All (IsReachRow p) (rows_from p timely parts)
  rows_in_range = all_rows p timely parts (IsReachRow p) row_in_range

pub reach_is : (p : PlanParts) (limits : List ℕ) (order : WordOrder) (items : List Ends) → ArePlanWeights p order items
    → (rows : List ReachRow) → rows ≡ rows_from p (timely_plans p limits) (parts_from p order (ends_at items))
    → IsReachOf p limits rows
reach_is p limits order items w rows is = record { order = order; items = items; weights = w; exact = is }

pub reach_contains : (p : PlanParts) → IsAccepted p → IsSized p.travel → (limits : List ℕ) (rows : List ReachRow)
    → IsReachOf p limits rows → ContainsReach p limits rows
reach_contains p a sized limits rows is xs z s =
    subst (All (IsReachContained p (mass_in xs) z limits)) (sym is.exact)
    (rows_contained p a sized limits is.order is.items is.weights xs z s)

pub reach_in_range : (p : PlanParts) → IsAccepted p → IsSized p.travel → HasSolution p → (limits : List ℕ) (rows : List ReachRow)
    → IsReachOf p limits rows → All (IsReachRow p) rows
reach_in_range p a sized some limits rows is =
    subst (All (IsReachRow p)) (sym is.exact)
    (rows_in_range p a sized limits is.order is.items is.weights some.masses some.waiting some.solves)

pub one_reach : (p : PlanParts) (limits : List ℕ) (rows others : List ReachRow) → IsReachOf p limits rows
    → IsReachOf p limits others → others ≡ rows
one_reach p limits rows others is again =
    let same = one_weighing p is.order again.order is.items again.items is.weights again.weights in
    again.exact
    ∙ ap (λ o. rows_from p (timely_plans p limits) (parts_from p o (ends_at again.items))) same.0
    ∙ ap (λ i. rows_from p (timely_plans p limits) (parts_from p is.order (ends_at i))) same.1
    ∙ sym is.exact
