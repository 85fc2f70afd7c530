-- The measure that is too wide is one of the list.
use Rattle.std.proofs.Common.{◌≡◌, ℕ, Bool, true, false, cond, List, [], ◌∷◌, All, subst}
use Rattle.std.specs.Prelude.{Option, Some, find}
use Rattle.std.proofs.lemmas.List.Elements.{All-filter, All-head, All-tail}
use Rattle.hyper_model.specs.declared.kinds.Enclosed.{Enclosed}
use Rattle.hyper_model.specs.declared.kinds.Found.TheVariants as found
use Rattle.hyper_model.specs.declared.kinds.Measure.{Measure}
use Rattle.hyper_model.specs.declared.parts.PlanParts.{PlanParts}
use Rattle.hyper_model.specs.Measures.{IsInRange}
use Rattle.report_text.specs.declared.ending.Widths.{Widths}
use Rattle.report_text.specs.Reports.{is_printed, printed_items}
use Rattle.report_text.specs.declared.ending.ReportEnd.{ReportEnd}
use Rattle.report_text.specs.declared.ending.ReportEnd.TheVariants as end
use Rattle.report_text.specs.TooWide.{EndsAt, first_wide, is_wide}

found_next : {X : Type 0} (P : X → Type 0) (b : Bool) (y x : X) (rest : Option X) → P y → (rest ≡ Some x → P x)
    → cond b (Some y) rest ≡ Some x → P x
found_next P true y x rest here later is = let same : y ≡ x = cc in subst P same here
found_next P false y x rest here later is = later is

pub found_holds : {X : Type 0} (P : X → Type 0) (test : X → Bool) (xs : List X) (x : X) → All P xs → find test xs ≡ Some x → P x
found_holds P test [] x all is = absurd (cc)
found_holds P test (y ∷ ys) x all is =
    found_next P (test y) y x (find test ys) (All-head P y ys all) (found_holds P test ys x (All-tail P y ys all)) is

pub wide_in_range : (p : PlanParts) (widths : Widths) (summary : Bool) (items : List Enclosed) (ended : ReportEnd) (m : Measure) (lo hi : ℕ)
    → ended ≡ end.TooWide m lo hi → All (λ e. IsInRange p e.measure) items → EndsAt (first_wide widths summary items) ended
    → IsInRange p m
wide_in_range p widths summary items ended m lo hi same all ends =
    let is : first_wide widths summary items ≡ Some (record { measure = m; found = found.Ends lo hi }) =
    subst (EndsAt (first_wide widths summary items)) same ends in
    found_holds (λ (e : Enclosed). IsInRange p e.measure) (is_wide widths) (printed_items summary items)
    (record { measure = m; found = found.Ends lo hi }) (All-filter (is_printed summary) (λ e. IsInRange p e.measure) items all) is
