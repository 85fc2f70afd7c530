-- What speaks of masses does not see the travel times: the timely plan has the plan's calls that wait, its answered calls and
-- its tails.
use Rattle.std.proofs.Common.{◌≡◌, ℕ, ◌+◌, ◌*◌, List, refl, ap}
use Rattle.hyper_model.specs.declared.kinds.Line.{Line}
use Rattle.hyper_model.specs.declared.kinds.Line.TheVariants as line
use Rattle.hyper_model.specs.declared.parts.PlanParts.{PlanParts}
use Rattle.hyper_model.specs.Sums.{sum_below}
use Rattle.hyper_model.specs.Plans.{atoms, service_of, calls_of, all_service, split}
use Rattle.hyper_model.specs.Solutions.{IsTail}
use Rattle.hyper_model.specs.Measures.{base, base_on, dispatch_flow_by, queued_mass, queued_mass_on, taken_mass}
use Rattle.timely_reach.specs.TimelyPlans.{timely_plan}

module _ (p : PlanParts) (limit : ℕ) where
  abbrev q : PlanParts
  q = timely_plan p limit

  pub same_queued : (x : ℕ → ℕ) (z : ℕ) → queued_mass q x z ≡ queued_mass p x z
  same_queued x z = on_line p.line
    where
      on_line : (l : Line) → queued_mass_on l q x z ≡ queued_mass_on l p x z
      on_line line.Zero = refl
      on_line line.Infinite = refl

  pub same_base : (x : ℕ → ℕ) (z : ℕ) → base q x z ≡ base p x z
  same_base x z = on_line p.line
    where
      on_line : (l : Line) → base_on l q x z ≡ base_on l p x z
      on_line line.Zero = refl
      on_line line.Infinite = refl

  pub same_flow : (x : ℕ → ℕ) (z n : ℕ) → dispatch_flow_by q x z n ≡ dispatch_flow_by p x z n
  same_flow x z n =
      ap (λ l. sum_below (atoms p) (λ j. calls_of p j * (all_service p * taken_mass p x n j + split p * service_of p n * l)))
      (same_queued x z)
