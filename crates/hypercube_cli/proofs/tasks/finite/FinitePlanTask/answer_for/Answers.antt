use Rattle.std.proofs.Common.{rules, ◌∙◌, ap}
use Rattle.finite_line.specs.Refusals.{IsFinitePlan}
use Rattle.hypercube_cli.specs.Endings.{Ending}
use Rattle.hypercube_cli.proofs.TrueTexts.{true_finite}
use Rattle.hypercube_cli.proofs.tasks.finite.FinitePlanTask.answer_for.Goals as goal

pub returns-clause-proved : goal.returns-clause-proved
returns-clause-proved g c done =
    let possible : IsFinitePlan c.args.plan = search rules in
    true_finite c.args.plan c.args.self.places c.in_ok-found.found c.of_text.result.text c.requires.accepted possible
    c.requires.in_range.low c.in_ok-found.ensures.exact
    (ap (λ (ending : Ending). ending.text) c.of_text.ensures ∙ c.in_ok-finite_text.ensures)
