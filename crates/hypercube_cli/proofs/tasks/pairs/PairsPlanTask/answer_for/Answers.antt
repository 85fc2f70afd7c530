use Rattle.std.proofs.Common.{rules, ◌∙◌, ap}
use Rattle.pair_dispatch.specs.Acceptance.{MayPair}
use Rattle.hypercube_cli.specs.Endings.{Ending}
use Rattle.hypercube_cli.proofs.TrueTexts.{true_pairs}
use Rattle.hypercube_cli.proofs.tasks.pairs.PairsPlanTask.answer_for.Goals as goal

pub returns-clause-proved : goal.returns-clause-proved
returns-clause-proved g c done =
    let possible : MayPair c.args.plan = search rules in
    true_pairs c.args.plan c.args.self.percent c.in_ok-found.found.items c.of_text.result.text c.requires.accepted possible
    c.requires.in_range c.in_ok-found.ensures.exact
    (ap (λ (ending : Ending). ending.text) c.of_text.ensures ∙ c.in_ok-pair_text.ensures)
