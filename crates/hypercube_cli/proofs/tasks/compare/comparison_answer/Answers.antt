use Rattle.std.proofs.Common.{◌∙◌, List, ap}
use Rattle.hyper_model.specs.Enclosures.{EnclosureList}
use Rattle.hypercube_cli.specs.Endings.{Ending}
use Rattle.plan_solver.proofs.SolvedPlans.{as_many_by}
use Rattle.hypercube_cli.proofs.TrueComparisons.{each_sound, only_lists}
use Rattle.hypercube_cli.proofs.tasks.compare.comparison_answer.Goals as goal

pub verdicts-requires-clause-one_each : goal.verdicts-requires-clause-one_each
verdicts-requires-clause-one_each c =
    as_many_by c.args.method c.args.plans.now c.args.found.now c.requires.enclosed ∙ c.requires.one_each

pub comparison-requires-clause-one_each : goal.comparison-requires-clause-one_each
comparison-requires-clause-one_each c =
    as_many_by c.args.method c.args.plans.now c.args.found.now c.requires.enclosed ∙ c.requires.one_each

pub returns-in-Ok-clause-proved : goal.returns-in-Ok-clause-proved
returns-in-Ok-clause-proved c done = record {
  found = c.args.found.now;
  enclosed = c.requires.enclosed;
  alone = λ is (others : List EnclosureList).
      only_lists c.args.method c.args.plans.now c.args.found.now others c.requires.enclosed is;
  sound = each_sound c.args.method c.args.plans.now c.args.found.now c.requires.accepted c.requires.enclosed;
  written = ap (λ (ending : Ending). ending.text) c.of_text.ensures ∙ c.in-Ok.ensures.text;
  contains = c.verdicts.ensures.contained;
  separates = rw c.verdicts.ensures.exact at c.verdicts.ensures.proved;
}
