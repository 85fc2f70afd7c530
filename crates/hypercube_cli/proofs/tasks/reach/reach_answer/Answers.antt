use Rattle.std.proofs.Common.{◌∙◌, ap}
use Rattle.hypercube_cli.specs.Endings.{Ending}
use Rattle.hypercube_cli.proofs.tasks.reach.reach_answer.Goals as goal

pub returns-clause-proved : goal.returns-clause-proved
returns-clause-proved c = record {
  solvable = c.reach.ensures.solvable;
  positive = c.law_reached.ensures.positive;
  contains = record {
    list = c.in_ok-rows.rows;
    exact = c.in_ok-rows.ensures.exact;
    alone = c.in_ok-rows.ensures.alone;
    written = ap (λ (ending : Ending). ending.text) c.of_text.ensures ∙ c.in_ok-reach_text.ensures;
    holds = c.in_ok-rows.ensures.contains;
  };
}
