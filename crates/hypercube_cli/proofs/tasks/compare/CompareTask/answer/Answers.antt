use Rattle.hypercube_cli.proofs.TrueComparisons.{proved_comparison}
use Rattle.hypercube_cli.proofs.tasks.compare.CompareTask.answer.Goals as goal

pub returns-clause-proved : goal.returns-clause-proved
returns-clause-proved g c =
    proved_comparison c.args.self.method (g.S.Shelf.told c.args.shelf.now) c.args.self.study c.in_ok-study.study c.in_ok-plans.plans.items
    c.in_ok-comparison_answer.field-0 (rw c.text.ensures.text at c.in_ok-study.ensures.content)
    (rw c.read_named.ensures.told at c.in_ok-plans.ensures.plans) c.in_ok-plans.ensures.accepted
    (rw c.deref-2.ensures.value at c.in_ok-comparison_answer.ensures.proved)
