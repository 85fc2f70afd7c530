use Rattle.std.proofs.Common.{List}
use Rattle.outer_world.specs.declared.named_text.NamedText.{NamedText}
use Rattle.hypercube_cli.specs.Readings.{plan_at}
use Rattle.hypercube_cli.proofs.PlanTasks.{plan_proved, read_answers}
use Rattle.hypercube_cli.proofs.tasks.plan_task.OfPlanTask.answer.Goals as goal

pub returns-clause-ending : goal.returns-clause-ending
returns-clause-ending g c =
    read_answers (g.S.Shelf.told c.args.shelf.now) (λ (texts : List NamedText). plan_at texts 1 c.args.self.file)
    (g.T.PlanTask.ends c.args.self.task) c.in_ok-plan.plan c.answer_for.result
    (rw c.text.ensures.text at c.in_ok-plan.ensures.content) c.answer_for.ensures.ending

pub returns-clause-proved : goal.returns-clause-proved
returns-clause-proved g c =
    plan_proved (g.S.Shelf.told c.args.shelf.now) c.args.self.file (g.T.PlanTask.proves c.args.self.task) c.in_ok-plan.plan
    c.answer_for.result (rw c.text.ensures.text at c.in_ok-plan.ensures.content) c.law_accepted.ensures
    c.answer_for.ensures.proved
