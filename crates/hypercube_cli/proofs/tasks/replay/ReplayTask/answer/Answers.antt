use Rattle.hypercube_cli.proofs.TrueReplays.{replay_ends, replay_proved}
use Rattle.hypercube_cli.proofs.tasks.replay.ReplayTask.answer.Goals as goal

pub returns-clause-ending : goal.returns-clause-ending
returns-clause-ending g c =
    replay_ends (g.S.Shelf.told c.args.shelf.now) c.args.self.file c.args.self.day c.in_ok-plan.plan c.day_answer.result
    (rw c.text.ensures.text at c.in_ok-plan.ensures.content)
    (rw (c.text-2.ensures.text, c.read_named.ensures.told) at c.day_answer.ensures.ending)

pub returns-clause-proved : goal.returns-clause-proved
returns-clause-proved g c =
    replay_proved (g.S.Shelf.told c.args.shelf.now) c.args.self.file c.args.self.day c.in_ok-plan.plan c.day_answer.result
    (rw c.text.ensures.text at c.in_ok-plan.ensures.content) c.law_accepted.ensures
    (rw (c.text-2.ensures.text, c.read_named.ensures.told) at c.day_answer.ensures.proved)
