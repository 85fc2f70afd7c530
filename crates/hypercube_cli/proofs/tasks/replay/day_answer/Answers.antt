use Rattle.hypercube_cli.proofs.TrueReplays.{day_ends, day_proved}
use Rattle.hypercube_cli.proofs.tasks.replay.day_answer.Goals as goal

pub returns-clause-ending : goal.returns-clause-ending
returns-clause-ending g c =
    day_ends (g.S.Shelf.told c.args.shelf.now) c.args.plan c.args.name.now c.in_ok-day.day c.replay_answer.result
    c.in_ok-day.ensures.content c.replay_answer.ensures.ending

pub returns-clause-proved : goal.returns-clause-proved
returns-clause-proved g c =
    day_proved (g.S.Shelf.told c.args.shelf.now) c.args.plan c.args.name.now c.in_ok-day.day c.replay_answer.result
    c.in_ok-day.ensures.content c.requires.accepted c.in_ok-day.ensures.keeps c.replay_answer.ensures.proved
