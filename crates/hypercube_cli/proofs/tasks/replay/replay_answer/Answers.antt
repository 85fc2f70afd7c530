use Rattle.std.proofs.Common.{rules}
use Rattle.hypercube_cli.proofs.TrueReplays.{one_busy, text_replayed}
use Rattle.hypercube_cli.proofs.tasks.replay.replay_answer.Goals as goal

pub returns-in-Err-NotBusy-clause-ending : goal.returns-in-Err-NotBusy-clause-ending
returns-in-Err-NotBusy-clause-ending g c =
    one_busy c.args.plan c.args.day.now c.from.result c.in-Err-NotBusy.number c.in-Err-NotBusy.field-0 (search rules)
    (search rules) c.requires.form c.in-Err-NotBusy.ensures.end

pub returns-in-Ok-clause-ending : goal.returns-in-Ok-clause-ending
returns-in-Ok-clause-ending g c =
    text_replayed c.args.plan c.args.day.now c.in-Ok.played c.of_text.result c.in_ok-played_text-in-Ok.field-0.items
    c.in-Ok.ensures.played c.in-Ok.ensures.end c.in_ok-played_text-in-Ok.ensures c.of_text.ensures
