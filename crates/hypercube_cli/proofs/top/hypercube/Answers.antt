use Rattle.std.proofs.Common.{List, map, subst}
use Rattle.std.specs.String.{string_bytes}
use Rattle.outer_world.specs.declared.named_text.NamedText.{NamedText}
use Rattle.command_words.specs.Command.{command as command_of}
use Rattle.hypercube_cli.specs.Commands.{meaning_of}
use Rattle.hypercube_cli.specs.Meanings.{texts_for}
use Rattle.hypercube_cli.specs.Runs.{ComesFrom}
use Rattle.hypercube_cli.proofs.Endings.{absent_keeps, answer_proved, answer_runs, fault_keeps, usage_finishes}
use Rattle.hypercube_cli.proofs.top.hypercube.Goals as goal

pub returns-clause-ending : goal.returns-clause-ending
returns-clause-ending g c =
    let asked = meaning_of (command_of (map string_bytes c.args.words.now)) in
    answer_runs (texts_for asked (g.S.Shelf.told c.args.shelf.now)) (λ (texts : List NamedText). asked.ends texts)
    c.answer_of-answer.result c.finish.result (g.K.Sink.taken c.args.sink.now) (g.K.Sink.taken c.finish.new.sink)
    c.answer_of-answer.ensures.ending c.finish.ensures.finishes

pub returns-clause-proved : goal.returns-clause-proved
returns-clause-proved g c =
    let asked = meaning_of (command_of (map string_bytes c.args.words.now)) in
    answer_proved (texts_for asked (g.S.Shelf.told c.args.shelf.now)) (λ (texts : List NamedText). asked.proves texts)
    c.answer_of-answer.result c.finish.result (g.K.Sink.taken c.args.sink.now) (g.K.Sink.taken c.finish.new.sink)
    c.answer_of-answer.ensures.proved c.finish.ensures.finishes

pub returns-clause-no_command : goal.returns-clause-no_command
returns-clause-no_command g c none =
    usage_finishes (command_of (map string_bytes c.args.words.now)) (g.S.Shelf.told c.args.shelf.now)
    (g.S.Shelf.last_fault c.answer_of-answer.new.shelf) c.finish.result (g.K.Sink.taken c.args.sink.now)
    (g.K.Sink.taken c.finish.new.sink) none (returns-clause-ending g c)
    (λ fault. (c.answer_of-answer.ensures.fault (subst (ComesFrom c.answer_of-answer.result) fault c.finish.ensures.cause)).1)

pub returns-clause-usage : goal.returns-clause-usage
returns-clause-usage g c usage =
    c.answer_of-answer.ensures.usage (subst (ComesFrom c.answer_of-answer.result) usage c.finish.ensures.cause)

pub returns-clause-refused : goal.returns-clause-refused
returns-clause-refused g c refusal refused =
    c.answer_of-answer.ensures.refused refusal (subst (ComesFrom c.answer_of-answer.result) refused c.finish.ensures.cause)

pub returns-clause-read_fault : goal.returns-clause-read_fault
returns-clause-read_fault g c fault =
    c.answer_of-answer.ensures.fault (subst (ComesFrom c.answer_of-answer.result) fault c.finish.ensures.cause)

pub returns-clause-unread : goal.returns-clause-unread
returns-clause-unread g c fault =
    fault_keeps c.answer_of-answer.result c.finish.result (g.K.Sink.taken c.args.sink.now) (g.K.Sink.taken c.finish.new.sink)
    (subst (ComesFrom c.answer_of-answer.result) fault c.finish.ensures.cause) c.finish.ensures.finishes

pub returns-clause-absent : goal.returns-clause-absent
returns-clause-absent g c place absent =
    absent_keeps c.answer_of-answer.result place c.finish.result (g.K.Sink.taken c.args.sink.now)
    (g.K.Sink.taken c.finish.new.sink) (subst (ComesFrom c.answer_of-answer.result) absent c.finish.ensures.cause)
    c.finish.ensures.finishes
