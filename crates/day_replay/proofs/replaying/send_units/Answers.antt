use Rattle.std.proofs.Common.{refl, arith}
use Rattle.std.proofs.lemmas.Result.{err_from_is_err_and}
use Rattle.day_replay.proofs.Progress.{all_reached, end_told, none_reached, none_told, reached_next}
use Rattle.day_replay.proofs.replaying.send_units.Goals as goal

pub loop-place-init : goal.loop-place-init
loop-place-init c =
    rw c.requires.empty (none_reached c.args.plan.now c.args.day.now c.new-fleet.result c.new-fleet.ensures.word c.new-fleet.ensures.waiting
    c.new-fleet.ensures.answers)

pub loop-place-preserved : goal.loop-place-preserved
loop-place-preserved c =
    reached_next c.args.plan.now c.args.day.now c.loop-place.place c.loop-place.fleet c.play_record.new.fleet c.loop-place.words.items
    c.play_record.new.words.items c.get-read.result c.law_accepted.ensures c.requires.form
    (omega (arith, c.loop-place-test.true, c.len-place-end.ensures)) c.loop-place.invariant c.get-read.ensures
    c.in_ok-play_record.ensures.busy c.in_ok-play_record.ensures.fleet c.in_ok-play_record.ensures.words

pub returns-in_err-play_record-clause-end : goal.returns-in_err-play_record-clause-end
returns-in_err-play_record-clause-end c = λ sends stand.
    let e = c.in_err-play_record.field-0.0 in
    let p = err_from_is_err_and c.from_residual.result c.from_residual.ensures.1 in
    rw (p.1, p.2) (end_told c.args.plan.now c.args.day.now c.loop-place.place c.loop-place.fleet c.loop-place.words.items c.get-read.result e sends
    c.requires.form (omega (arith, c.loop-place-test.true, c.len-place-end.ensures)) c.loop-place.invariant c.get-read.ensures
    (c.in_err-play_record.ensures.end e refl) stand)

pub returns-clause-fleet : goal.returns-clause-fleet
returns-clause-fleet c =
    all_reached c.args.plan.now c.args.day.now c.loop-place.place c.loop-place.fleet c.loop-place.words.items c.requires.form
    (omega (arith, c.loop-place-test.false, c.len-place-end.ensures)) c.loop-place.invariant
    (omega (arith, c.loop-place-test.false, c.len-place-end.ensures, c.loop-place.auto.place-end))

pub returns-clause-end : goal.returns-clause-end
returns-clause-end c = λ sends stand.
    none_told c.args.plan.now c.args.day.now c.loop-place.fleet c.loop-place.words.items sends c.requires.form
    (all_reached c.args.plan.now c.args.day.now c.loop-place.place c.loop-place.fleet c.loop-place.words.items c.requires.form
    (omega (arith, c.loop-place-test.false, c.len-place-end.ensures)) c.loop-place.invariant
    (omega (arith, c.loop-place-test.false, c.len-place-end.ensures, c.loop-place.auto.place-end))) stand
