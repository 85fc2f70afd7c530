use Rattle.std.proofs.Common.{List, length, ap, arith}
use Rattle.day_replay.specs.declared.played_list.AnsweredCall.{AnsweredCall}
use Rattle.day_replay.proofs.Counting.{answers_few, day_short, is_replayed, waiting_few}
use Rattle.day_replay.proofs.replaying.replay.Goals as goal

pub overflow_cast-unanswered : goal.overflow_cast-unanswered
overflow_cast-unanswered c =
    omega (
      arith,
      c.waiting-unanswered.ensures,
      waiting_few c.args.plan.now c.args.day.now c.in_ok-fleet.fleet c.send_units.new.words.items c.in_ok-fleet.ensures.fleet,
      day_short c.args.plan.now c.args.day.now c.requires,
    )

pub count_dispatches-requires-clause-few : goal.count_dispatches-requires-clause-few
count_dispatches-requires-clause-few c =
    omega (
      arith,
      ap (λ (list : List AnsweredCall). length list) c.deref.ensures.value,
      ap (λ (list : List AnsweredCall). length list) c.into_answers-answers.ensures,
      answers_few c.args.plan.now c.args.day.now c.in_ok-fleet.fleet c.send_units.new.words.items c.in_ok-fleet.ensures.fleet,
      day_short c.args.plan.now c.args.day.now c.requires,
    )

pub count_calls-requires : goal.count_calls-requires
count_calls-requires c = omega (arith, day_short c.args.plan.now c.args.day.now c.requires)

pub returns-clause-played : goal.returns-clause-played
returns-clause-played c =
    is_replayed c.args.plan.now c.args.day.now c.in_ok-fleet.fleet c.send_units.new.words.items c.deref-2.result.now
    c.into_answers-answers.result.items c.deref.result.now c.count_calls.result c.waiting-unanswered.result
    c.in_ok-dispatched.dispatched c.in_ok-busy.busy.items c.in_ok-fleet.ensures.fleet c.into_answers-answers.ensures
    c.deref.ensures.value c.deref-2.ensures.value c.count_calls.ensures c.waiting-unanswered.ensures
    c.in_ok-dispatched.ensures.rows c.in_ok-dispatched.ensures.cols c.in_ok-dispatched.ensures.counts c.in_ok-busy.ensures
