use Rattle.std.proofs.Common.{arith}
use Rattle.busy_words.proofs.FirstGroups.{lists_grouped}
use Rattle.day_replay.proofs.Progress.{first_small}
use Rattle.day_replay.proofs.fleet.Fleet.take_call.Goals as goal

pub first_free-unit-requires-clause-grouped : goal.first_free-unit-requires-clause-grouped
first_free-unit-requires-clause-grouped c =
    lists_grouped c.args.plan.now c.law_accepted.ensures c.lists-lists.result.now c.lists-lists.ensures c.from-atom.result
    (omega (arith, c.from-atom.ensures, c.requires.atom))

pub answer_call-requires : goal.answer_call-requires
answer_call-requires c =
    first_small c.args.plan.now c.lists-lists.result.now c.from-atom.result c.args.call.who _ c.first_free-unit.result
    c.law_accepted.ensures c.lists-lists.ensures c.from-atom.ensures c.requires.atom c.first_free-unit.ensures.first
