use Rattle.std.proofs.Common.{List, length, ap, arith}
use Rattle.fixed_interval.specs.Ends.{Ends}
use Rattle.hyper_model.proofs.PlanLaws.{words_positive}
use Rattle.plan_solver.specs.PlanWeights.{ArePlanWeights}
use Rattle.finite_line.proofs.PlanQueues.{few_words, finite_weights_are, one_each_word}
use Rattle.finite_line.proofs.weighing.weigh_queue.Goals as goal

pub reserved-requires-2 : goal.reserved-requires-2
reserved-requires-2 c =
    let p = c.args.plan.now in
    let solved : ArePlanWeights p c.weigh-order.result.order c.weigh-order.result.weights.items =
    c.weigh-order.ensures.weights p c.in_ok-reserved.ensures in
    omega (
      arith,
      c.len.ensures.count,
      c.requires.most,
      few_words p c.requires.possible,
      one_each_word p c.law_accepted.ensures c.requires.possible c.weigh-order.result.order c.weigh-order.result.weights.items
          solved,
    )

pub add_queue-requires-clause-some : goal.add_queue-requires-clause-some
add_queue-requires-clause-some c =
    let p = c.args.plan.now in
    let solved : ArePlanWeights p c.weigh-order.result.order c.weigh-order.result.weights.items =
    c.weigh-order.ensures.weights p c.in_ok-reserved.ensures in
    omega (
      arith,
      ap (λ (l : List Ends). length l) c.copy_weights.ensures.items,
      words_positive p,
      one_each_word p c.law_accepted.ensures c.requires.possible c.weigh-order.result.order c.weigh-order.result.weights.items
          solved,
    )

pub returns : goal.returns
returns c =
    let p = c.args.plan.now in
    finite_weights_are p c.args.places c.calls.result c.service.result c.weigh-order.result.order
    c.weigh-order.result.weights.items c.copy_weights.new.copy.items c.add_queue.new.weights.items
    (c.weigh-order.ensures.weights p c.in_ok-reserved.ensures) c.copy_weights.ensures.items c.calls.ensures.calls
    c.service.ensures.service c.add_queue.ensures
