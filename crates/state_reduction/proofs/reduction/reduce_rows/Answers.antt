use Rattle.std.proofs.Common.{arith}
use Rattle.state_reduction.proofs.Reductions.{ends_reduced, goes_on, may_lose, starts}
use Rattle.state_reduction.proofs.reduction.reduce_rows.Goals as goal

pub loop-m-init : goal.loop-m-init
loop-m-init g c = starts _ c.args.m.now c.args.scratch.now (omega (arith, c.size-size.ensures.least)) c.requires.ready

pub step_by_workers-requires-clause-ready : goal.step_by_workers-requires-clause-ready
step_by_workers-requires-clause-ready g c _ _ =
    may_lose _ c.args.m.now c.loop-m.m c.args.scratch.now c.loop-m.scratch c.requires.ready c.loop-m.invariant
    (omega (arith, c.alive.ensures.alive, c.loop-m-test.true))

pub loop-m-preserved : goal.loop-m-preserved
loop-m-preserved g c =
    goes_on c.args.m.now c.loop-m.m c.step_by_workers.new.m c.args.scratch.now c.loop-m.scratch c.step_by_workers.new.scratch
    c.loop-m.invariant (omega (arith, c.alive.ensures.alive, c.loop-m-test.true)) c.step_by_workers.ensures.state
    c.step_by_workers.ensures.row

pub returns-clause-reduced : goal.returns-clause-reduced
returns-clause-reduced g c =
    ends_reduced c.args.m.now c.loop-m.m c.args.scratch.now c.loop-m.scratch c.loop-m.invariant
    (omega (arith, c.alive.ensures.alive, c.loop-m-test.false))
