use Rattle.std.proofs.Common.{refl, arith}
use Rattle.state_reduction.proofs.Reductions.{ends_reduced, goes_on, may_lose, starts}
use Rattle.state_reduction.proofs.reduction.reduce.Goals as goal

pub loop-m-init : goal.loop-m-init
loop-m-init c = starts _ c.args.m.now c.args.scratch.now (omega (arith, c.size-size.ensures.least)) c.requires.ready

pub step-requires : goal.step-requires
step-requires c =
    let ready = may_lose _ c.args.m.now c.loop-m.m c.args.scratch.now c.loop-m.scratch c.requires.ready c.loop-m.invariant
    (omega (arith, c.alive.ensures.alive, c.loop-m-test.true)) in
    record { ready = record { form = refl; alive = ready.alive; room = ready.room } }

pub loop-m-preserved : goal.loop-m-preserved
loop-m-preserved c =
    goes_on c.args.m.now c.loop-m.m c.step.new.m c.args.scratch.now c.loop-m.scratch c.step.new.scratch
    c.loop-m.invariant (omega (arith, c.alive.ensures.alive, c.loop-m-test.true)) c.step.ensures.state
    c.step.ensures.row

pub returns-clause-reduced : goal.returns-clause-reduced
returns-clause-reduced c =
    ends_reduced c.args.m.now c.loop-m.m c.args.scratch.now c.loop-m.scratch c.loop-m.invariant
    (omega (arith, c.alive.ensures.alive, c.loop-m-test.false))
