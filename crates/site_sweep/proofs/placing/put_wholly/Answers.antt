use Rattle.std.proofs.Common.{arith}
use Rattle.site_sweep.proofs.PlacedTables.{placed_all, placed_next, placed_none}
use Rattle.site_sweep.proofs.placing.put_wholly.Goals as goal

pub loop-k-init : goal.loop-k-init
loop-k-init c = placed_none c.args.table.now c.args.unit c.args.atom c.cols-k-end.ensures.sized

pub loop-k-preserved : goal.loop-k-preserved
loop-k-preserved c =
    placed_next c.args.table.now c.loop-k.table c.set.new.self c.args.unit c.args.atom c.loop-k.k c.thousandths_at.result
    c.loop-k.invariant c.requires (omega (arith, c.cols-k-end.ensures.cols)) c.thousandths_at.ensures c.set.ensures.sets c.set.ensures.table

pub returns : goal.returns
returns c =
    placed_all c.args.table.now c.loop-k.table c.args.unit c.args.atom c.loop-k.k
    (omega (arith, c.cols-k-end.ensures.cols, c.loop-k-test.false)) c.loop-k.invariant
