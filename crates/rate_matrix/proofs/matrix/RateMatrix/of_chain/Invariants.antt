use Rattle.rate_matrix.proofs.ExactMatrix.{AreFilledTo}
use Rattle.rate_matrix.proofs.matrix.RateMatrix.of_chain.Given as goal

abbrev pub invariant-loop-i : goal.invariant-loop-i
invariant-loop-i g l =
    AreFilledTo (g.C.Chain.states l.chain) (g.C.Chain.rates l.chain) l.scale l.packed l.levels.items l.i
    l.initial.bands.items l.bands.items l.outflows.items
