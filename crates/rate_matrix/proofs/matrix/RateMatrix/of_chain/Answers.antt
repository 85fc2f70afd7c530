use Rattle.std.proofs.Common.{◌<◌, ◌/◌, ◌^◌, sym, subst, arith}
use Rattle.rate_matrix.specs.Bands.{IsMatrixOf, matrix_of_bands}
use Rattle.rate_matrix.proofs.ExactMatrix.{filled_more, filled_row, filled_zeros, made_sound, made_matrix}
use Rattle.rate_matrix.proofs.matrix.RateMatrix.of_chain.Goals as goal

pub fill_row-outflow-requires-clause-zeros : goal.fill_row-outflow-requires-clause-zeros
fill_row-outflow-requires-clause-zeros g c =
    let inside : c.loop-i.i < g.C.Chain.states c.args.chain.now = omega (arith, c.size-size.ensures.states) in
    let row = filled_row (g.C.Chain.states c.args.chain.now) (g.C.Chain.rates c.args.chain.now) _ c.args.packed
    c.args.levels.items c.loop-i.i c.args.bands.items c.loop-i.bands.items c.loop-i.outflows.items c.index-level.result.now
    c.index_mut.result.now c.requires.banded c.loop-i.invariant inside c.index-level.ensures c.index_mut.ensures.value in
    filled_zeros (g.C.Chain.states c.args.chain.now) (g.C.Chain.rates c.args.chain.now) c.loop-i.i _ _ row.2
    (λ j l h. c.requires.zeros c.loop-i.i j inside l h)

pub loop-i-preserved : goal.loop-i-preserved
loop-i-preserved g c =
    let inside : c.loop-i.i < g.C.Chain.states c.args.chain.now = omega (arith, c.size-size.ensures.states) in
    let row = c.fill_row-outflow.ensures in
    filled_more (g.C.Chain.states c.args.chain.now) (g.C.Chain.rates c.args.chain.now) (2 ^ 62 / c.top.result) c.args.packed
    c.args.levels.items c.loop-i.i c.args.bands.items c.loop-i.bands.items c.loop-i.outflows.items c.index-level.result.now
    c.index_mut.result.now c.fill_row-outflow.new.self c.fill_row-outflow.result _ c.requires.banded c.loop-i.invariant inside
    c.index-level.ensures c.index_mut.ensures.value
    record { shape = row.shape; count = row.count; total = row.outflow; entries = row.entries; others = row.others }
    c.in_ok-push.ensures.items

pub of_bands-requires : goal.of_bands-requires
of_bands-requires g c =
    made_sound (g.C.Chain.states c.args.chain.now) (g.C.Chain.rates c.args.chain.now) c.top.result c.args.packed
    c.args.levels.items c.loop-i.outflows.items c.args.bands.items c.loop-i.bands.items
    record {
      at_least = omega (arith, c.size-size.ensures.states);
      at_most = omega (arith, c.size-size.ensures.states);
      descends = c.size-size.ensures.descends;
      some_top = c.top.ensures.least;
      most_top = c.top.ensures.most;
      bounded = c.top.ensures.bounded;
    }
    c.requires.banded c.requires.zeros c.size-size.result c.loop-i.i c.size-size.ensures.states
    (omega (arith, c.size-size.ensures.states)) c.loop-i.invariant

pub returns-clause-rates : goal.returns-clause-rates
returns-clause-rates g c =
    subst (λ m. IsMatrixOf (g.C.Chain.states c.args.chain.now) (g.C.Chain.rates c.args.chain.now) (g.C.Chain.most c.args.chain.now) m)
    (sym c.of_bands.ensures)
    (subst (λ top. IsMatrixOf (g.C.Chain.states c.args.chain.now) (g.C.Chain.rates c.args.chain.now) top
    (matrix_of_bands c.size-size.result (2 ^ 62 / c.top.result) c.args.packed c.loop-i.outflows.items c.args.levels.items c.loop-i.bands.items))
    c.top.ensures.top
    (made_matrix (g.C.Chain.states c.args.chain.now) (g.C.Chain.rates c.args.chain.now) c.top.result c.args.packed
    c.args.levels.items c.loop-i.outflows.items c.args.bands.items c.loop-i.bands.items
    record {
      at_least = omega (arith, c.size-size.ensures.states);
      at_most = omega (arith, c.size-size.ensures.states);
      descends = c.size-size.ensures.descends;
      some_top = c.top.ensures.least;
      most_top = c.top.ensures.most;
      bounded = c.top.ensures.bounded;
    }
    c.requires.banded c.requires.zeros c.size-size.result c.loop-i.i c.size-size.ensures.states
    (omega (arith, c.size-size.ensures.states)) c.loop-i.invariant))
