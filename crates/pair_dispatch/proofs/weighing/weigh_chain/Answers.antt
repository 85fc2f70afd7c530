use Rattle.std.proofs.Common.{◌<◌, ◌≤◌, ◌^◌, arith}
use Rattle.pair_dispatch.proofs.ChainWeights.{chain_encloses, matrix_weights}
use Rattle.pair_dispatch.proofs.weighing.weigh_chain.Goals as goal

pub returns-clause-weights : goal.returns-clause-weights
returns-clause-weights g c =
    let size = g.C.Chain.states c.args.chain.now in
    let top = g.C.Chain.most c.args.chain.now in
    let some : 0 < size = omega (arith, c.size-size.ensures.states, c.size-size.ensures.least) in
    let least : 1 ≤ top = omega (arith, c.top-top.ensures.top, c.top-top.ensures.least) in
    let most : top ≤ 2 ^ 36 = omega (arith, c.top-top.ensures.top, c.top-top.ensures.most) in
    matrix_weights size top (g.C.Chain.rates c.args.chain.now) some least most c.size-size.ensures.descends c.in_ok-matrix.matrix
    c.reduce.new.m c.in_ok-matrix.ensures.rates c.reduce.ensures.reduced c.solve_back.new.out.items c.solve_back.ensures.weights

pub returns-clause-encloses : goal.returns-clause-encloses
returns-clause-encloses g c =
    let size = g.C.Chain.states c.args.chain.now in
    let top = g.C.Chain.most c.args.chain.now in
    let some : 0 < size = omega (arith, c.size-size.ensures.states, c.size-size.ensures.least) in
    let least : 1 ≤ top = omega (arith, c.top-top.ensures.top, c.top-top.ensures.least) in
    let most : top ≤ 2 ^ 36 = omega (arith, c.top-top.ensures.top, c.top-top.ensures.most) in
    chain_encloses size top (g.C.Chain.rates c.args.chain.now) some least most c.size-size.ensures.descends
    c.solve_back.new.out.items (returns-clause-weights g c)
