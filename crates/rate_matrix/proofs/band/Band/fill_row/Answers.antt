use Rattle.std.proofs.Common.{◌≡◌, ◌+◌, ◌*◌, ◌^◌, ◌≤◌, length, sym, ap, subst, ◌∙◌, arith}
use Rattle.fixed_interval.specs.Ends.{exact_ends}
use Rattle.rate_matrix.proofs.RowFilling.{IsFilledTo, filling_starts, filling_goes_on, filling_ends, rate_small, sum_small, scaled_small}
use Rattle.rate_matrix.proofs.band.Band.fill_row.Goals as goal

pub loop-j-init : goal.loop-j-init
loop-j-init g c =
    subst (λ k. IsFilledTo (g.C.Chain.rates c.args.chain.now) c.args.scale c.args.i k c.args.self.now c.args.self.now 0)
    (sym (ap (λ b. b.left) c.self.view_is))
    (filling_starts (g.C.Chain.states c.args.chain.now) (g.C.Chain.rates c.args.chain.now) c.args.scale c.args.i
    c.args.self.now c.requires.columns c.requires.zeros)

pub overflow_add-outflow : goal.overflow_add-outflow
overflow_add-outflow g c =
    let left = ap (λ b. b.left) c.self.view_is in
    let width = ap (λ b. b.width) c.self.view_is in
    let small = sum_small (g.C.Chain.states c.args.chain.now) c.top-top.result (g.C.Chain.rates c.args.chain.now)
    c.args.i c.loop-j.j (omega (arith, left, width, c.requires.columns)) (c.top-top.ensures.bounded c.args.i c.requires.state) in
    omega (arith, small, c.loop-j.invariant.total, c.rate_between-rate.ensures)

pub exact-requires : goal.exact-requires
exact-requires g c =
    let left = ap (λ b. b.left) c.self.view_is in
    let width = ap (λ b. b.width) c.self.view_is in
    let small = rate_small (g.C.Chain.states c.args.chain.now) c.top-top.result (g.C.Chain.rates c.args.chain.now)
    c.args.i c.loop-j.j (omega (arith, left, width, c.requires.columns)) (c.top-top.ensures.bounded c.args.i c.requires.state) in
    let rate : c.rate_between-rate.result ≤ c.top-top.result = omega (arith, small, c.rate_between-rate.ensures) in
    let scale : c.args.scale * c.top-top.result ≤ 2 ^ 62 = subst (λ t. c.args.scale * t ≤ 2 ^ 62) (sym c.top-top.ensures.top) c.requires.scale in
    scaled_small c.args.scale c.top-top.result c.rate_between-rate.result rate scale

pub overflow_mul-scale : goal.overflow_mul-scale
overflow_mul-scale g c = let small = exact-requires g c in omega (arith, small)

pub loop-j-preserved : goal.loop-j-preserved
loop-j-preserved g c =
    let left = ap (λ b. b.left) c.self.view_is in
    let width = ap (λ b. b.width) c.self.view_is in
    let rate = c.rate_between-rate.ensures in
    subst (λ r. IsFilledTo (g.C.Chain.rates c.args.chain.now) c.args.scale c.args.i (c.loop-j.j + 1) c.args.self.now c.put.new.self (c.loop-j.outflow + r))
    (sym rate)
    (filling_goes_on (g.C.Chain.rates c.args.chain.now) c.args.scale c.args.i c.loop-j.j c.args.self.now c.loop-j.self
    c.put.new.self c.loop-j.outflow c.exact.result c.loop-j.invariant c.requires.row
    (record { from = omega (arith, left); to = omega (arith, left, width) })
    (subst (λ b. length b.cells ≡ b.rows * b.width) c.self.view_is c.self.invariant.0)
    (c.exact.ensures.ends ∙ ap (λ r. exact_ends (c.args.scale * r)) rate)
    c.put.ensures)

pub returns-clause-outflow : goal.returns-clause-outflow
returns-clause-outflow g c =
    let left = ap (λ b. b.left) c.self.view_is in
    let width = ap (λ b. b.width) c.self.view_is in
    filling_ends (g.C.Chain.states c.args.chain.now) (g.C.Chain.rates c.args.chain.now) c.args.scale c.args.i
    c.args.self.now c.loop-j.self c.loop-j.j c.loop-j.outflow c.loop-j.invariant (omega (arith, left, width))
    c.requires.columns c.requires.zeros
