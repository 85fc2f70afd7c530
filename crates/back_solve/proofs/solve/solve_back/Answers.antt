use Rattle.std.proofs.Common.{◌≡◌, subst, ◌∙◌, arith}
use Rattle.rate_matrix.specs.Bands.{entry}
use Rattle.rate_matrix.specs.Weights.{AreWeightsOf}
use Rattle.back_solve.proofs.Solving.{all-enclose, first-pushed, next-pushed}
use Rattle.back_solve.proofs.solve.solve_back.Goals as goal

pub loop-state-init : goal.loop-state-init
loop-state-init c = record {
  weights =
      first-pushed (entry c.args.m.now) c.args.out.now.items c.push_shifting.new.self.items c.wide.result c.requires.empty
      (c.wide.ensures.ends ∙ c.exact.ensures.ends) c.push_shifting.ensures.items;
  count = rw c.requires.empty at c.push_shifting.ensures.count;
  spare = c.push_shifting.ensures.spare;
}

pub loop-state-preserved : goal.loop-state-preserved
loop-state-preserved c = record {
  weights =
      next-pushed (entry c.args.m.now) c.loop-state.state c.loop-state.out.items c.push_shifting-in-loop-state.new.self.items
      c.next_weight-weight.result (omega (arith, c.loop-state.auto.state)) c.loop-state.invariant.weights
      c.next_weight-weight.ensures.weight c.push_shifting-in-loop-state.ensures.items;
  count = omega (arith, c.push_shifting-in-loop-state.ensures.count, c.loop-state.invariant.count);
  spare = omega (arith, c.push_shifting-in-loop-state.ensures.spare, c.loop-state.invariant.spare);
}

pub returns-clause-encloses : goal.returns-clause-encloses
returns-clause-encloses c =
    let end : c.loop-state.state ≡ c.args.m.now.size =
    omega (arith, c.loop-state-test.false, c.loop-state.auto.state-end, c.size-size.ensures.size, c.size-size.ensures.least) in
    λ ys count holds.
    all-enclose c.args.m.now c.loop-state.out.items ys c.size-size.ensures.sound
    (subst (λ n. AreWeightsOf (entry c.args.m.now) n c.loop-state.out.items) end c.loop-state.invariant.weights) count holds
