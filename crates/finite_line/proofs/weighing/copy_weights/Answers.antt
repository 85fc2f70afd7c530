use Rattle.std.proofs.Common.{◌≡◌, ◌+◌, ◌++◌, ◌∷◌, [], suc, take, ap, ap₂, sym, ◌∙◌, arith}
use Rattle.std.proofs.Math.Seq.{take-suc}
use Rattle.fixed_interval.specs.Ends.{between}
use Rattle.fixed_interval.proofs.Shifts.{pushed_unshifted}
use Rattle.finite_line.proofs.weighing.copy_weights.Goals as goal

pub loop-place-preserved : goal.loop-place-preserved
loop-place-preserved c =
    let items = c.args.weights.now.items in
    let i = c.loop-place.place in
    record {
      items = pushed_unshifted c.loop-place.copy.items c.push_shifting.new.self.items c.wide.result c.push_shifting.ensures.items
          (omega (arith, ap (λ e. e.hi) c.wide.ensures.ends, c.get.ensures.in_range))
          ∙ ap₂ (λ ws w. ws ++ w ∷ []) c.loop-place.invariant.items (c.wide.ensures.ends ∙ c.get.ensures.item)
          ∙ sym (take-suc items i (between 0 0) (omega (arith, c.len-place-end.ensures.count, c.loop-place-test.true)))
          ∙ ap (λ n. take n items) (let next : suc i ≡ i + 1 = omega arith in next);
      spare = omega (arith, c.push_shifting.ensures.spare, c.loop-place.invariant.spare);
    }
