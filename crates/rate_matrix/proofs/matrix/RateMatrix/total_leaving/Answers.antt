use Rattle.std.proofs.Common.{◌≡◌, ap, arith}
use Rattle.rate_matrix.specs.Bands.{entry}
use Rattle.busy_words.specs.Algebra.{total_ends}
use Rattle.fixed_interval.specs.Ends.{Ends}
use Rattle.rate_matrix.proofs.matrix.RateMatrix.total_leaving.Goals as goal

pub returns-clause-least : goal.returns-clause-least
returns-clause-least c later =
    let sound = c.size-size.ensures.sound in
    let whole : c.loop-j.j ≡ c.args.state = omega (arith, c.loop-j-test.false, c.loop-j.auto.j-end) in
    omega (
      arith,
      ap (λ (e : Ends). e.lo) c.loop-j.invariant.is,
      ap (λ n. (total_ends n (entry c.args.self.now c.args.state)).lo) whole,
      sound.live.leaves c.args.state later c.requires,
      sound.scale,
    )
