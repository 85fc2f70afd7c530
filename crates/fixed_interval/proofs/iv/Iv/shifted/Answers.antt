use Rattle.std.proofs.Common.{◌≡◌, ◌*◌, ◌%◌, ◌^◌, arith, rules}
use Rattle.std.proofs.lemmas.Nat.{pow_pos}
use Rattle.std.proofs.lemmas.Grind.{common_steps}
use Rattle.fixed_interval.proofs.Rounding.{div_ceil-by_sum}
use Rattle.fixed_interval.proofs.iv.Iv.shifted.Goals as goal

pub returns-clause-ends : goal.returns-clause-ends
returns-clause-ends c =
    let one : 1 * 2 ^ c.args.power % 18446744073709551616 ≡ 2 ^ c.args.power = grind (arith, common_steps) in
    rw one (rw (div_ceil-by_sum c.self.inside.hi (2 ^ c.args.power) (pow_pos c.args.power)) (search rules))
