use Rattle.std.proofs.Common.{◌^◌, ◌≤◌, arith}
use Rattle.std.proofs.Math.Pow.{pow_mono}
use Rattle.finite_line.proofs.measuring.full_place.Goals as goal

pub returns-clause-most : goal.returns-clause-most
returns-clause-most c =
    let few : c.units.result ≤ 11 = omega (arith, c.units.ensures.units, c.requires.few_units) in
    let all : 2 ^ c.units.result ≤ 2 ^ 11 = pow_mono few in
    omega (arith, all)
