use Rattle.std.proofs.Common.{◌^◌, ◌≤◌, arith}
use Rattle.std.proofs.Math.Pow.{pow_mono}
use Rattle.word_flows.proofs.rates.words_of.Goals as goal

pub returns-clause-most : goal.returns-clause-most
returns-clause-most c =
    let all : 2 ^ c.units.result ≤ 2 ^ 12 = pow_mono c.units.ensures.most in
    omega (arith, all)
