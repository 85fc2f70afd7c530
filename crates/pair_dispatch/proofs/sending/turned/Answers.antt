use Rattle.std.proofs.Common.{◌≡◌, ◌<◌, ◌*◌, ◌^◌, ◌%◌, ℕ, ap, arith}
use Rattle.std.specs.Prelude.{bit_xor}
use Rattle.std.proofs.Math.Pow.{pow-lt}
use Rattle.pair_dispatch.proofs.sending.turned.Goals as goal

one_bit : (n : ℕ) → n < 16 → 1 * 2 ^ n % 65536 ≡ 2 ^ n
one_bit n l = let small : 2 ^ n < 2 ^ 16 = pow-lt l in omega arith

pub returns : goal.returns
returns c = ap (bit_xor c.args.word) (one_bit c.args.unit c.requires)
