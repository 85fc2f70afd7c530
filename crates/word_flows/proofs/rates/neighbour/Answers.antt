use Rattle.std.proofs.Common.{◌≡◌, ℕ, ◌*◌, ◌%◌, ◌^◌, ◌<◌, ap, sym, subst, ◌∙◌, arith}
use Rattle.std.specs.Prelude.{bit_xor}
use Rattle.std.proofs.Math.Pow.{pow-lt}
use Rattle.hyper_model.specs.Plans.{units}
use Rattle.hyper_model.specs.Words.{words, turned_word}
use Rattle.hyper_model.proofs.Bits.{turned_lt}
use Rattle.word_flows.proofs.rates.neighbour.Goals as goal

one_bit : (n : ℕ) → n < 16 → 1 * 2 ^ n % 2 ^ 64 ≡ 2 ^ n
one_bit n l = let small : 2 ^ n < 2 ^ 16 = pow-lt l in omega arith

pub returns : goal.returns
returns c =
    let is : bit_xor c.args.word (1 * 2 ^ c.args.unit % 2 ^ 64) ≡ turned_word c.args.word c.args.unit =
    ap (bit_xor c.args.word) (one_bit c.args.unit (omega (arith, c.requires.unit, c.units-units.ensures.units, c.units-units.ensures.most))) in
    record {
      word = is;
      below = subst (λ w. w < words c.args.plan.now) (sym is)
          (turned_lt (units c.args.plan.now) c.args.word c.args.unit c.requires.word c.requires.unit);
    }
