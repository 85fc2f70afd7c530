use Rattle.std.proofs.Common.{◌≡◌, suc, ◌+◌, ◌<◌, refl, ap, arith}
use Rattle.fleet_measures.proofs.WordSums.{next_below, next_word, next_quotient, bit_small}
use Rattle.fleet_measures.proofs.gather.exhausted_word.Goals as goal

pub overflow_add-word : goal.overflow_add-word
overflow_add-word c =
    let few : c.loop-k.k < 12 = omega (arith, c.stations-k-end.ensures.most) in
    omega (arith, bit_small c.loop-k.k few, c.loop-k.invariant.below, c.bit_if_exhausted-word.ensures.most)

pub loop-k-preserved : goal.loop-k-preserved
loop-k-preserved c =
    let s = c.args.fleet.now in
    let k = c.loop-k.k in
    let next : k + 1 ≡ suc k = omega arith in
    record {
      word = next_word s c.args.state k c.loop-k.word c.loop-k.rest c.crews-crews.result (k + 1)
          (c.loop-k.word + c.bit_if_exhausted-word.result) c.loop-k.invariant.word c.loop-k.invariant.rest
          c.crews-crews.ensures.crews next (ap (λ b. c.loop-k.word + b) c.bit_if_exhausted-word.ensures.bit);
      below = next_below k (k + 1) c.loop-k.word c.bit_if_exhausted-word.result c.loop-k.invariant.below
          c.bit_if_exhausted-word.ensures.most next;
      rest = next_quotient s c.args.state k c.loop-k.rest c.crews-crews.result (k + 1) _ c.loop-k.invariant.rest
          c.crews-crews.ensures.crews next refl;
    }
