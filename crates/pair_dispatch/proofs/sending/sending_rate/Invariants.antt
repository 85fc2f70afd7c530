use Rattle.std.proofs.Common.{◌≡◌, ◌*◌, ◌≤◌}
use Rattle.hyper_model.specs.Plans.{calls_of}
use Rattle.hyper_model.specs.Sums.{sum_below}
use Rattle.pair_dispatch.specs.PairRates.{calls_leading}
use Rattle.pair_dispatch.proofs.sending.sending_rate.Given as goal

abbrev pub invariant-loop-atom : goal.invariant-loop-atom
invariant-loop-atom l = record {
  rate : l.rate ≡ sum_below l.atom (λ j. calls_of l.plan j * calls_leading l.plan l.percent j l.word l.next);
  most : l.rate ≤ l.atom * 100000000;
}
