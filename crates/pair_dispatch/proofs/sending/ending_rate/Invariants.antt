use Rattle.std.proofs.Common.{◌≡◌, ◌*◌, ◌≤◌, cond, eqb, ◌&&◌}
use Rattle.hyper_model.specs.Plans.{service_of}
use Rattle.hyper_model.specs.Sums.{sum_below}
use Rattle.hyper_model.specs.Words.{is_busy, turned_word}
use Rattle.pair_dispatch.proofs.sending.ending_rate.Given as goal

abbrev pub invariant-loop-unit : goal.invariant-loop-unit
invariant-loop-unit l = record {
  rate : l.rate ≡ sum_below l.unit (λ n. cond (is_busy l.word n && eqb l.next (turned_word l.word n)) (100 * service_of l.plan n) 0);
  most : l.rate ≤ l.unit * 100000000;
}
