use Rattle.std.proofs.Common.{◌≡◌, ◌*◌, ◌^◌, ◌≤◌, cond}
use Rattle.hyper_model.specs.Sums.{sum_below}
use Rattle.hyper_model.specs.Plans.{calls_of, split}
use Rattle.hyper_model.specs.Words.{takes, portion}
use Rattle.busy_words.proofs.dispatch.up.Given as goal

abbrev pub invariant-loop-atom : goal.invariant-loop-atom
invariant-loop-atom l = record {
  rate : l.rate ≡ sum_below l.atom (λ j. cond (takes l.plan j l.word l.unit) (calls_of l.plan j * portion l.plan j l.word) 0);
  most : l.rate ≤ split l.plan * sum_below l.atom (calls_of l.plan);
  small : l.rate ≤ l.atom * 2 ^ 40;
}
