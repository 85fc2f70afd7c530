use Rattle.std.proofs.Common.{◌≡◌, ◌*◌, ◌^◌, ◌≤◌}
use Rattle.hyper_model.specs.Sums.{sum_below}
use Rattle.hyper_model.specs.Tables.{turn_rate}
use Rattle.word_flows.proofs.rates.leaving.Given as goal

abbrev pub invariant-loop-unit : goal.invariant-loop-unit
invariant-loop-unit l = record {
  sum : l.sum ≡ sum_below l.unit (turn_rate l.plan l.word);
  most : l.sum ≤ l.unit * 2 ^ 36;
}
