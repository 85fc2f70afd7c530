use Rattle.std.proofs.Common.{◌≡◌, ◌*◌, ◌^◌, ◌≤◌}
use Rattle.hyper_model.specs.Solutions.{mass_in}
use Rattle.hyper_model.specs.Sums.{sum_below}
use Rattle.hyper_model.specs.Tables.{turn_rate}
use Rattle.hyper_model.specs.Words.{turned_word}
use Rattle.word_flows.proofs.flows.WordFlowsFlows.inflow.Given as goal

abbrev pub invariant-loop-unit : goal.invariant-loop-unit
invariant-loop-unit l = record {
  flow : l.flow ≡ sum_below l.unit
      (λ n. mass_in l.masses (turned_word l.state n) * turn_rate l.self.plan.now (turned_word l.state n) n);
  most : l.flow ≤ l.unit * 2 ^ 98;
}
