use Rattle.std.proofs.Common.{◌≡◌, ◌*◌, ◌≤◌}
use Rattle.hyper_model.specs.Sums.{sum_below}
use Rattle.hyper_model.specs.Plans.{calls_of, travel}
use Rattle.travel_measures.proofs.table_sums.travel_from_calls.Given as goal

abbrev pub invariant-loop-from : goal.invariant-loop-from
invariant-loop-from l = record {
  travel : l.total ≡ sum_below l.from (λ i. calls_of l.plan i * travel l.plan i l.atom);
  most : l.total ≤ sum_below l.from (calls_of l.plan) * 100000;
  small : l.total ≤ l.from * 100000000000;
}
