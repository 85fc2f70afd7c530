use Rattle.std.proofs.Common.{◌≡◌, ◌≤◌}
use Rattle.hyper_model.specs.Plans.{travel}
use Rattle.travel_measures.specs.TravelEnds.{greatest_below}
use Rattle.travel_measures.proofs.table_sums.longest_to.Given as goal

abbrev pub invariant-loop-from : goal.invariant-loop-from
invariant-loop-from l = record {
  longest : l.longest ≡ greatest_below l.from (λ k. travel l.plan k l.atom);
  most : l.longest ≤ 100000;
}
