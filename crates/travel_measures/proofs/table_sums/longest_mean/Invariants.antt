use Rattle.std.proofs.Common.{◌≡◌, ◌≤◌}
use Rattle.travel_measures.specs.TravelEnds.{greatest_below, longest_to}
use Rattle.travel_measures.proofs.table_sums.longest_mean.Given as goal

abbrev pub invariant-loop-atom : goal.invariant-loop-atom
invariant-loop-atom l = record {
  longest : l.longest ≡ greatest_below l.atom (longest_to l.plan);
  most : l.longest ≤ 100000;
}
