use Rattle.std.proofs.Common.{◌≡◌, ◌*◌, ◌^◌, ◌≤◌}
use Rattle.fixed_interval.specs.WeightList.{ends_at}
use Rattle.busy_words.specs.Parts.{weighed_ends}
use Rattle.fleet_measures.specs.FleetEnclosures.{busy_at_place, free_at_place}
use Rattle.fleet_measures.proofs.workload.crew_sums.Given as goal

abbrev pub invariant-loop-place : goal.invariant-loop-place
invariant-loop-place l = record {
  busy : l.busy ≡ weighed_ends l.place (busy_at_place l.fleet l.k) (ends_at l.weights.items);
  free : l.free ≡ weighed_ends l.place (free_at_place l.fleet l.k) (ends_at l.weights.items);
  most : l.busy.hi ≤ l.place * (200 * 2 ^ 52);
  most_free : l.free.hi ≤ l.place * (200 * 2 ^ 52);
}
