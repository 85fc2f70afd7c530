use Rattle.std.proofs.Common.{◌≡◌, ◌*◌, ◌^◌, ◌≤◌}
use Rattle.busy_words.specs.Algebra.{total_ends}
use Rattle.travel_measures.specs.TravelEnds.{trip_ends}
use Rattle.travel_measures.proofs.trips.all_trips.Given as goal

abbrev pub invariant-loop-unit : goal.invariant-loop-unit
invariant-loop-unit l = record {
  flow : l.total ≡ total_ends l.unit (trip_ends l.plan l.parts l.fn.district);
  most : l.total.hi ≤ l.unit * (1000000 * (100000000 * 2 ^ 62));
}
