use Rattle.std.proofs.Common.{◌≡◌, ◌*◌, ◌^◌, ◌≤◌}
use Rattle.fixed_interval.specs.Ends.{scaled_ends}
use Rattle.hyper_model.specs.Sums.{sum_below}
use Rattle.hyper_model.specs.Plans.{calls_of}
use Rattle.hyper_model.specs.Measures.{mean_travel}
use Rattle.busy_words.specs.Algebra.{total_ends, where_ends}
use Rattle.dispatch_fractions.specs.PartLists.{taken_by}
use Rattle.travel_measures.specs.TravelEnds.{is_among}
use Rattle.travel_measures.proofs.trips.unit_trips.Given as goal

abbrev pub invariant-loop-atom : goal.invariant-loop-atom
invariant-loop-atom l = record {
  flow : l.total
      ≡ total_ends l.atom (λ j.
      where_ends (is_among l.plan l.fn.district j)
      (scaled_ends (calls_of l.plan j * mean_travel l.plan l.unit j) (taken_by l.parts l.unit j)));
  most : l.total.hi ≤ sum_below l.atom (calls_of l.plan) * (100000000 * 2 ^ 62);
}
