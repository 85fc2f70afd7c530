use Rattle.std.proofs.Common.{◌≡◌, ◌*◌, ◌^◌, ◌≤◌}
use Rattle.fixed_interval.specs.Ends.{scaled_ends}
use Rattle.hyper_model.specs.Plans.{calls_of}
use Rattle.busy_words.specs.Algebra.{total_ends}
use Rattle.dispatch_fractions.specs.PartLists.{taken_by}
use Rattle.travel_measures.proofs.trips.taken_calls.Given as goal

abbrev pub invariant-loop-atom : goal.invariant-loop-atom
invariant-loop-atom l = record {
  flow : l.total ≡ total_ends l.atom (λ j. scaled_ends (calls_of l.plan j) (taken_by l.parts l.unit j));
  most : l.total.hi ≤ l.atom * (1000000 * 2 ^ 62);
}
