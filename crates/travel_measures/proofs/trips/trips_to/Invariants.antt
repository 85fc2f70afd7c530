use Rattle.std.proofs.Common.{◌≡◌, ◌*◌, ◌^◌, ◌≤◌}
use Rattle.fixed_interval.specs.Ends.{scaled_ends}
use Rattle.hyper_model.specs.Measures.{mean_travel}
use Rattle.busy_words.specs.Algebra.{total_ends}
use Rattle.dispatch_fractions.specs.PartLists.{taken_by}
use Rattle.travel_measures.proofs.trips.trips_to.Given as goal

abbrev pub invariant-loop-unit : goal.invariant-loop-unit
invariant-loop-unit l = record {
  flow : l.total ≡ total_ends l.unit (λ n. scaled_ends (mean_travel l.plan n l.atom) (taken_by l.parts n l.atom));
  most : l.total.hi ≤ l.unit * (100000000 * 2 ^ 62);
}
