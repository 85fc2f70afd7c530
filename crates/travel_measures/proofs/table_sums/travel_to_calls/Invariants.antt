use Rattle.std.proofs.Common.{◌≡◌, ◌*◌, ◌≤◌, cond}
use Rattle.hyper_model.specs.Sums.{sum_below}
use Rattle.hyper_model.specs.Plans.{calls_of, all_calls}
use Rattle.hyper_model.specs.Measures.{travel_from_calls}
use Rattle.travel_measures.specs.TravelEnds.{is_among}
use Rattle.travel_measures.proofs.table_sums.travel_to_calls.Given as goal

abbrev pub invariant-loop-atom : goal.invariant-loop-atom
invariant-loop-atom l = record {
  travel : l.total ≡ sum_below l.atom (λ j. cond (is_among l.plan l.fn.district j) (calls_of l.plan j * travel_from_calls l.plan j) 0);
  most : l.total ≤ sum_below l.atom (calls_of l.plan) * (all_calls l.plan * 100000);
}
