use Rattle.std.proofs.Common.{◌≡◌, ◌*◌, ◌≤◌, cond}
use Rattle.hyper_model.specs.Sums.{sum_below}
use Rattle.hyper_model.specs.Plans.{calls_of, is_inside}
use Rattle.dispatch_fractions.proofs.districts.calls_inside.Given as goal

abbrev pub invariant-loop-atom : goal.invariant-loop-atom
invariant-loop-atom l = record {
  calls : l.total ≡ sum_below l.atom (λ j. cond (is_inside l.plan l.district j) (calls_of l.plan j) 0);
  most : l.total ≤ l.atom * 1000000;
}
