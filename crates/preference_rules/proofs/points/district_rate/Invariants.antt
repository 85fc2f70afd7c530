use Rattle.std.proofs.Common.{◌≡◌, ◌*◌, ◌^◌, ◌≤◌}
use Rattle.std.specs.Prelude.{◌==◌, if◌then◌else◌}
use Rattle.hyper_model.specs.Sums.{sum_below}
use Rattle.preference_rules.specs.Places.{nth_atom}
use Rattle.preference_rules.proofs.points.district_rate.Given as goal

abbrev pub invariant-loop-k : goal.invariant-loop-k
invariant-loop-k l = record {
  sum : l.total ≡ sum_below l.k (λ i. if (nth_atom l.atoms i).district == l.district then (nth_atom l.atoms i).rate else 0);
  most : l.total ≤ l.k * 2 ^ 32;
}
