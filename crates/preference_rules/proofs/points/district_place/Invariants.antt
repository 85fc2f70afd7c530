use Rattle.std.proofs.Common.{◌≡◌, ◌*◌, ◌^◌, ◌≤◌}
use Rattle.hyper_model.specs.Sums.{sum_below}
use Rattle.preference_rules.specs.Places.{district_weight, nth_atom}
use Rattle.preference_rules.proofs.MeanPlaces.{IsWeighed}
use Rattle.preference_rules.proofs.points.district_place.Given as goal

abbrev pub invariant-loop-k : goal.invariant-loop-k
invariant-loop-k l = record {
  x : IsWeighed l.k (district_weight l.atoms l.district) (λ i. (nth_atom l.atoms i).x) l.x;
  y : IsWeighed l.k (district_weight l.atoms l.district) (λ i. (nth_atom l.atoms i).y) l.y;
  over : l.over ≡ sum_below l.k (district_weight l.atoms l.district);
  over_most : l.over ≤ l.k * 2 ^ 32;
}
