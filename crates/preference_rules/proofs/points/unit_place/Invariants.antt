use Rattle.hyper_model.specs.Grid.{cell}
use Rattle.preference_rules.specs.Places.{nth_atom}
use Rattle.preference_rules.proofs.MeanPlaces.{IsWeighed}
use Rattle.preference_rules.proofs.points.unit_place.Given as goal

abbrev pub invariant-loop-k : goal.invariant-loop-k
invariant-loop-k l = record {
  x : IsWeighed l.k (cell l.located l.unit) (λ i. (nth_atom l.atoms i).x) l.x;
  y : IsWeighed l.k (cell l.located l.unit) (λ i. (nth_atom l.atoms i).y) l.y;
}
