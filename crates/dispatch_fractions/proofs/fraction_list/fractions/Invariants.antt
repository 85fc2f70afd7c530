use Rattle.std.proofs.Common.{◌≡◌, All}
use Rattle.std.specs.List.{flat_map, range_with_len}
use Rattle.hyper_model.specs.Enclosures.{IsOrderedEnclosed}
use Rattle.dispatch_fractions.specs.Fractions.{unit_fractions}
use Rattle.dispatch_fractions.proofs.fraction_list.fractions.Given as goal

abbrev pub invariant-loop-unit : goal.invariant-loop-unit
invariant-loop-unit l = record {
  exact : l.found.items ≡ flat_map (unit_fractions l.plan l.parts) (range_with_len 0 l.unit);
  ordered : All IsOrderedEnclosed l.found.items;
}
