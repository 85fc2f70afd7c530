use Rattle.std.proofs.Common.{◌<◌, length}
use Rattle.atom_table.proofs.PairSteps.{AreReadTo}
use Rattle.unit_location.specs.Located.{share_in}
use Rattle.unit_location.specs.declared.refusal.LocationRefusal.TheVariants.{DuplicateLocation}
use Rattle.unit_location.proofs.shares.read_shares.Given as goal

abbrev pub invariant-loop-item : goal.invariant-loop-item
invariant-loop-item l = record {
  units : 0 < length l.names.units;
  atoms : 0 < length l.names.atoms;
  read : AreReadTo DuplicateLocation (share_in l.names) (length l.names.units) (length l.names.atoms) l.records l.item-index l.shares;
}
