use Rattle.std.proofs.Common.{◌≡◌, ◌++◌, take}
use Rattle.std.specs.List.{flat_map}
use Rattle.plan_maker.specs.Rows.{atom_row}
use Rattle.plan_maker.proofs.records.push_atoms.Given as goal

abbrev pub invariant-loop-atom : goal.invariant-loop-atom
invariant-loop-atom l = l.text.items ≡ l.fn.text.items ++ flat_map (atom_row l.units) (take l.atom-index l.atoms)
