use Rattle.std.proofs.Common.{◌≡◌, drop, take}
use Rattle.plan_text.specs.Steps.{first_over}
use Rattle.atom_table.specs.Entries.{atoms_in}
use Rattle.atom_table.specs.Refusals.{atom_records_refusal, atom_refusal}
use Rattle.atom_table.proofs.atom_step.read_atoms.Given as goal

abbrev pub invariant-loop-item : goal.invariant-loop-item
invariant-loop-item l = record {
  atoms : l.atoms ≡ atoms_in l.units (take l.item-index l.records);
  so_far : first_over (λ before. atom_refusal (atoms_in l.units before)) (take l.item-index l.records) (drop l.item-index l.records)
      ≡ atom_records_refusal l.units l.records;
}
