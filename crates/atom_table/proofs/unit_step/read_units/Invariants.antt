use Rattle.std.proofs.Common.{◌≡◌, drop, take}
use Rattle.plan_text.specs.Steps.{first_over}
use Rattle.atom_table.specs.Entries.{units_in}
use Rattle.atom_table.specs.Refusals.{unit_records_refusal, unit_refusal}
use Rattle.atom_table.proofs.unit_step.read_units.Given as goal

abbrev pub invariant-loop-item : goal.invariant-loop-item
invariant-loop-item l = record {
  units : l.units ≡ units_in (take l.item-index l.records);
  so_far : first_over (λ before. unit_refusal (units_in before)) (take l.item-index l.records) (drop l.item-index l.records)
      ≡ unit_records_refusal l.records;
}
