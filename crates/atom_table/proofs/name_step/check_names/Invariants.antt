use Rattle.std.proofs.Common.{◌≡◌, drop, take}
use Rattle.plan_text.specs.Steps.{first_over}
use Rattle.atom_table.specs.Refusals.{name_refusal, names_refusal}
use Rattle.atom_table.proofs.name_step.check_names.Given as goal

abbrev pub invariant-loop-item : goal.invariant-loop-item
invariant-loop-item l =
    first_over (λ before. name_refusal l.units l.atoms) (take l.item-index l.records) (drop l.item-index l.records)
    ≡ names_refusal l.units l.atoms l.records
