use Rattle.std.proofs.Common.{◌≡◌, drop, take}
use Rattle.plan_text.specs.Steps.{first_over}
use Rattle.atom_table.specs.Entries.{atom_names, unit_names}
use Rattle.preference_rules.specs.Drafts.{drafts_of}
use Rattle.preference_rules.specs.Given.{twice_records_refusal, twice_refusal}
use Rattle.preference_rules.proofs.given.read_drafts.Given as goal

abbrev pub invariant-loop-item : goal.invariant-loop-item
invariant-loop-item l = record {
  drafts : l.drafts.items ≡ drafts_of (unit_names l.names.units) (atom_names l.names.atoms) (take l.item-index l.records);
  so_far : first_over (twice_refusal (atom_names l.names.atoms)) (take l.item-index l.records) (drop l.item-index l.records)
      ≡ twice_records_refusal (atom_names l.names.atoms) l.records;
}
