use Rattle.std.proofs.Common.{◌≡◌, drop, take}
use Rattle.plan_text.specs.Steps.{first_over}
use Rattle.atom_table.specs.Entries.{unit_names}
use Rattle.plan_reader.specs.Crews.{crews_records_refusal, crews_refusal}
use Rattle.plan_reader.proofs.crews.check_crews.Given as goal

abbrev pub invariant-loop-place : goal.invariant-loop-place
invariant-loop-place l =
    first_over (crews_refusal (unit_names l.stations)) (take l.place l.records) (drop l.place l.records)
    ≡ crews_records_refusal (unit_names l.stations) l.records
