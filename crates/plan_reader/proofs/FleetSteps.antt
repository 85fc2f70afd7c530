-- The last step of reading a fleet.
use Rattle.std.proofs.Common.{◌≡◌, List, ℕ, refl}
use Rattle.std.specs.Prelude.{Some, None, Ok, Err}
use Rattle.hyper_model.specs.declared.parts.PlanParts.{PlanParts}
use Rattle.plan_text.specs.Reading.{fleet_records_of}
use Rattle.plan_text.specs.declared.kind.AddedKind.TheVariants as added
use Rattle.plan_text.specs.declared.record.Record.{Record}
use Rattle.atom_table.specs.Entries.{unit_names}
use Rattle.plan_reader.specs.PlanOf.{parts_given}
use Rattle.plan_reader.specs.Crews.{crews_in, crews_records_refusal}
use Rattle.plan_reader.specs.FleetOf.{fleet_of}
use Rattle.plan_reader.specs.FleetLimits.{limits_refusal}
use Rattle.plan_reader.specs.declared.fleet_refusal.FleetRefusal.{FleetRefusal}

module _ (bytes : List ℕ) (records : List Record) (parts : PlanParts) (crews : List ℕ) (read : fleet_records_of bytes ≡ Ok records)
    (given : parts_given added.Crews records ≡ Ok parts) (known : crews_records_refusal (unit_names parts.units) records ≡ None)
    (counted : crews ≡ crews_in (unit_names parts.units) records) where
  pub fleet_of-refused : (e : FleetRefusal) → limits_refusal (record { parts = parts; crews = crews }) ≡ Some e → fleet_of bytes ≡ Err e
  unfolding fleet_of
  fleet_of-refused e h = let limited = rw counted at h in rw (read, given, known, limited) refl

  pub fleet_of-done : limits_refusal (record { parts = parts; crews = crews }) ≡ None
      → fleet_of bytes ≡ Ok (record { parts = parts; crews = crews })
  unfolding fleet_of
  fleet_of-done h = let limited = rw counted at h in rw (counted, read, given, known, limited) refl
