-- The units and atoms that records list.
use Rattle.std.specs.Prelude.{ℕ, ◌<◌, List, Option, Some, None, All, length, map}
use Rattle.std.specs.List.{filter_map}
use Rattle.hyper_model.specs.Plans.{IsBetween}
use Rattle.hyper_model.specs.declared.TheConstants.{MOST_ATOMS, MOST_UNITS}
use Rattle.hyper_model.specs.declared.parts.Atom.{Atom}
use Rattle.hyper_model.specs.declared.parts.Unit as declared_unit
use Rattle.plan_text.specs.declared.record.Record.{Record}
use Rattle.plan_text.specs.declared.record.Record.TheVariants as rec
use Rattle.atom_table.specs.Names.{place_or_zero}

pub record Entries : Type 0 where
  pub units : List declared_unit.Unit
  pub atoms : List Atom

abbrev pub unit_names : List declared_unit.Unit → List (List ℕ)
unit_names units = map (λ (unit : declared_unit.Unit). unit.name) units

abbrev pub atom_names : List Atom → List (List ℕ)
atom_names atoms = map (λ (atom : Atom). atom.name) atoms

-- the unit that a record is for
abbrev pub unit_in : Record → Option declared_unit.Unit
unit_in (rec.UnitIs at name rate) = Some (record { name = name; rate = rate })
unit_in _ = None

abbrev pub units_in : List Record → List declared_unit.Unit
units_in records = filter_map unit_in records

-- the atom that a record is for, with the place of its district's unit
abbrev pub atom_in : List declared_unit.Unit → Record → Option Atom
atom_in units (rec.AtomIs at name rate x y unit) =
    Some (record { name = name; rate = rate; x = x; y = y; district = place_or_zero (unit_names units) unit })
atom_in units _ = None

abbrev pub atoms_in : List declared_unit.Unit → List Record → List Atom
atoms_in units records = filter_map (atom_in units) records

-- all units and atoms, in the order of their records
abbrev pub entries_in : List Record → Entries
entries_in records = record { units = units_in records; atoms = atoms_in (units_in records) records }

-- 1 to 12 units and 1 to 200 atoms, each in the district of one of the units
pub record HasEntries (entries : Entries) : Type 0 where
  pub units : IsBetween 1 MOST_UNITS (length entries.units)
  pub atoms : IsBetween 1 MOST_ATOMS (length entries.atoms)
  pub districts : All (λ (atom : Atom). atom.district < length entries.units) entries.atoms
