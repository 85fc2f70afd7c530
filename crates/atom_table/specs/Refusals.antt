-- Which units and atoms records give, or why they give none.
use Rattle.std.specs.Prelude.{ℕ, ◌+◌, ◌==◌, if◌then◌else◌, nat_le, nat_lt, List, [], ◌∷◌, length, Option, Some, None, Result, Ok}
use Rattle.std.specs.Option.{option_or}
use Rattle.hyper_model.specs.Plans.{calls_in, service_in}
use Rattle.hyper_model.specs.declared.TheConstants.{MOST_ATOMS, MOST_UNITS}
use Rattle.hyper_model.specs.declared.parts.Atom.{Atom}
use Rattle.hyper_model.specs.declared.parts.Unit as declared_unit
use Rattle.plan_text.specs.Steps.{◌>>=◌, first_over, unless_refused}
use Rattle.plan_text.specs.declared.record.Record.{Record}
use Rattle.plan_text.specs.declared.record.Record.TheVariants as rec
use Rattle.atom_table.specs.Names.{is_among}
use Rattle.atom_table.specs.Entries.{Entries, atom_names, atoms_in, entries_in, unit_names, units_in}
use Rattle.atom_table.specs.declared.TheConstants.{MOST_RATE_SUM}
use Rattle.atom_table.specs.declared.refusal.AtomRefusal.{AtomRefusal}
use Rattle.atom_table.specs.declared.refusal.AtomRefusal.TheVariants.{DuplicateAtom, DuplicateUnit, NoAtoms, NoCalls, NoUnits, RateSum, ServiceSum, TooManyAtoms, TooManyUnits, UnknownName}

-- a unit after others: it needs a name of its own, and is one of the most that a plan has
abbrev pub unit_refusal : List declared_unit.Unit → Record → Option AtomRefusal
unit_refusal units (rec.UnitIs at name rate) =
    if is_among (unit_names units) name then Some (DuplicateUnit at)
    else if nat_le MOST_UNITS (length units) then Some (TooManyUnits at)
    else None
unit_refusal units _ = None

-- an atom after others: it needs a name of its own, and is one of the most that a plan has
abbrev pub atom_refusal : List Atom → Record → Option AtomRefusal
atom_refusal atoms (rec.AtomIs at name rate x y unit) =
    if is_among (atom_names atoms) name then Some (DuplicateAtom at)
    else if nat_le MOST_ATOMS (length atoms) then Some (TooManyAtoms at)
    else None
atom_refusal atoms _ = None

-- the first record of a unit that is refused, and of an atom
abbrev pub unit_records_refusal : List Record → Option AtomRefusal
unit_records_refusal records = first_over (λ before. unit_refusal (units_in before)) [] records

abbrev pub atom_records_refusal : List declared_unit.Unit → List Record → Option AtomRefusal
atom_records_refusal units records = first_over (λ before. atom_refusal (atoms_in units before)) [] records

-- there has to be a unit, and an atom
abbrev pub none_refusal : List declared_unit.Unit → List Atom → Option AtomRefusal
none_refusal [] atoms = Some NoUnits
none_refusal (unit ∷ units) [] = Some NoAtoms
none_refusal (unit ∷ units) (atom ∷ atoms) = None

-- a name in this field of a record, which has to be among the names
abbrev pub unknown : List (List ℕ) → ℕ → ℕ → List ℕ → Option AtomRefusal
unknown names at field name = if is_among names name then None else Some (UnknownName at field)

-- the same of names in a row, from this field on
abbrev pub unknown_from : List (List ℕ) → ℕ → ℕ → List (List ℕ) → Option AtomRefusal
unknown_from names at field [] = None
unknown_from names at field (name ∷ more) = option_or (unknown names at field name) (unknown_from names at (field + 1) more)

-- the first name in a record that no unit or no atom has, among the names of all units and of all atoms
abbrev pub name_refusal : List (List ℕ) → List (List ℕ) → Record → Option AtomRefusal
name_refusal units atoms (rec.AtomIs at name rate x y unit) = unknown units at 6 unit
name_refusal units atoms (rec.Travel at origin target seconds) = option_or (unknown atoms at 2 origin) (unknown atoms at 3 target)
name_refusal units atoms (rec.Located at unit atom thousandths) = option_or (unknown units at 2 unit) (unknown atoms at 3 atom)
name_refusal units atoms (rec.Prefer at atom list) = option_or (unknown atoms at 2 atom) (unknown_from units at 3 list)
name_refusal units atoms (rec.Group at atom list) = option_or (unknown atoms at 2 atom) (unknown_from units at 3 list)
name_refusal units atoms _ = None

-- the first record with such a name
abbrev pub names_refusal : List (List ℕ) → List (List ℕ) → List Record → Option AtomRefusal
names_refusal units atoms records = first_over (λ before. name_refusal units atoms) [] records

-- there have to be calls, and neither calls nor service may be too many
abbrev pub sum_refusal : List declared_unit.Unit → List Atom → Option AtomRefusal
sum_refusal units atoms =
    if calls_in atoms == 0 then Some NoCalls
    else if nat_lt MOST_RATE_SUM (calls_in atoms) then Some (RateSum (calls_in atoms))
    else if nat_lt MOST_RATE_SUM (service_in units) then Some (ServiceSum (service_in units))
    else None

-- the first refusal of units and atoms together: for lack of either, of a name, of the sums
abbrev pub checks_refusal : List Record → Entries → Option AtomRefusal
checks_refusal records entries =
    option_or (none_refusal entries.units entries.atoms)
    (option_or (names_refusal (unit_names entries.units) (atom_names entries.atoms) records)
    (sum_refusal entries.units entries.atoms))

-- the first refusal: of a unit, of an atom, of all of them together
abbrev pub entries_refusal : List Record → Entries → Option AtomRefusal
entries_refusal records entries =
    option_or (unit_records_refusal records)
    (option_or (atom_records_refusal entries.units records) (checks_refusal records entries))

-- the units and atoms of records that are not refused
unfoldable pub entries_of : List Record → Result Entries AtomRefusal
entries_of records = unless_refused (entries_refusal records (entries_in records)) >>= λ _. Ok (entries_in records)
