-- The refusal of records is that of the first step that refuses.
use Rattle.std.proofs.Common.{◌≡◌, ◌∙◌, ◌⊎◌, List, inl, inr, refl, sym, ap, subst}
use Rattle.std.specs.Prelude.{Option, Some, None, Result, Ok, Err}
use Rattle.hyper_model.specs.declared.parts.Atom.{Atom}
use Rattle.hyper_model.specs.declared.parts.Unit as declared_unit
use Rattle.plan_text.specs.Steps.{◌>>=◌, unless_refused}
use Rattle.plan_text.specs.declared.record.Record.{Record}
use Rattle.plan_text.proofs.Over.{option_or-none}
use Rattle.atom_table.specs.Entries.{Entries, atom_names, atoms_in, entries_in, unit_names, units_in}
use Rattle.atom_table.specs.Refusals.{atom_records_refusal, checks_refusal, entries_of, entries_refusal, names_refusal, none_refusal, sum_refusal, unit_records_refusal}
use Rattle.atom_table.specs.declared.refusal.AtomRefusal.{AtomRefusal}

-- another way to say a refusal, unless memory was wanting
pub unless_wanting : {A B C : Type 0} → (B → C) → A ⊎ B → A ⊎ C
unless_wanting goes (inl a) = inl a
unless_wanting goes (inr b) = inr (goes b)

-- units and atoms that were read, and not refused so far
pub record AreRead (records : List Record) (units : List declared_unit.Unit) (atoms : List Atom) : Type 0 where
  pub same_units : units ≡ units_in records
  pub same_atoms : atoms ≡ atoms_in units records
  pub unit_records : unit_records_refusal records ≡ None
  pub atom_records : atom_records_refusal units records ≡ None

pub are_read : (records : List Record) (units : List declared_unit.Unit) (atoms : List Atom) → units ≡ units_in records
    → atoms ≡ atoms_in units records → unit_records_refusal records ≡ None → atom_records_refusal units records ≡ None
    → AreRead records units atoms
are_read records units atoms u a h g = record { same_units = u; same_atoms = a; unit_records = h; atom_records = g }

module _ (records : List Record) where
  refused_with : (entries : Entries) (e : AtomRefusal) → entries ≡ entries_in records
      → entries_refusal records entries ≡ Some e → entries_of records ≡ Err e
  unfolding entries_of
  refused_with entries e is h =
      let h' : entries_refusal records (entries_in records) ≡ Some e = rw is at h in
      ap {A = Option AtomRefusal} {B = Result Entries AtomRefusal} (λ refused. unless_refused refused >>= λ _. Ok (entries_in records)) h'

  pub entries_of-unit : (e : AtomRefusal) → unit_records_refusal records ≡ Some e → entries_of records ≡ Err e
  entries_of-unit e h = refused_with (entries_in records) e refl (rw h refl)

  pub entries_of-atom : (units : List declared_unit.Unit) (e : AtomRefusal) → units ≡ units_in records
      → unit_records_refusal records ≡ None → atom_records_refusal units records ≡ Some e → entries_of records ≡ Err e
  entries_of-atom units e is none h =
      let h' : atom_records_refusal (units_in records) records ≡ Some e = rw is at h in
      refused_with (entries_in records) e refl (rw (none, h') refl)

  module _ (units : List declared_unit.Unit) (atoms : List Atom) (read : AreRead records units atoms) where
    pub are_entries : record { units = units; atoms = atoms } ≡ entries_in records
    are_entries = rw (read.same_atoms, read.same_units) refl

    pub entries_of-checks : (e : AtomRefusal) → checks_refusal records (record { units = units; atoms = atoms }) ≡ Some e
        → entries_of records ≡ Err e
    entries_of-checks e h =
        refused_with (record { units = units; atoms = atoms }) e are_entries (rw (read.unit_records, read.atom_records) h)

    -- no step refuses
    pub entries_refusal-none : checks_refusal records (record { units = units; atoms = atoms }) ≡ None
        → entries_refusal records (entries_in records) ≡ None
    entries_refusal-none h =
        let so : entries_refusal records (record { units = units; atoms = atoms }) ≡ None =
        rw (read.unit_records, read.atom_records) h in
        subst (λ (entries : Entries). entries_refusal records entries ≡ None) are_entries so

    pub entries_of-read : checks_refusal records (record { units = units; atoms = atoms }) ≡ None
        → entries_of records ≡ Ok (record { units = units; atoms = atoms })
    unfolding entries_of
    entries_of-read h =
        let none = entries_refusal-none h in
        ap {A = Option AtomRefusal} {B = Result Entries AtomRefusal} (λ refused. unless_refused refused >>= λ _. Ok (entries_in records)) none
        ∙ ap {A = Entries} {B = Result Entries AtomRefusal} (λ entries. Ok entries) (sym are_entries)

-- each step of records that are not refused refuses nothing
pub record Passes (records : List Record) (entries : Entries) : Type 0 where
  pub unit_records : unit_records_refusal records ≡ None
  pub atom_records : atom_records_refusal entries.units records ≡ None
  pub some : none_refusal entries.units entries.atoms ≡ None
  pub names : names_refusal (unit_names entries.units) (atom_names entries.atoms) records ≡ None
  pub sums : sum_refusal entries.units entries.atoms ≡ None

pub passes_from : (records : List Record) (entries : Entries) → entries_refusal records entries ≡ None → Passes records entries
passes_from records entries h =
    let one = option_or-none (unit_records_refusal records) _ h in
    let two = option_or-none (atom_records_refusal entries.units records) _ one.1 in
    let three = option_or-none (none_refusal entries.units entries.atoms) _ two.1 in
    let four = option_or-none (names_refusal (unit_names entries.units) (atom_names entries.atoms) records) _ three.1 in
    record { unit_records = one.0; atom_records = two.0; some = three.0; names = four.0; sums = four.1 }

-- what records give, they list, and no step refuses
pub entries_of-ok : (records : List Record) (entries : Entries) → entries_of records ≡ Ok entries
    → (entries ≡ entries_in records) × Passes records (entries_in records)
unfolding entries_of
entries_of-ok records entries h = by (entries_refusal records (entries_in records)) refl h
  where
    by : (refused : Option AtomRefusal) → entries_refusal records (entries_in records) ≡ refused
        → (unless_refused refused >>= λ _. Ok (entries_in records)) ≡ Ok entries
        → (entries ≡ entries_in records) × Passes records (entries_in records)
    by None e q = (cc, passes_from records (entries_in records) e)
    by (Some x) e q = absurd (cc)
