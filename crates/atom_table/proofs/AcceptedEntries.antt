-- What holds of units and atoms that are not refused: they are those of a plan that can be accepted.
use Rattle.std.proofs.Common.{◌≡◌, ◌∙◌, ℕ, ◌<◌, ◌≤◌, List, [], ◌∷◌, ◌++◌, length, get_or, true, false, refl, sym, arith}
use Rattle.std.specs.Prelude.{Bool, if◌then◌else◌, ◌==◌, nat_le, nat_lt, Option, Some, None, Ok, All}
use Rattle.std.specs.Option.{option_to_list}
use Rattle.std.proofs.lemmas.Bool.Decides.{nat_tests}
use Rattle.std.proofs.lemmas.List.{append-nil, get_or-map, length-append, length-map, map-append}
use Rattle.std.proofs.lemmas.List.Elements.{All-get_or}
use Rattle.hyper_model.specs.Plans.{HasAtoms, HasUnits, IsBetween, calls_in, no_atom, no_unit, service_in}
use Rattle.hyper_model.specs.declared.parts.Atom.{Atom}
use Rattle.hyper_model.specs.declared.parts.PlanParts.{PlanParts}
use Rattle.hyper_model.specs.declared.parts.Unit as declared_unit
use Rattle.plan_text.specs.Form.{HasValues}
use Rattle.plan_text.specs.declared.record.Record.{Record}
use Rattle.plan_text.specs.declared.record.Record.TheVariants as rec
use Rattle.plan_text.proofs.Over.{filter_map-push, kept-all, over-kept}
use Rattle.atom_table.specs.Names.{is_among, place_or_zero}
use Rattle.atom_table.specs.Entries.{Entries, HasEntries, atom_in, atom_names, atoms_in, entries_in, unit_in, unit_names, units_in}
use Rattle.atom_table.specs.Refusals.{atom_refusal, entries_of, none_refusal, sum_refusal, unit_refusal}
use Rattle.atom_table.specs.declared.refusal.AtomRefusal.{AtomRefusal}
use Rattle.atom_table.specs.declared.refusal.AtomRefusal.TheVariants.{NoCalls, RateSum, ServiceSum}
use Rattle.atom_table.proofs.OwnNames.{AreOwn, own_none, own_push, unit_place-within}
use Rattle.atom_table.proofs.StepByStep.{Passes, entries_of-ok}

-- of two tests that refuse, neither holds if nothing is refused
two_fail : (a b : Bool) (x y : AtomRefusal) → (if a then Some x else if b then Some y else None) ≡ None
    → (a ≡ false) × (b ≡ false)
two_fail false false x y h = (refl, refl)
two_fail false true x y h = absurd (cc)
two_fail true b x y h = absurd (cc)

-- at most so many things, with names of their own
record AreFew (most count : ℕ) (names : List (List ℕ)) : Type 0 where
  few : count ≤ most
  own : AreOwn names

-- a unit that is not refused after others
unit_fits : (units : List declared_unit.Unit) (r : Record) (unit : declared_unit.Unit) → unit_in r ≡ Some unit
    → unit_refusal units r ≡ None → (is_among (unit_names units) unit.name ≡ false) × (length units < 12)
unit_fits units (rec.UnitIs at name rate) unit is h =
    let e : record { name = name; rate = rate } ≡ unit = cc in
    let both = two_fail (is_among (unit_names units) name) (nat_le 12 (length units)) _ _ h in
    rw (sym e) (both.0, grind (arith, nat_tests, both.1))
unit_fits units _ unit is h = absurd (cc)

unit_kept : (before : List Record) (r : Record) → unit_refusal (units_in before) r ≡ None
    → AreFew 12 (length (units_in before)) (unit_names (units_in before))
    → AreFew 12 (length (units_in (before ++ r ∷ []))) (unit_names (units_in (before ++ r ∷ [])))
unit_kept before r h so = rw (filter_map-push unit_in before r) (by (unit_in r) refl)
  where
    by : (o : Option declared_unit.Unit) → unit_in r ≡ o
        → AreFew 12 (length (units_in before ++ option_to_list o)) (unit_names (units_in before ++ option_to_list o))
    by None e = rw (append-nil (units_in before)) so
    by (Some unit) e =
        let (fresh, room) = unit_fits (units_in before) r unit e h in
        record {
          few = omega (arith, length-append (units_in before) (unit ∷ []));
          own = rw (map-append (λ (u : declared_unit.Unit). u.name) (units_in before) (unit ∷ []))
              (own_push (unit_names (units_in before)) unit.name so.own fresh);
        }

-- the same of atoms
atom_fits : (units : List declared_unit.Unit) (atoms : List Atom) (r : Record) (atom : Atom) → atom_in units r ≡ Some atom
    → atom_refusal atoms r ≡ None → (is_among (atom_names atoms) atom.name ≡ false) × (length atoms < 200)
atom_fits units atoms (rec.AtomIs at name rate x y unit) atom is h =
    let e : name ≡ atom.name = cc in
    let both = two_fail (is_among (atom_names atoms) name) (nat_le 200 (length atoms)) _ _ h in
    rw (sym e) (both.0, grind (arith, nat_tests, both.1))
atom_fits units atoms _ atom is h = absurd (cc)

atom_kept : (units : List declared_unit.Unit) (before : List Record) (r : Record) → atom_refusal (atoms_in units before) r ≡ None
    → AreFew 200 (length (atoms_in units before)) (atom_names (atoms_in units before))
    → AreFew 200 (length (atoms_in units (before ++ r ∷ []))) (atom_names (atoms_in units (before ++ r ∷ [])))
atom_kept units before r h so = rw (filter_map-push (atom_in units) before r) (by (atom_in units r) refl)
  where
    by : (o : Option Atom) → atom_in units r ≡ o
        → AreFew 200 (length (atoms_in units before ++ option_to_list o)) (atom_names (atoms_in units before ++ option_to_list o))
    by None e = rw (append-nil (atoms_in units before)) so
    by (Some atom) e =
        let (fresh, room) = atom_fits units (atoms_in units before) r atom e h in
        record {
          few = omega (arith, length-append (atoms_in units before) (atom ∷ []));
          own = rw (map-append (λ (a : Atom). a.name) (atoms_in units before) (atom ∷ []))
              (own_push (atom_names (atoms_in units before)) atom.name so.own fresh);
        }

-- there is one of each
some_each : (units : List declared_unit.Unit) (atoms : List Atom) → none_refusal units atoms ≡ None
    → (0 < length units) × (0 < length atoms)
some_each [] atoms h = absurd (cc)
some_each (unit ∷ units) [] h = absurd (cc)
some_each (unit ∷ units) (atom ∷ atoms) h = (omega arith, omega arith)

-- an atom is in the district of one of the units
district_within : (units : List declared_unit.Unit) → 0 < length units → (r : Record) (atom : Atom) → atom_in units r ≡ Some atom
    → atom.district < length units
district_within units some (rec.AtomIs at name rate x y unit) atom is =
    let e : place_or_zero (unit_names units) unit ≡ atom.district = cc in
    rw (sym e) (unit_place-within units unit some)
district_within units some _ atom is = absurd (cc)

-- all that the steps show of units and atoms
record AreShown (records : List Record) : Type 0 where
  units : AreFew 12 (length (units_in records)) (unit_names (units_in records))
  atoms : AreFew 200 (length (atoms_in (units_in records) records)) (atom_names (atoms_in (units_in records) records))
  some : (0 < length (units_in records)) × (0 < length (atoms_in (units_in records) records))
  districts : All (λ (atom : Atom). atom.district < length (units_in records)) (atoms_in (units_in records) records)

shown_by : (records : List Record) → Passes records (entries_in records) → AreShown records
shown_by records passes =
    let some = some_each (units_in records) (atoms_in (units_in records) records) passes.some in
    record {
      units = over-kept (λ (before : List Record). unit_refusal (units_in before))
          (λ (before : List Record). AreFew 12 (length (units_in before)) (unit_names (units_in before)))
          unit_kept [] records passes.unit_records (record { few = omega arith; own = own_none });
      atoms = over-kept (λ (before : List Record). atom_refusal (atoms_in (units_in records) before))
          (λ (before : List Record). AreFew 200 (length (atoms_in (units_in records) before)) (atom_names (atoms_in (units_in records) before)))
          (atom_kept (units_in records)) [] records passes.atom_records (record { few = omega arith; own = own_none });
      some = some;
      districts = kept-all (atom_in (units_in records)) (λ (atom : Atom). atom.district < length (units_in records)) records
          (λ k d lt. district_within (units_in records) some.0 (get_or records k d));
    }

-- what a table of the records keeps
pub has_entries : (records : List Record) → Passes records (entries_in records) → HasEntries (entries_in records)
has_entries records passes =
    let shown = shown_by records passes in
    record {
      units = record { low = omega (arith, shown.some.0); high = shown.units.few };
      atoms = record { low = omega (arith, shown.some.1); high = shown.atoms.few };
      districts = shown.districts;
    }

-- the sums are within their limits
sums_within : (units : List declared_unit.Unit) (atoms : List Atom) → sum_refusal units atoms ≡ None
    → IsBetween 1 1000000 (calls_in atoms) × (service_in units ≤ 1000000)
sums_within units atoms h = by (calls_in atoms) (service_in units) h
  where
    by : (calls service : ℕ) → (if calls == 0 then Some NoCalls else if nat_lt 1000000 calls then Some (RateSum calls)
        else if nat_lt 1000000 service then Some (ServiceSum service) else None) ≡ None
        → IsBetween 1 1000000 calls × (service ≤ 1000000)
    by calls service h = tests (calls == 0) (nat_lt 1000000 calls) (nat_lt 1000000 service) refl refl refl h
      where
        tests : (a b c : Bool) → (calls == 0) ≡ a → nat_lt 1000000 calls ≡ b → nat_lt 1000000 service ≡ c
            → (if a then Some NoCalls else if b then Some (RateSum calls) else if c then Some (ServiceSum service) else None) ≡ None
            → IsBetween 1 1000000 calls × (service ≤ 1000000)
        tests true b c e f g h = absurd (cc)
        tests false true c e f g h = absurd (cc)
        tests false false true e f g h = absurd (cc)
        tests false false false e f g h =
            (record { low = grind (arith, nat_tests, e); high = grind (arith, nat_tests, f) }, grind (arith, nat_tests, g))

-- a unit's rate, and an atom's rate and place, as records in form have them
rate_within : (r : Record) → HasValues r → (unit : declared_unit.Unit) → unit_in r ≡ Some unit → IsBetween 1 1000000 unit.rate
rate_within (rec.UnitIs at name rate) values unit is =
    let e : rate ≡ unit.rate = cc in
    rw (sym e) values.1
rate_within _ values unit is = absurd (cc)

record IsOnMap (atom : Atom) : Type 0 where
  rate : atom.rate ≤ 1000000
  x : atom.x ≤ 1000000
  y : atom.y ≤ 1000000

on_map : (units : List declared_unit.Unit) (r : Record) → HasValues r → (atom : Atom) → atom_in units r ≡ Some atom → IsOnMap atom
on_map units (rec.AtomIs at name rate x y unit) values atom is =
    let er : rate ≡ atom.rate = cc in
    let ex : x ≡ atom.x = cc in
    let ey : y ≡ atom.y = cc in
    record { rate = rw (sym er) values.1; x = rw (sym ex) values.2; y = rw (sym ey) values.3 }
on_map units _ values atom is = absurd (cc)

-- the name at a place
name_at_unit : (units : List declared_unit.Unit) (n : ℕ) → n < length units
    → get_or (unit_names units) n [] ≡ (get_or units n no_unit).name
name_at_unit units n lt = get_or-map (λ (u : declared_unit.Unit). u.name) units n no_unit [] lt

name_at_atom : (atoms : List Atom) (j : ℕ) → j < length atoms → get_or (atom_names atoms) j [] ≡ (get_or atoms j no_atom).name
name_at_atom atoms j lt = get_or-map (λ (a : Atom). a.name) atoms j no_atom [] lt

-- units that records in form give are those of a plan
pub has_units : (records : List Record) (entries : Entries) (p : PlanParts) → All HasValues records
    → entries_of records ≡ Ok entries → p.units ≡ entries.units → HasUnits p
has_units records entries p values given same =
    let (is, passes) = entries_of-ok records entries given in
    let units : p.units ≡ units_in records = rw is at same in
    let shown = shown_by records passes in
    let size : length (unit_names (units_in records)) ≡ length (units_in records) =
    length-map (units_in records) (λ (u : declared_unit.Unit). u.name) in
    let rates = kept-all unit_in (λ (u : declared_unit.Unit). IsBetween 1 1000000 u.rate) records
    (λ k d lt. rate_within (get_or records k d) (values k d lt)) in
    let sums = sums_within (units_in records) (atoms_in (units_in records) records) passes.sums in
    rw units (record {
      number = record { low = omega (arith, shown.some.0); high = shown.units.few };
      named = λ n m l h e. shown.units.own n m (omega (arith, size)) (omega (arith, size))
          (name_at_unit (units_in records) n l ∙ e ∙ sym (name_at_unit (units_in records) m h));
      rates = λ n l. All-get_or (λ (u : declared_unit.Unit). IsBetween 1 1000000 u.rate) (units_in records) n no_unit l rates;
      service = sums.1;
    })

-- and so are the atoms
pub has_atoms : (records : List Record) (entries : Entries) (p : PlanParts) → All HasValues records
    → entries_of records ≡ Ok entries → p.units ≡ entries.units → p.atoms ≡ entries.atoms → HasAtoms p
has_atoms records entries p values given same_units same_atoms =
    let (is, passes) = entries_of-ok records entries given in
    let units : p.units ≡ units_in records = rw is at same_units in
    let atoms : p.atoms ≡ atoms_in (units_in records) records = rw is at same_atoms in
    let shown = shown_by records passes in
    let size : length (atom_names (atoms_in (units_in records) records)) ≡ length (atoms_in (units_in records) records) =
    length-map (atoms_in (units_in records) records) (λ (a : Atom). a.name) in
    let places = kept-all (atom_in (units_in records)) IsOnMap records
    (λ k d lt. on_map (units_in records) (get_or records k d) (values k d lt)) in
    let sums = sums_within (units_in records) (atoms_in (units_in records) records) passes.sums in
    rw (units, atoms) (record {
      number = record { low = omega (arith, shown.some.1); high = shown.atoms.few };
      named = λ i j l h e. shown.atoms.own i j (omega (arith, size)) (omega (arith, size))
          (name_at_atom (atoms_in (units_in records) records) i l ∙ e ∙ sym (name_at_atom (atoms_in (units_in records) records) j h));
      placed = λ j l.
          let on = All-get_or IsOnMap (atoms_in (units_in records) records) j no_atom l places in
          record {
            rate = on.rate;
            x = on.x;
            y = on.y;
            district = All-get_or (λ (a : Atom). a.district < length (units_in records)) (atoms_in (units_in records) records) j
                no_atom l shown.districts;
          };
      calls = sums.0;
    })
