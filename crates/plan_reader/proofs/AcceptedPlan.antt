-- The parts that records in form give are those of an accepted plan.
use Rattle.std.proofs.Common.{◌≡◌, ℕ, ◌<◌, true, false, refl, sym, subst, arith}
use Rattle.std.specs.Prelude.{Bool, if◌then◌else◌, nat_lt, List, length, Option, Some, None, Result, Ok, Err}
use Rattle.std.proofs.lemmas.Bool.Decides.{nat_tests}
use Rattle.hyper_model.specs.Grid.{Grid}
use Rattle.hyper_model.specs.Groups.{GroupLists}
use Rattle.hyper_model.specs.Plans.{IsAccepted, IsBetween, IsStable, all_calls, all_service}
use Rattle.hyper_model.specs.declared.kinds.Line.{Line}
use Rattle.hyper_model.specs.declared.kinds.Line.TheVariants as line
use Rattle.hyper_model.specs.declared.parts.PlanParts.{PlanParts}
use Rattle.plan_text.specs.Form.{IsInForm}
use Rattle.plan_text.specs.Reading.{records_of}
use Rattle.plan_text.specs.Steps.{◌>>=◌, unless_refused}
use Rattle.plan_text.proofs.InForm.{records_with-form}
use Rattle.plan_text.specs.declared.kind.AddedKind.{AddedKind}
use Rattle.plan_text.specs.declared.kind.AddedKind.TheVariants as added
use Rattle.plan_text.specs.declared.record.Record.{Record}
use Rattle.atom_table.specs.Entries.{Entries, HasEntries}
use Rattle.atom_table.specs.Refusals.{entries_of}
use Rattle.atom_table.proofs.AcceptedEntries.{has_atoms, has_entries, has_units}
use Rattle.atom_table.proofs.StepByStep.{entries_of-ok}
use Rattle.travel_table.specs.Travel.{travel_of}
use Rattle.travel_table.proofs.AcceptedTravel.{has_travel}
use Rattle.unit_location.specs.Located.{located_of}
use Rattle.unit_location.proofs.AcceptedLocations.{has_locations}
use Rattle.unit_location.proofs.LocationSteps.{located_of-ok}
use Rattle.preference_rules.specs.Given.{preferences_of}
use Rattle.preference_rules.proofs.AcceptedLists.{has_lists}
use Rattle.plan_reader.specs.PlanOf.{AreWholeParts, parts_given, parts_of, plan_in, plan_of, plan_result, stable_refusal}
use Rattle.plan_reader.specs.Refusals.{of_atom, of_list, of_location, of_text, of_travel}
use Rattle.plan_reader.specs.Settings.{settings_of}
use Rattle.plan_reader.specs.declared.refusal.PlanRefusal.{PlanRefusal}
use Rattle.plan_reader.specs.declared.refusal.PlanRefusal.TheVariants.{NotStable}
use Rattle.plan_reader.specs.declared.settings.Settings.{Settings}
use Rattle.plan_reader.proofs.SettingSteps.{period_within, settings_of-ok}

below_true : (a b : ℕ) (e : PlanRefusal) → (if nat_lt a b then None else Some e) ≡ None → a < b
below_true a b e h = by (nat_lt a b) refl h
  where
    by : (test : Bool) → nat_lt a b ≡ test → (if test then None else Some e) ≡ None → a < b
    by true t q = grind (arith, nat_tests, t)
    by false t q = absurd (cc)

pub is_stable : (line : Line) (calls service : ℕ) → stable_refusal line calls service ≡ None → IsStable line calls service
is_stable line.Zero calls service h = tt
is_stable line.Infinite calls service h = below_true calls service (NotStable calls service) h

-- the table of the records keeps what its type says
pub entries_kept : (records : List Record) (entries : Entries) → entries_of records ≡ Ok entries → HasEntries entries
entries_kept records entries given =
    let (is, passes) = entries_of-ok records entries given in
    subst HasEntries (sym is) (has_entries records passes)

pub whole_parts : (more : AddedKind) (records : List Record) (settings : Settings) (entries : Entries) (travel located : Grid) (lists : GroupLists)
    → IsInForm records → settings_of more records ≡ Ok settings → entries_of records ≡ Ok entries → travel_of entries records ≡ Ok travel
    → located_of entries records ≡ Ok located → preferences_of settings.rule entries located records ≡ Ok lists
    → AreWholeParts (parts_of settings entries lists located travel)
whole_parts more records settings entries travel located lists form set given trips places preferred =
    let period = period_within records form.values in
    let seen = settings_of-ok more records settings set in
    record {
      units = has_units records entries (parts_of settings entries lists located travel) form.values given refl;
      atoms = has_atoms records entries (parts_of settings entries lists located travel) form.values given refl refl;
      lists = has_lists settings.rule entries located records lists (parts_of settings entries lists located travel)
          (entries_kept records entries given) preferred refl refl refl;
      locations = has_locations records entries located (parts_of settings entries lists located travel) places refl refl refl;
      travel = has_travel records entries travel (parts_of settings entries lists located travel) form.values trips refl refl;
      period = subst (λ (s : Settings). IsBetween 1 100000000 s.period) (sym seen) period;
    }

-- and with service for all calls that wait they are accepted
pub accepted_parts : (parts : PlanParts) → AreWholeParts parts
    → stable_refusal parts.line (all_calls parts) (all_service parts) ≡ None → IsAccepted parts
accepted_parts parts whole stable =
    record {
      units = whole.units;
      atoms = whole.atoms;
      lists = whole.lists;
      locations = whole.locations;
      travel = whole.travel;
      period = whole.period;
      stable = is_stable parts.line (all_calls parts) (all_service parts) stable;
    }

-- the shape of a table of locations
pub located_rows : (records : List Record) (entries : Entries) (located : Grid) → located_of entries records ≡ Ok located
    → (located.rows ≡ length entries.units) × (located.cols ≡ length entries.atoms)
located_rows records entries located given =
    let is = located_of-ok entries records located given in
    rw is.0 (refl, refl)

-- what holds of the parts that the steps after a step give
module _ (P : PlanParts → Type 0) where
  pub after_step : {A E : Type 0} (of_reader : E → PlanRefusal) (given : Result A E) (next : A → Result PlanParts PlanRefusal) (parts : PlanParts)
      → (plan_result of_reader given >>= next) ≡ Ok parts → ((x : A) → given ≡ Ok x → next x ≡ Ok parts → P parts) → P parts
  after_step of_reader (Ok x) next parts h so = so x refl h
  after_step of_reader (Err e) next parts h so = absurd (cc)

  pub after_own : {A : Type 0} (given : Result A PlanRefusal) (next : A → Result PlanParts PlanRefusal) (parts : PlanParts)
      → (given >>= next) ≡ Ok parts → ((x : A) → given ≡ Ok x → next x ≡ Ok parts → P parts) → P parts
  after_own (Ok x) next parts h so = so x refl h
  after_own (Err e) next parts h so = absurd (cc)

  after_all : (refused : Option PlanRefusal) (given parts : PlanParts) → (unless_refused refused >>= λ _. Ok given) ≡ Ok parts
      → (refused ≡ None → P given) → P parts
  after_all None given parts h so = let is : given ≡ parts = cc in subst P is (so refl)
  after_all (Some e) given parts h so = absurd (cc)

-- the parts that records in form give are whole
pub parts_given-whole : (more : AddedKind) (records : List Record) (parts : PlanParts) → IsInForm records
    → parts_given more records ≡ Ok parts → AreWholeParts parts
unfolding parts_given
parts_given-whole more records parts form h =
    after_own AreWholeParts (settings_of more records) _ parts h (λ settings set h1.
    after_step AreWholeParts of_atom (entries_of records) _ parts h1 (λ entries given h2.
    after_step AreWholeParts of_travel (travel_of entries records) _ parts h2 (λ travel trips h3.
    after_step AreWholeParts of_location (located_of entries records) _ parts h3 (λ located places h4.
    after_step AreWholeParts of_list (preferences_of settings.rule entries located records) _ parts h4 (λ lists preferred h5.
    let is : parts_of settings entries lists located travel ≡ parts = cc in
    subst AreWholeParts is (whole_parts more records settings entries travel located lists form set given trips places preferred))))))

-- the plan of records in form is accepted, and so is that of a text
plan_in-accepted : (records : List Record) (plan : PlanParts) → IsInForm records → plan_in records ≡ Ok plan → IsAccepted plan
unfolding plan_in
plan_in-accepted records plan form h =
    after_own IsAccepted (parts_given added.Group records) _ plan h (λ parts given h1.
    after_all IsAccepted (stable_refusal parts.line (all_calls parts) (all_service parts)) parts plan h1
    (λ stable. accepted_parts parts (parts_given-whole added.Group records parts form given) stable))

pub plan_of-accepted : (bytes : List ℕ) (plan : PlanParts) → plan_of bytes ≡ Ok plan → IsAccepted plan
unfolding plan_of
plan_of-accepted bytes plan h =
    after_step IsAccepted of_text (records_of bytes) plan_in plan h
    (λ records read given. plan_in-accepted records plan (records_with-form added.Group bytes records read) given)
