-- The refusal of records is that of the first condition that holds, and without one they give a plan.
use Rattle.std.proofs.Common.{◌≡◌, ◌∙◌, ℕ, zero, suc, ◌<◌, List, [], ◌∷◌, ◌++◌, length, refl, sym, ap, arith}
use Rattle.std.specs.Prelude.{Option, Some, None, Result, Ok, Err}
use Rattle.std.specs.Option.{option_map, option_or}
use Rattle.hyper_model.specs.Grid.{Grid}
use Rattle.hyper_model.specs.declared.kinds.Rule.{Rule}
use Rattle.hyper_model.specs.declared.kinds.Rule.TheVariants as rule
use Rattle.hyper_model.specs.declared.parts.PlanParts.{PlanParts}
use Rattle.plan_text.specs.Steps.{◌>>=◌, unless_refused}
use Rattle.plan_text.specs.declared.kind.AddedKind.{AddedKind}
use Rattle.plan_text.specs.declared.kind.AddedKind.TheVariants as added
use Rattle.plan_text.specs.declared.record.Record.{Record}
use Rattle.atom_table.specs.Entries.{Entries, atom_names, entries_in, unit_names}
use Rattle.atom_table.specs.Pairs.{table_of}
use Rattle.atom_table.specs.Refusals.{atom_records_refusal, entries_of, entries_refusal, names_refusal, none_refusal, sum_refusal, unit_records_refusal}
use Rattle.travel_table.specs.Travel.{gap_refusal, travel_of, trips_in, trips_refusal}
use Rattle.unit_location.specs.Located.{located_in, located_of, shares_refusal, sums_refusal}
use Rattle.preference_rules.specs.Given.{asked_records_refusal, centred_lists_of, given_lists_of, preferences_of}
use Rattle.preference_rules.specs.declared.refusal.ListRefusal.{ListRefusal}
use Rattle.plan_reader.specs.Conditions.{Condition, IsFirstCondition, atom_lists_refusal, condition_at, conditions, list_records_refusal, lists_in, parts_conditions, parts_in, stable_condition}
use Rattle.plan_reader.specs.PlanOf.{parts_given, parts_of, plan_in, plan_result}
use Rattle.plan_reader.specs.Refusals.{of_atom, of_list, of_location, of_travel}
use Rattle.plan_reader.specs.Settings.{settings_in, settings_of, settings_refusal}
use Rattle.plan_reader.specs.declared.refusal.PlanRefusal.{PlanRefusal}
use Rattle.plan_reader.specs.declared.settings.Settings.{Settings}

-- the first refusal of conditions
abbrev first_refusal : List Condition → List Record → Option PlanRefusal
first_refusal [] records = None
first_refusal (condition ∷ others) records = option_or (condition records) (first_refusal others records)

-- it is that of the first condition that holds
first_is : (all : List Condition) (records : List Record) (e : PlanRefusal) → first_refusal all records ≡ Some e
    → (place : ℕ) × IsFirstCondition all records place e
first_is [] records e h = absurd (cc)
first_is (condition ∷ others) records e h = by (condition records) refl h (λ q. first_is others records e q)
  where
    later : (place : ℕ) → condition records ≡ None → IsFirstCondition others records place e
        → IsFirstCondition (condition ∷ others) records (suc place) e
    later place none is = record { within = omega (arith, is.within); holds = is.holds; earlier = before }
      where
        before : (k : ℕ) → k < suc place → condition_at (condition ∷ others) k records ≡ None
        before zero lt = none
        before (suc k) lt = is.earlier k (omega arith)

    by : (o : Option PlanRefusal) → condition records ≡ o → option_or o (first_refusal others records) ≡ Some e
        → (first_refusal others records ≡ Some e → (place : ℕ) × IsFirstCondition others records place e)
        → (place : ℕ) × IsFirstCondition (condition ∷ others) records place e
    by (Some x) is q rest =
        let same : x ≡ e = cc in
        (zero, record { within = omega arith; holds = is ∙ ap Some same; earlier = λ k lt. absurd (omega arith) })
    by None is q rest = let (place, first) = rest q in (suc place, later place is first)

-- and there is no other
first_only : (all : List Condition) (records : List Record) (place : ℕ) (e : PlanRefusal) → IsFirstCondition all records place e
    → first_refusal all records ≡ Some e
first_only [] records place e is = absurd (omega (arith, is.within))
first_only (condition ∷ others) records zero e is =
    ap (λ (o : Option PlanRefusal). option_or o (first_refusal others records)) is.holds
first_only (condition ∷ others) records (suc place) e is =
    ap (λ (o : Option PlanRefusal). option_or o (first_refusal others records)) (is.earlier zero (omega arith))
    ∙ first_only others records place e
    (record { within = omega (arith, is.within); holds = is.holds; earlier = λ k lt. is.earlier (suc k) (omega arith) })

none_holds : (all : List Condition) (records : List Record) → ((k : ℕ) → k < length all → condition_at all k records ≡ None)
    → first_refusal all records ≡ None
none_holds [] records h = refl
none_holds (condition ∷ others) records h =
    ap (λ (o : Option PlanRefusal). option_or o (first_refusal others records)) (h zero (omega arith))
    ∙ none_holds others records (λ k lt. h (suc k) (omega arith))

-- the first refusal of conditions, and of others after them
or_assoc : {A : Type 0} (a b c : Option A) → option_or a (option_or b c) ≡ option_or (option_or a b) c
or_assoc None b c = refl
or_assoc (Some x) b c = refl

first_append : (all others : List Condition) (records : List Record)
    → option_or (first_refusal all records) (first_refusal others records) ≡ first_refusal (all ++ others) records
first_append [] others records = refl
first_append (condition ∷ all) others records =
    sym (or_assoc (condition records) (first_refusal all records) (first_refusal others records))
    ∙ ap (option_or (condition records)) (first_append all others records)

-- a step, and the steps after it
abbrev Ends : Option PlanRefusal → PlanParts → Result PlanParts PlanRefusal → Type 0
Ends refused parts result = result ≡ (unless_refused refused >>= λ _. Ok parts)

step : {A E : Type 0} (of_reader : E → PlanRefusal) (given : Result A E) (refused : Option E) (x : A)
    (next : A → Result PlanParts PlanRefusal) (rest : Option PlanRefusal) (parts : PlanParts)
    → given ≡ (unless_refused refused >>= λ _. Ok x) → Ends rest parts (next x)
    → Ends (option_or (option_map of_reader refused) rest) parts (plan_result of_reader given >>= next)
step {A} {E} of_reader given refused x next rest parts is h =
    ap {A = Result A E} {B = Result PlanParts PlanRefusal} (λ r. plan_result of_reader r >>= next) is ∙ by refused
  where
    by : (o : Option E) → (plan_result of_reader (unless_refused o >>= λ _. Ok x) >>= next)
        ≡ (unless_refused (option_or (option_map of_reader o) rest) >>= λ _. Ok parts)
    by None = h
    by (Some e) = refl

own_step : {A : Type 0} (given : Result A PlanRefusal) (refused : Option PlanRefusal) (x : A)
    (next : A → Result PlanParts PlanRefusal) (rest : Option PlanRefusal) (parts : PlanParts)
    → given ≡ (unless_refused refused >>= λ _. Ok x) → Ends rest parts (next x)
    → Ends (option_or refused rest) parts (given >>= next)
own_step {A} given refused x next rest parts is h =
    ap {A = Result A PlanRefusal} {B = Result PlanParts PlanRefusal} (λ r. r >>= next) is ∙ by refused
  where
    by : (o : Option PlanRefusal) → ((unless_refused o >>= λ _. Ok x) >>= next)
        ≡ (unless_refused (option_or o rest) >>= λ _. Ok parts)
    by None = h
    by (Some e) = refl

last_step : (refused : Option PlanRefusal) (parts : PlanParts)
    → Ends (option_or refused None) parts (unless_refused refused >>= λ _. Ok parts)
last_step None parts = refl
last_step (Some e) parts = refl

-- two conditions of one reader
flat : {E : Type 0} (of_reader : E → PlanRefusal) (a b : Option E) (c : Option PlanRefusal)
    → option_or (option_map of_reader (option_or a b)) c ≡ option_or (option_map of_reader a) (option_or (option_map of_reader b) c)
flat of_reader None b c = refl
flat of_reader (Some e) b c = refl

-- five of them
flat_five : {E : Type 0} (of_reader : E → PlanRefusal) (a b c d e : Option E) (rest : Option PlanRefusal)
    → option_or (option_map of_reader (option_or a (option_or b (option_or c (option_or d e))))) rest
    ≡ option_or (option_map of_reader a) (option_or (option_map of_reader b) (option_or (option_map of_reader c)
    (option_or (option_map of_reader d) (option_or (option_map of_reader e) rest))))
flat_five of_reader a b c d e rest =
    flat of_reader a (option_or b (option_or c (option_or d e))) rest
    ∙ ap (option_or (option_map of_reader a)) (flat of_reader b (option_or c (option_or d e)) rest
    ∙ ap (option_or (option_map of_reader b)) (flat of_reader c (option_or d e) rest
    ∙ ap (option_or (option_map of_reader c)) (flat of_reader d e rest)))

same_end : (refused other : Option PlanRefusal) (parts : PlanParts) (result : Result PlanParts PlanRefusal) → refused ≡ other
    → Ends refused parts result → Ends other parts result
same_end refused other parts result same h = rw same at h

-- what the lists are, by the rule
or_nothing : {A : Type 0} (o : Option ListRefusal) (x : A) → (unless_refused o >>= λ _. Ok x) ≡ (unless_refused (option_or o None) >>= λ _. Ok x)
or_nothing None x = refl
or_nothing (Some e) x = refl

module _ (more : AddedKind) (records : List Record) where
  abbrev entries : Entries
  entries = entries_in records

  abbrev settings : Settings
  settings = settings_in records

  abbrev located : Grid
  located = located_in entries records

  abbrev travel : Grid
  travel = table_of (length entries.atoms) (length entries.atoms) (trips_in entries records)

  abbrev lists_refused : Rule → Option ListRefusal
  lists_refused rule = option_or (list_records_refusal rule entries records) (atom_lists_refusal rule entries records)

  lists_are : (rule : Rule)
      → preferences_of rule entries located records ≡ (unless_refused (lists_refused rule) >>= λ _. Ok (lists_in rule records))
  unfolding given_lists_of centred_lists_of
  lists_are rule.Given = refl
  lists_are rule.Strict = or_nothing (asked_records_refusal records) (lists_in rule.Strict records)
  lists_are rule.Modified = or_nothing (asked_records_refusal records) (lists_in rule.Modified records)

  entries_are : entries_of records ≡ (unless_refused (entries_refusal records entries) >>= λ _. Ok entries)
  unfolding entries_of
  entries_are = refl

  travel_is : travel_of entries records ≡ (unless_refused (option_or (trips_refusal entries records) (gap_refusal entries records)) >>= λ _. Ok travel)
  unfolding travel_of
  travel_is = refl

  located_are : located_of entries records
      ≡ (unless_refused (option_or (shares_refusal entries records) (sums_refusal located)) >>= λ _. Ok located)
  unfolding located_of
  located_are = refl

  settings_are : settings_of more records ≡ (unless_refused (settings_refusal more records) >>= λ _. Ok settings)
  unfolding settings_of
  settings_are = refl

  -- the parts from each step on
  abbrev from_lists : Settings → Entries → Grid → Grid → Result PlanParts PlanRefusal
  from_lists set given trips places =
      plan_result of_list (preferences_of set.rule given places records) >>= λ lists. Ok (parts_of set given lists places trips)

  abbrev from_places : Settings → Entries → Grid → Result PlanParts PlanRefusal
  from_places set given trips = plan_result of_location (located_of given records) >>= from_lists set given trips

  abbrev from_travel : Settings → Entries → Result PlanParts PlanRefusal
  from_travel set given = plan_result of_travel (travel_of given records) >>= from_places set given

  abbrev from_entries : Settings → Result PlanParts PlanRefusal
  from_entries set = plan_result of_atom (entries_of records) >>= from_travel set

  -- the conditions from each step on
  abbrev lists_on : Option PlanRefusal
  lists_on =
      option_or (option_map of_list (list_records_refusal settings.rule entries records))
      (option_or (option_map of_list (atom_lists_refusal settings.rule entries records)) None)

  abbrev places_on : Option PlanRefusal
  places_on =
      option_or (option_map of_location (shares_refusal entries records)) (option_or (option_map of_location (sums_refusal located)) lists_on)

  abbrev travel_on : Option PlanRefusal
  travel_on =
      option_or (option_map of_travel (trips_refusal entries records)) (option_or (option_map of_travel (gap_refusal entries records)) places_on)

  ends_lists : Ends lists_on (parts_in records) (from_lists settings entries travel located)
  ends_lists =
      same_end (option_or (option_map of_list (lists_refused settings.rule)) None) lists_on (parts_in records)
      (from_lists settings entries travel located)
      (flat of_list (list_records_refusal settings.rule entries records) (atom_lists_refusal settings.rule entries records) None)
      (step of_list (preferences_of settings.rule entries located records) (lists_refused settings.rule) (lists_in settings.rule records)
      (λ lists. Ok (parts_of settings entries lists located travel)) None (parts_in records) (lists_are settings.rule) refl)

  ends_places : Ends places_on (parts_in records) (from_places settings entries travel)
  ends_places =
      same_end (option_or (option_map of_location (option_or (shares_refusal entries records) (sums_refusal located))) lists_on) places_on
      (parts_in records) (from_places settings entries travel)
      (flat of_location (shares_refusal entries records) (sums_refusal located) lists_on)
      (step of_location (located_of entries records) (option_or (shares_refusal entries records) (sums_refusal located)) located
      (from_lists settings entries travel) lists_on (parts_in records) located_are ends_lists)

  ends_travel : Ends travel_on (parts_in records) (from_travel settings entries)
  ends_travel =
      same_end (option_or (option_map of_travel (option_or (trips_refusal entries records) (gap_refusal entries records))) places_on) travel_on
      (parts_in records) (from_travel settings entries)
      (flat of_travel (trips_refusal entries records) (gap_refusal entries records) places_on)
      (step of_travel (travel_of entries records) (option_or (trips_refusal entries records) (gap_refusal entries records)) travel
      (from_places settings entries) places_on (parts_in records) travel_is ends_travel_places)
    where
      ends_travel_places : Ends places_on (parts_in records) (from_places settings entries travel)
      ends_travel_places = ends_places

  ends_all : Ends (first_refusal (parts_conditions more) records) (parts_in records) (settings_of more records >>= from_entries)
  ends_all =
      own_step (settings_of more records) (settings_refusal more records) settings from_entries _ (parts_in records) settings_are
      (same_end (option_or (option_map of_atom (entries_refusal records entries)) travel_on) _ (parts_in records) (from_entries settings)
      (flat_five of_atom (unit_records_refusal records) (atom_records_refusal entries.units records) (none_refusal entries.units entries.atoms)
      (names_refusal (unit_names entries.units) (atom_names entries.atoms) records) (sum_refusal entries.units entries.atoms) travel_on)
      (step of_atom (entries_of records) (entries_refusal records entries) entries (from_travel settings) travel_on (parts_in records)
      entries_are ends_travel))

  parts_are : Ends (first_refusal (parts_conditions more) records) (parts_in records) (parts_given more records)
  unfolding parts_given
  parts_are = ends_all

-- the plan of records: the conditions of their parts, and that of calls that wait
plan_is : (records : List Record) → Ends (first_refusal conditions records) (parts_in records) (plan_in records)
unfolding plan_in
plan_is records =
    same_end (option_or (first_refusal (parts_conditions added.Group) records) (option_or (stable_condition records) None))
    (first_refusal conditions records) (parts_in records) (plan_in records)
    (first_append (parts_conditions added.Group) (stable_condition ∷ []) records)
    (own_step (parts_given added.Group records) (first_refusal (parts_conditions added.Group) records) (parts_in records) _
    (option_or (stable_condition records) None) (parts_in records) (parts_are added.Group records)
    (last_step (stable_condition records) (parts_in records)))

refusal_of : (refused : Option PlanRefusal) (parts : PlanParts) (e : PlanRefusal) → (unless_refused refused >>= λ _. Ok parts) ≡ Err e
    → refused ≡ Some e
refusal_of None parts e h = absurd (cc)
refusal_of (Some x) parts e h = let same : x ≡ e = cc in ap Some same

-- the refusal is that of the first condition that holds
pub first_condition : (records : List Record) (e : PlanRefusal) → plan_in records ≡ Err e
    → (place : ℕ) × IsFirstCondition conditions records place e
first_condition records e h =
    first_is conditions records e (refusal_of (first_refusal conditions records) (parts_in records) e (sym (plan_is records) ∙ h))

pub first_condition-only : (records : List Record) (place : ℕ) (e : PlanRefusal) → IsFirstCondition conditions records place e
    → plan_in records ≡ Err e
first_condition-only records place e is =
    plan_is records
    ∙ ap {A = Option PlanRefusal} {B = Result PlanParts PlanRefusal} (λ o. unless_refused o >>= λ _. Ok (parts_in records))
    (first_only conditions records place e is)

pub no_condition : (records : List Record) → ((k : ℕ) → k < length conditions → condition_at conditions k records ≡ None)
    → plan_in records ≡ Ok (parts_in records)
no_condition records h =
    plan_is records
    ∙ ap {A = Option PlanRefusal} {B = Result PlanParts PlanRefusal} (λ o. unless_refused o >>= λ _. Ok (parts_in records))
    (none_holds conditions records h)
