-- All conditions under which the records of a text are refused, as one list in the order in which they are judged.
use Rattle.std.specs.Prelude.{◌≡◌, ℕ, ◌<◌, List, [], ◌∷◌, ◌++◌, length, slice_index_or, Option, Some, None}
use Rattle.std.specs.Option.{option_map}
use Rattle.hyper_model.specs.Groups.{GroupLists}
use Rattle.hyper_model.specs.Plans.{calls_in, service_in}
use Rattle.hyper_model.specs.declared.kinds.Rule.{Rule}
use Rattle.hyper_model.specs.declared.kinds.Rule.TheVariants as rule
use Rattle.hyper_model.specs.declared.parts.PlanParts.{PlanParts}
use Rattle.plan_text.specs.declared.kind.AddedKind.{AddedKind}
use Rattle.plan_text.specs.declared.kind.AddedKind.TheVariants as added
use Rattle.plan_text.specs.declared.record.Record.{Record}
use Rattle.atom_table.specs.Entries.{Entries, atom_names, atoms_in, entries_in, unit_names, units_in}
use Rattle.atom_table.specs.Refusals.{atom_records_refusal, names_refusal, none_refusal, sum_refusal, unit_records_refusal}
use Rattle.travel_table.specs.Travel.{gap_refusal, trips_in, trips_refusal}
use Rattle.unit_location.specs.Located.{located_in, shares_refusal, sums_refusal}
use Rattle.preference_rules.specs.Centred.{centred_lists}
use Rattle.preference_rules.specs.Given.{asked_records_refusal, given_lists, lists_refusal, twice_records_refusal}
use Rattle.preference_rules.specs.declared.refusal.ListRefusal.{ListRefusal}
use Rattle.atom_table.specs.Pairs.{table_of}
use Rattle.plan_reader.specs.PlanOf.{parts_of, stable_refusal}
use Rattle.plan_reader.specs.Refusals.{of_atom, of_list, of_location, of_travel}
use Rattle.plan_reader.specs.Settings.{settings_in, settings_refusal}
use Rattle.plan_reader.specs.declared.refusal.PlanRefusal.{PlanRefusal}

-- the refusal of records for which a condition holds
abbrev pub Condition : Type 0
Condition = List Record → Option PlanRefusal

-- a record that gives a list, by the rule
abbrev pub list_records_refusal : Rule → Entries → List Record → Option ListRefusal
list_records_refusal rule.Given entries records = twice_records_refusal (atom_names entries.atoms) records
list_records_refusal rule.Strict entries records = asked_records_refusal records
list_records_refusal rule.Modified entries records = asked_records_refusal records

-- an atom whose list is not given, or not whole, if records give the lists
abbrev pub atom_lists_refusal : Rule → Entries → List Record → Option ListRefusal
atom_lists_refusal rule.Given entries records = lists_refusal (unit_names entries.units) (atom_names entries.atoms) records
atom_lists_refusal rule.Strict entries records = None
atom_lists_refusal rule.Modified entries records = None

-- those of the parts, in a text to which this kind can be added
abbrev pub parts_conditions : AddedKind → List Condition
parts_conditions more =
    -- a setting twice, or an unknown version
    settings_refusal more
    -- a unit twice, or too many; an atom twice, or too many
    ∷ (λ records. option_map of_atom (unit_records_refusal records))
    ∷ (λ records. option_map of_atom (atom_records_refusal (units_in records) records))
    -- no unit, or no atom
    ∷ (λ records. option_map of_atom (none_refusal (units_in records) (atoms_in (units_in records) records)))
    -- a name without a record of its own
    ∷ (λ records. option_map of_atom (names_refusal (unit_names (units_in records)) (atom_names (atoms_in (units_in records) records)) records))
    -- no calls, or too many calls or too much service
    ∷ (λ records. option_map of_atom (sum_refusal (units_in records) (atoms_in (units_in records) records)))
    -- a travel time twice, or missing
    ∷ (λ records. option_map of_travel (trips_refusal (entries_in records) records))
    ∷ (λ records. option_map of_travel (gap_refusal (entries_in records) records))
    -- a location twice, or thousandths of a unit that are not whole
    ∷ (λ records. option_map of_location (shares_refusal (entries_in records) records))
    ∷ (λ records. option_map of_location (sums_refusal (located_in (entries_in records) records)))
    -- a list that is not asked for, or twice; a list that is missing, or not whole
    ∷ (λ records. option_map of_list (list_records_refusal (settings_in records).rule (entries_in records) records))
    ∷ (λ records. option_map of_list (atom_lists_refusal (settings_in records).rule (entries_in records) records))
    ∷ []

-- calls that would queue without end
abbrev pub stable_condition : Condition
stable_condition records =
    stable_refusal (settings_in records).line (calls_in (entries_in records).atoms) (service_in (entries_in records).units)

-- all of them
abbrev pub conditions : List Condition
conditions = parts_conditions added.Group ++ stable_condition ∷ []

-- the condition at a place of a list, counted from 0
abbrev pub condition_at : List Condition → ℕ → Condition
condition_at all place = slice_index_or all place (λ records. None)

-- the first of the conditions that holds is the one at this place, and this is its refusal
pub record IsFirstCondition (all : List Condition) (records : List Record) (place : ℕ) (e : PlanRefusal) : Type 0 where
  pub within : place < length all
  pub holds : condition_at all place records ≡ Some e
  pub earlier : (k : ℕ) → k < place → condition_at all k records ≡ None

-- the lists of the atoms, by the rule
abbrev pub lists_in : Rule → List Record → GroupLists
lists_in rule.Given records = given_lists (unit_names (units_in records)) (atom_names (atoms_in (units_in records) records)) records
lists_in rule.Strict records =
    centred_lists rule.Strict (length (units_in records)) (atoms_in (units_in records) records) (located_in (entries_in records) records)
lists_in rule.Modified records =
    centred_lists rule.Modified (length (units_in records)) (atoms_in (units_in records) records) (located_in (entries_in records) records)

-- the parts that records give, if no condition holds
abbrev pub parts_in : List Record → PlanParts
parts_in records =
    let atoms = length (atoms_in (units_in records) records) in
    parts_of (settings_in records) (entries_in records) (lists_in (settings_in records).rule records)
    (located_in (entries_in records) records) (table_of atoms atoms (trips_in (entries_in records) records))
