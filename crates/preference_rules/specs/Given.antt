-- Which preference lists records give, or why they give none.
use Rattle.std.specs.Prelude.{ℕ, ◌+◌, ◌==◌, Bool, if◌then◌else◌, not, List, [], length, map, Option, Some, None, Result, Ok}
use Rattle.std.specs.List.{list_any, range_with_len}
use Rattle.std.specs.Option.{option_or}
use Rattle.hyper_model.specs.Acceptance.{places_in}
use Rattle.hyper_model.specs.Grid.{Grid}
use Rattle.hyper_model.specs.Groups.{GroupLists}
use Rattle.hyper_model.specs.Plans.{all_below}
use Rattle.hyper_model.specs.declared.kinds.Rule.{Rule}
use Rattle.hyper_model.specs.declared.kinds.Rule.TheVariants as rule
use Rattle.plan_text.specs.Steps.{◌>>=◌, first_over, unless_refused}
use Rattle.plan_text.specs.declared.record.Record.{Record}
use Rattle.plan_text.specs.declared.record.Record.TheVariants as rec
use Rattle.atom_table.specs.Entries.{Entries, atom_names, unit_names}
use Rattle.atom_table.specs.Names.{place_or_zero}
use Rattle.preference_rules.specs.Centred.{centred_lists}
use Rattle.preference_rules.specs.Lists.{given_groups, is_list_for, is_order_for, listed_units, row_of_groups}
use Rattle.preference_rules.specs.declared.refusal.ListRefusal.{ListRefusal}
use Rattle.preference_rules.specs.declared.refusal.ListRefusal.TheVariants.{ListNotAsked, ListNotWhole, ListTwice, MissingList}

-- A record of a list after others, if records give the lists: an order has to be the only record for its atom, and a
-- group may not stand after an order for its atom.
abbrev pub twice_refusal : List (List ℕ) → List Record → Record → Option ListRefusal
twice_refusal atoms before (rec.Prefer at atom units) =
    if list_any (is_list_for atoms (place_or_zero atoms atom)) before then Some (ListTwice at) else None
twice_refusal atoms before (rec.Group at atom units) =
    if list_any (is_order_for atoms (place_or_zero atoms atom)) before then Some (ListTwice at) else None
twice_refusal atoms before _ = None

-- a record of a list, if the rule asks for none
abbrev pub asked_refusal : Record → Option ListRefusal
asked_refusal (rec.Prefer at atom units) = Some (ListNotAsked at)
asked_refusal (rec.Group at atom units) = Some (ListNotAsked at)
asked_refusal _ = None

-- the first record that is refused, if records give the lists and if they do not
abbrev pub twice_records_refusal : List (List ℕ) → List Record → Option ListRefusal
twice_records_refusal atoms records = first_over (twice_refusal atoms) [] records

abbrev pub asked_records_refusal : List Record → Option ListRefusal
asked_records_refusal records = first_over (λ before. asked_refusal) [] records

-- whether each of the first n units stands once in a list
abbrev pub holds_each : ℕ → List ℕ → Bool
holds_each n list = all_below n (λ unit. places_in list unit == 1)

-- Atom j: a record has to be for its list, and its list has to hold each unit once.
abbrev pub list_refusal : List (List ℕ) → List (List ℕ) → List Record → ℕ → Option ListRefusal
list_refusal units atoms records j =
    if not (list_any (is_list_for atoms j) records) then Some (MissingList (j + 1))
    else if not (holds_each (length units) (listed_units units atoms records j)) then Some (ListNotWhole (j + 1))
    else None

-- the first atom without such a list
abbrev pub lists_refusal : List (List ℕ) → List (List ℕ) → List Record → Option ListRefusal
lists_refusal units atoms records = first_over (λ before. list_refusal units atoms records) [] (range_with_len 0 (length atoms))

-- the lists that records give
abbrev pub given_lists : List (List ℕ) → List (List ℕ) → List Record → GroupLists
given_lists units atoms records = record {
  units = length units;
  rows = map (λ j. row_of_groups (given_groups units atoms records j)) (range_with_len 0 (length atoms));
}

-- the same, if no record and no list is refused
unfoldable pub given_lists_of : List (List ℕ) → List (List ℕ) → List Record → Result GroupLists ListRefusal
given_lists_of units atoms records =
    unless_refused (option_or (twice_records_refusal atoms records) (lists_refusal units atoms records))
    >>= λ _. Ok (given_lists units atoms records)

-- the lists that follow from where units and calls are, if no record is refused
unfoldable pub centred_lists_of : Rule → Entries → Grid → List Record → Result GroupLists ListRefusal
centred_lists_of rule entries located records =
    unless_refused (asked_records_refusal records)
    >>= λ _. Ok (centred_lists rule (length entries.units) entries.atoms located)

-- the lists of the atoms by the rule
abbrev pub preferences_of : Rule → Entries → Grid → List Record → Result GroupLists ListRefusal
preferences_of rule.Given entries located records =
    given_lists_of (unit_names entries.units) (atom_names entries.atoms) records
preferences_of rule.Strict entries located records = centred_lists_of rule.Strict entries located records
preferences_of rule.Modified entries located records = centred_lists_of rule.Modified entries located records
