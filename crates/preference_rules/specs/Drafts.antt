-- What records give for the preference lists, while they are read one after the other.
use Rattle.std.specs.Prelude.{◌≡◌, ◌+◌, ◌++◌, ℕ, Bool, true, false, if◌then◌else◌, not, List, [], ◌∷◌, length, map, Option, Some, None, replicate, slice_index_or, slice_set}
use Rattle.std.specs.List.{list_any, range_with_len}
use Rattle.hyper_model.specs.Groups.{AtomList, GroupLists}
use Rattle.plan_text.specs.Steps.{first_over}
use Rattle.plan_text.specs.declared.record.Record.{Record}
use Rattle.plan_text.specs.declared.record.Record.TheVariants as rec
use Rattle.atom_table.specs.Names.{place_or_zero}
use Rattle.preference_rules.specs.Given.{holds_each}
use Rattle.preference_rules.specs.Lists.{begins_of, given_groups, is_list_for, is_order_for, places_of, row_of_groups}
use Rattle.preference_rules.specs.declared.refusal.ListRefusal.{ListRefusal}
use Rattle.preference_rules.specs.declared.refusal.ListRefusal.TheVariants.{ListNotWhole, ListTwice, MissingList}

-- the list so far, whether a record is for it, and whether a record gives it a whole order
pub record Draft : Type 0 where
  pub row : AtomList
  pub is_listed : Bool
  pub is_ordered : Bool

-- what records give for atom j
abbrev pub draft_of : List (List ℕ) → List (List ℕ) → List Record → ℕ → Draft
draft_of units atoms records j = record {
  row = row_of_groups (given_groups units atoms records j);
  is_listed = list_any (is_list_for atoms j) records;
  is_ordered = list_any (is_order_for atoms j) records;
}

-- the same for each atom
abbrev pub drafts_of : List (List ℕ) → List (List ℕ) → List Record → List Draft
drafts_of units atoms records = map (draft_of units atoms records) (range_with_len 0 (length atoms))

-- nothing was given
abbrev pub no_draft : Draft
no_draft = record { row = record { members = []; begins = [] }; is_listed = false; is_ordered = false }

abbrev pub draft_at : List Draft → ℕ → Draft
draft_at drafts j = slice_index_or drafts j no_draft

-- a draft with one more unit
abbrev pub with_next : Draft → ℕ → Bool → Draft
with_next draft unit begins = record draft {
  row = record { members = draft.row.members ++ unit ∷ []; begins = draft.row.begins ++ begins ∷ [] };
}

-- at which of more units a group begins: at each, if they are single, or at the first
abbrev pub begins_in : List ℕ → Bool → List Bool
begins_in units are_single = if are_single then replicate (length units) true else begins_of units

-- a draft with more units
abbrev pub with_units : Draft → List ℕ → Bool → Draft
with_units draft units are_single = record draft {
  row = record {
    members = draft.row.members ++ units;
    begins = draft.row.begins ++ begins_in units are_single;
  };
}

-- a draft with a whole order, or one more group
abbrev pub with_order : Draft → List ℕ → Draft
with_order draft units = record (with_units draft units true) { is_listed = true; is_ordered = true }

abbrev pub with_group : Draft → List ℕ → Draft
with_group draft units = record (with_units draft units false) { is_listed = true }

-- the drafts with what one more record gives
abbrev pub with_record : List (List ℕ) → List (List ℕ) → List Draft → Record → List Draft
with_record units atoms drafts (rec.Prefer at atom list) =
    slice_set drafts (place_or_zero atoms atom) (with_order (draft_at drafts (place_or_zero atoms atom)) (places_of units list))
with_record units atoms drafts (rec.Group at atom list) =
    slice_set drafts (place_or_zero atoms atom) (with_group (draft_at drafts (place_or_zero atoms atom)) (places_of units list))
with_record units atoms drafts _ = drafts

-- a record of a list after others, by what these gave
abbrev pub again_refusal : List (List ℕ) → List Draft → Record → Option ListRefusal
again_refusal atoms drafts (rec.Prefer at atom units) =
    if (draft_at drafts (place_or_zero atoms atom)).is_listed then Some (ListTwice at) else None
again_refusal atoms drafts (rec.Group at atom units) =
    if (draft_at drafts (place_or_zero atoms atom)).is_ordered then Some (ListTwice at) else None
again_refusal atoms drafts _ = None

-- a list of so many units, after those of other atoms: a record has to be for it, and it has to hold each unit once
abbrev pub draft_refusal : ℕ → ℕ → Draft → Option ListRefusal
draft_refusal units before draft =
    if not draft.is_listed then Some (MissingList (before + 1))
    else if not (holds_each units draft.row.members) then Some (ListNotWhole (before + 1))
    else None

-- the first atom with such a list
abbrev pub drafts_refusal : ℕ → List Draft → Option ListRefusal
drafts_refusal units drafts = first_over (λ before. draft_refusal units (length before)) [] drafts

-- a list of n units, the first of which begins a group
pub record IsFilled (n : ℕ) (draft : Draft) : Type 0 where
  pub members : length draft.row.members ≡ n
  pub begins : length draft.row.begins ≡ n
  pub first : slice_index_or draft.row.begins 0 true ≡ true

-- the lists that drafts are
abbrev pub draft_rows : ℕ → List Draft → GroupLists
draft_rows units drafts = record { units = units; rows = map (λ (draft : Draft). draft.row) drafts }
