-- The lists that records give, or that follow from where units and calls are, are those of a plan.
use Rattle.std.proofs.Common.{◌≡◌, ◌∙◌, ℕ, ◌<◌, List, length, drop, get_or, refl, sym, subst, arith}
use Rattle.std.specs.Prelude.{Option, Some, None, Ok}
use Rattle.std.specs.Option.{option_or}
use Rattle.std.proofs.lemmas.List.{get_or-map, length-map}
use Rattle.std.proofs.lemmas.List.FromFn.{get_or-map-range_with_len, length-map-range_with_len}
use Rattle.hyper_model.specs.Grid.{Grid}
use Rattle.hyper_model.specs.Groups.{AtomList, GroupLists, IsGrouped, groups_from, groups_in, no_row, row_of}
use Rattle.hyper_model.specs.Plans.{HasLists, no_atom}
use Rattle.hyper_model.specs.declared.kinds.Rule.{Rule}
use Rattle.hyper_model.specs.declared.kinds.Rule.TheVariants as rule
use Rattle.hyper_model.specs.declared.parts.Atom.{Atom}
use Rattle.hyper_model.specs.declared.parts.PlanParts.{PlanParts}
use Rattle.hyper_model.specs.declared.parts.Unit as declared_unit
use Rattle.hyper_model.proofs.Grouping.{grouped_from}
use Rattle.plan_text.specs.Steps.{◌>>=◌, unless_refused}
use Rattle.plan_text.specs.declared.record.Record.{Record}
use Rattle.atom_table.specs.Entries.{Entries, HasEntries, atom_names, unit_names}
use Rattle.preference_rules.specs.Centred.{centred_lists, centred_row}
use Rattle.preference_rules.specs.CentreOrder.{centre_list}
use Rattle.preference_rules.specs.Drafts.{drafts_of, drafts_refusal}
use Rattle.preference_rules.specs.Given.{asked_records_refusal, centred_lists_of, given_lists, given_lists_of, lists_refusal, preferences_of, twice_records_refusal}
use Rattle.preference_rules.specs.Lists.{given_groups, row_of_groups}
use Rattle.preference_rules.specs.Places.{cost_of}
use Rattle.preference_rules.proofs.CentreLists.{centre_is}
use Rattle.preference_rules.proofs.GivenRows.{lists_refusal-is, passed_full}

-- what is given if nothing is refused
unrefused : {A E : Type 0} (refused : Option E) (x y : A) → (unless_refused refused >>= λ _. Ok x) ≡ Ok y → (refused ≡ None) × (y ≡ x)
unrefused None x y h = (refl, cc)
unrefused (Some e) x y h = absurd (cc)

second_none : {E : Type 0} (a b : Option E) → option_or a b ≡ None → b ≡ None
second_none None b h = h
second_none (Some e) b h = absurd (cc)

pub given_ok : (units atoms : List (List ℕ)) (records : List Record) (lists : GroupLists) → given_lists_of units atoms records ≡ Ok lists
    → (drafts_refusal (length units) (drafts_of units atoms records) ≡ None) × (lists ≡ given_lists units atoms records)
unfolding given_lists_of
given_ok units atoms records lists h =
    let (none, is) = unrefused (option_or (twice_records_refusal atoms records) (lists_refusal units atoms records))
    (given_lists units atoms records) lists h in
    (lists_refusal-is units atoms records ∙ second_none (twice_records_refusal atoms records) (lists_refusal units atoms records) none, is)

given_grouped : (units atoms : List (List ℕ)) (records : List Record) (j : ℕ) → 0 < length units
    → drafts_refusal (length units) (drafts_of units atoms records) ≡ None → j < length atoms
    → IsGrouped (length units) (groups_in (given_lists units atoms records) j)
given_grouped units atoms records j some none lt =
    let row : row_of (given_lists units atoms records) j ≡ row_of_groups (given_groups units atoms records j) =
    get_or-map-range_with_len (λ k. row_of_groups (given_groups units atoms records k)) 0 (length atoms) j j no_row lt (omega arith) in
    let P : AtomList → Type 0 = λ r. IsGrouped (length units) (groups_from r.members (drop 1 r.begins)) in
    subst P (sym row) (grouped_from (length units) (row_of_groups (given_groups units atoms records j)).members
    (drop 1 (row_of_groups (given_groups units atoms records j)).begins) (passed_full units atoms records some none j lt))

pub centred_ok : (rule : Rule) (entries : Entries) (located : Grid) (records : List Record) (lists : GroupLists)
    → centred_lists_of rule entries located records ≡ Ok lists → lists ≡ centred_lists rule (length entries.units) entries.atoms located
unfolding centred_lists_of
centred_ok rule entries located records lists h =
    (unrefused (asked_records_refusal records) (centred_lists rule (length entries.units) entries.atoms located) lists h).1

centred_grouped : (rule : Rule) (units : ℕ) (atoms : List Atom) (located : Grid) (j : ℕ) → j < length atoms
    → IsGrouped units (groups_in (centred_lists rule units atoms located) j)
centred_grouped rule units atoms located j lt =
    let row : row_of (centred_lists rule units atoms located) j ≡ centred_row rule units atoms located (get_or atoms j no_atom) =
    get_or-map (centred_row rule units atoms located) atoms j no_atom no_row lt in
    let P : AtomList → Type 0 = λ r. IsGrouped units (groups_from r.members (drop 1 r.begins)) in
    subst P (sym row) (grouped_from units
    (centre_list (cost_of rule atoms located (get_or atoms j no_atom)) (get_or atoms j no_atom).district units)
    (drop 1 (centred_row rule units atoms located (get_or atoms j no_atom)).begins)
    (centre_is (cost_of rule atoms located (get_or atoms j no_atom)) (get_or atoms j no_atom).district units).full)

-- lists by distance are those of a plan
pub are_lists : (rule : Rule) (located : Grid) (p : PlanParts) → p.lists ≡ centred_lists rule (length p.units) p.atoms located → HasLists p
are_lists rule located p is =
    rw is (record {
      one_each = length-map p.atoms (centred_row rule (length p.units) p.atoms located);
      width = refl;
      grouped = λ j lt. centred_grouped rule (length p.units) p.atoms located j lt;
    })

has_centred : (rule : Rule) (entries : Entries) (located : Grid) (records : List Record) (lists : GroupLists) (p : PlanParts)
    → centred_lists_of rule entries located records ≡ Ok lists
    → p.units ≡ entries.units → p.atoms ≡ entries.atoms → p.lists ≡ lists → HasLists p
has_centred rule entries located records lists p given units atoms same =
    let is : p.lists ≡ centred_lists rule (length entries.units) entries.atoms located =
    same ∙ centred_ok rule entries located records lists given in
    are_lists rule located p (rw (units, atoms) is)

has_given : (entries : Entries) (records : List Record) (lists : GroupLists) (p : PlanParts) → HasEntries entries
    → given_lists_of (unit_names entries.units) (atom_names entries.atoms) records ≡ Ok lists
    → p.units ≡ entries.units → p.atoms ≡ entries.atoms → p.lists ≡ lists → HasLists p
has_given entries records lists p has given units atoms same =
    let us : length (unit_names entries.units) ≡ length entries.units = length-map entries.units (λ (u : declared_unit.Unit). u.name) in
    let as' : length (atom_names entries.atoms) ≡ length entries.atoms = length-map entries.atoms (λ (a : Atom). a.name) in
    let some : 0 < length (unit_names entries.units) = omega (arith, us, has.units.low) in
    let ok = given_ok (unit_names entries.units) (atom_names entries.atoms) records lists given in
    let is : p.lists ≡ given_lists (unit_names entries.units) (atom_names entries.atoms) records = same ∙ ok.1 in
    rw (is, units, atoms) (record {
      one_each = length-map-range_with_len (λ j. row_of_groups (given_groups (unit_names entries.units) (atom_names entries.atoms) records j))
          0 (length (atom_names entries.atoms)) ∙ as';
      width = us;
      grouped = λ j lt. rw (sym us) (given_grouped (unit_names entries.units) (atom_names entries.atoms) records j some ok.0 (omega (arith, as')));
    })

pub has_lists : (rule : Rule) (entries : Entries) (located : Grid) (records : List Record) (lists : GroupLists) (p : PlanParts) → HasEntries entries
    → preferences_of rule entries located records ≡ Ok lists
    → p.units ≡ entries.units → p.atoms ≡ entries.atoms → p.lists ≡ lists → HasLists p
has_lists rule.Given entries located records lists p has given units atoms same =
    has_given entries records lists p has given units atoms same
has_lists rule.Strict entries located records lists p has given units atoms same =
    has_centred rule.Strict entries located records lists p given units atoms same
has_lists rule.Modified entries located records lists p has given units atoms same =
    has_centred rule.Modified entries located records lists p given units atoms same
