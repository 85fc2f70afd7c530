-- Without groups each unit of a list is in a group of its own.
use Rattle.std.proofs.Common.{◌≡◌, ◌∙◌, ℕ, zero, suc, ◌<◌, true, false, List, [], ◌∷◌, ◌++◌, length, drop, get_or, replicate, refl, sym, subst, arith}
use Rattle.std.specs.Prelude.{Bool, ◌==◌, if◌then◌else◌, All, map, Ok}
use Rattle.std.specs.List.{flat_map}
use Rattle.std.proofs.lemmas.List.{get_or-map, length-map}
use Rattle.std.proofs.lemmas.List.Concat.{flat_map-append}
use Rattle.std.proofs.lemmas.List.Elements.{All-head, All-tail}
use Rattle.std.proofs.lemmas.List.FromFn.{get_or-map-range_with_len}
use Rattle.hyper_model.specs.Grid.{Grid}
use Rattle.hyper_model.specs.Groups.{AtomList, GroupLists, groups_from, groups_in, no_row, row_of}
use Rattle.hyper_model.specs.Plans.{are_single, no_atom}
use Rattle.hyper_model.specs.declared.kinds.Rule.{Rule}
use Rattle.hyper_model.specs.declared.kinds.Rule.TheVariants as rule
use Rattle.hyper_model.specs.declared.parts.Atom.{Atom}
use Rattle.hyper_model.proofs.Grouping.{alone_single, single_put}
use Rattle.plan_text.specs.declared.record.Record.{Record}
use Rattle.plan_text.specs.declared.record.Record.TheVariants as rec
use Rattle.plan_text.proofs.NoGroups.{IsUngrouped}
use Rattle.atom_table.specs.Entries.{Entries, atom_names, unit_names}
use Rattle.atom_table.specs.Names.{place_or_zero}
use Rattle.preference_rules.specs.Centred.{centred_lists, centred_row}
use Rattle.preference_rules.specs.Given.{given_lists, preferences_of}
use Rattle.preference_rules.specs.Lists.{begins_of, given_groups, groups_for, places_of, row_of_groups}
use Rattle.preference_rules.proofs.AcceptedLists.{centred_ok, given_ok}

-- a group begins at each place
abbrev AreTrue : List Bool → Type 0
AreTrue [] = Prim.Unit {0}
AreTrue (true ∷ begins) = AreTrue begins
AreTrue (false ∷ begins) = ⊥

true-append : (xs ys : List Bool) → AreTrue xs → AreTrue ys → AreTrue (xs ++ ys)
true-append [] ys t u = u
true-append (true ∷ xs) ys t u = true-append xs ys t u
true-append (false ∷ xs) ys t u = absurd t

true-replicate : (n : ℕ) → AreTrue (replicate n true)
true-replicate zero = tt
true-replicate (suc n) = true-replicate n

true-drop : (begins : List Bool) → AreTrue begins → AreTrue (drop 1 begins)
true-drop [] t = tt
true-drop (true ∷ begins) t = t
true-drop (false ∷ begins) t = absurd t

-- then each group has one unit
true-single : (units : List ℕ) (begins : List Bool) → AreTrue begins → are_single (groups_from units begins) ≡ true
true-single [] begins t = refl
true-single (unit ∷ units) [] t = alone_single unit units
true-single (unit ∷ units) (true ∷ begins) t = single_put unit (groups_from units begins) ∙ true-single units begins t
true-single (unit ∷ units) (false ∷ begins) t = absurd t

row-single : (row : AtomList) → AreTrue row.begins → are_single (groups_from row.members (drop 1 row.begins)) ≡ true
row-single row t = true-single row.members (drop 1 row.begins) (true-drop row.begins t)

-- what records give that are no groups
singles-true : (units : List ℕ) → AreTrue (flat_map begins_of (map (λ (unit : ℕ). unit ∷ []) units))
singles-true [] = tt
singles-true (unit ∷ units) = singles-true units

record-true : (units atoms : List (List ℕ)) (j : ℕ) (r : Record) → IsUngrouped r → AreTrue (flat_map begins_of (groups_for units atoms j r))
record-true units atoms j (rec.Prefer at atom list) plain = by (place_or_zero atoms atom == j)
  where
    by : (here : Bool) → AreTrue (flat_map begins_of (if here then map (λ (unit : ℕ). unit ∷ []) (places_of units list) else []))
    by true = singles-true (places_of units list)
    by false = tt
record-true units atoms j (rec.Group at atom list) plain = absurd plain
record-true units atoms j (rec.Version at number) plain = tt
record-true units atoms j (rec.LineIs at line) plain = tt
record-true units atoms j (rec.RuleIs at rule) plain = tt
record-true units atoms j (rec.Period at seconds) plain = tt
record-true units atoms j (rec.UnitIs at name rate) plain = tt
record-true units atoms j (rec.AtomIs at name rate x y unit) plain = tt
record-true units atoms j (rec.Travel at origin target seconds) plain = tt
record-true units atoms j (rec.Located at unit atom thousandths) plain = tt
record-true units atoms j (rec.Crews at unit count) plain = tt

given-true : (units atoms : List (List ℕ)) (j : ℕ) (records : List Record) → All IsUngrouped records
    → AreTrue (row_of_groups (given_groups units atoms records j)).begins
given-true units atoms j [] plain = tt
given-true units atoms j (r ∷ records) plain =
    rw (flat_map-append begins_of (groups_for units atoms j r) (given_groups units atoms records j))
    (true-append (flat_map begins_of (groups_for units atoms j r)) (flat_map begins_of (given_groups units atoms records j))
    (record-true units atoms j r (All-head IsUngrouped r records plain))
    (given-true units atoms j records (All-tail IsUngrouped r records plain)))

given-single : (units atoms : List (List ℕ)) (records : List Record) (j : ℕ) → All IsUngrouped records → j < length atoms
    → are_single (groups_in (given_lists units atoms records) j) ≡ true
given-single units atoms records j plain lt =
    let row : row_of (given_lists units atoms records) j ≡ row_of_groups (given_groups units atoms records j) =
    get_or-map-range_with_len (λ k. row_of_groups (given_groups units atoms records k)) 0 (length atoms) j j no_row lt (omega arith) in
    let P : AtomList → Type 0 = λ r. are_single (groups_from r.members (drop 1 r.begins)) ≡ true in
    subst P (sym row) (row-single (row_of_groups (given_groups units atoms records j)) (given-true units atoms j records plain))

centred-single : (rule : Rule) (units : ℕ) (atoms : List Atom) (located : Grid) (j : ℕ) → j < length atoms
    → are_single (groups_in (centred_lists rule units atoms located) j) ≡ true
centred-single rule units atoms located j lt =
    let row : row_of (centred_lists rule units atoms located) j ≡ centred_row rule units atoms located (get_or atoms j no_atom) =
    get_or-map (centred_row rule units atoms located) atoms j no_atom no_row lt in
    let P : AtomList → Type 0 = λ r. are_single (groups_from r.members (drop 1 r.begins)) ≡ true in
    subst P (sym row) (row-single (centred_row rule units atoms located (get_or atoms j no_atom))
    (true-replicate (length (centred_row rule units atoms located (get_or atoms j no_atom)).members)))

-- the lists of records without a group: each group has one unit
pub single_lists : (rule : Rule) (entries : Entries) (located : Grid) (records : List Record) (lists : GroupLists) → All IsUngrouped records
    → preferences_of rule entries located records ≡ Ok lists → (j : ℕ) → j < length entries.atoms
    → are_single (groups_in lists j) ≡ true
single_lists rule.Given entries located records lists plain given j lt =
    let same : length (atom_names entries.atoms) ≡ length entries.atoms = length-map entries.atoms (λ (a : Atom). a.name) in
    let is = (given_ok (unit_names entries.units) (atom_names entries.atoms) records lists given).1 in
    rw is (given-single (unit_names entries.units) (atom_names entries.atoms) records j plain (omega (arith, same)))
single_lists rule.Strict entries located records lists plain given j lt =
    rw (centred_ok rule.Strict entries located records lists given) (centred-single rule.Strict (length entries.units) entries.atoms located j lt)
single_lists rule.Modified entries located records lists plain given j lt =
    rw (centred_ok rule.Modified entries located records lists given) (centred-single rule.Modified (length entries.units) entries.atoms located j lt)
