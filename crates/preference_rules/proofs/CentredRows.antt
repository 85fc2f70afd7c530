-- The lists of the first atoms, each with its units in order.
use Rattle.std.proofs.Common.{◌≡◌, ◌∙◌, ℕ, ◌+◌, ◌<◌, true, List, length, get_or, replicate, set, refl, sym, ap}
use Rattle.std.specs.Prelude.{Some, slice_get}
use Rattle.std.proofs.lemmas.Option.{get_or_from_slice_get}
use Rattle.hyper_model.specs.Grid.{Grid}
use Rattle.hyper_model.specs.Groups.{AtomList, GroupLists, no_row, row_of}
use Rattle.hyper_model.specs.declared.kinds.Rule.{Rule}
use Rattle.hyper_model.specs.declared.parts.Atom.{Atom}
use Rattle.preference_rules.specs.CentreOrder.{centre_list}
use Rattle.preference_rules.specs.Centred.{centred_row}
use Rattle.preference_rules.specs.Rows.{with_members}
use Rattle.preference_rules.specs.Places.{cost_of}
use Rattle.preference_rules.proofs.CentreLists.{length-centre_list}
use Rattle.preference_rules.proofs.ListRows.{blank_at, made_more, made_rows}

abbrev pub blank_row : ℕ → AtomList
blank_row units = record { members = replicate units 0; begins = replicate units true }

-- the lists after those of the first j atoms are made
abbrev pub centred_first : Rule → ℕ → List Atom → Grid → ℕ → GroupLists
centred_first rule units atoms located j =
    record { units = units; rows = made_rows (centred_row rule units atoms located) (blank_row units) atoms j }

pub centred_more : (rule : Rule) (units : ℕ) (atoms : List Atom) (located : Grid) (j : ℕ) (atom : Atom) (order : List ℕ)
    → j < length atoms → slice_get atoms j ≡ Some atom
    → order ≡ centre_list (cost_of rule atoms located atom) atom.district units
    → with_members (centred_first rule units atoms located j) j order ≡ centred_first rule units atoms located (j + 1)
centred_more rule units atoms located j atom order lt read is =
    let blank : row_of (centred_first rule units atoms located j) j ≡ blank_row units =
    blank_at (centred_row rule units atoms located) (blank_row units) no_row atoms j lt in
    let long : length order ≡ units =
    ap (λ (list : List ℕ). length list) is ∙ length-centre_list (cost_of rule atoms located atom) atom.district units in
    let whole : record (blank_row units) { members = order } ≡ centred_row rule units atoms located atom =
    rw (sym is, long) refl in
    let there : get_or atoms j atom ≡ atom = get_or_from_slice_get atoms j atom atom read in
    let rest = made_more (centred_row rule units atoms located) (blank_row units) atoms j atom lt there in
    let wrap : List AtomList → GroupLists = λ rows. record { units = units; rows = rows } in
    ap (λ (row : AtomList). wrap (set (made_rows (centred_row rule units atoms located) (blank_row units) atoms j) j
    (record row { members = order }))) blank
    ∙ ap (λ (row : AtomList). wrap (set (made_rows (centred_row rule units atoms located) (blank_row units) atoms j) j row)) whole
    ∙ ap wrap rest
