-- What the checks of a plan's parts find, said of the plan.
use Rattle.std.proofs.Common.{◌≡◌, ℕ, ◌<◌, ◌↔◌, ◌∙◌, ap, sym, subst, Some, List, [], length, drop}
use Rattle.std.specs.Prelude.{slice_get, slice_index_or}
use Rattle.std.proofs.lemmas.List.{get_or-map}
use Rattle.std.proofs.lemmas.Option.{get_or_from_slice_get, slice_get_within}
use Rattle.hyper_model.specs.declared.parts.PlanParts.{PlanParts}
use Rattle.hyper_model.specs.Groups.{GroupLists, row_of, list_of, groups_in, IsGrouped}
use Rattle.hyper_model.specs.Plans.{HasLists}
use Rattle.hyper_model.specs.Acceptance.{HaveOwnNames, name_at, IsFullList, HasListSizes, AreGrouped}
use Rattle.hyper_model.proofs.Grouping.{grouped_from, from_grouped}

-- the name that was read at this place
pub name_read : {A : Type 0} (name : A → List ℕ) (things : List A) (k : ℕ) (thing : A) → slice_get things k ≡ Some thing
    → name_at name things k ≡ name thing
name_read name things k thing h =
    get_or-map name things k thing [] (slice_get_within things k thing h) ∙ ap name (get_or_from_slice_get things k thing thing h)

-- names are different whether they are taken from the list of names, or from the things, past whose last one stands `none`
pub own_names : {A : Type 0} (name : A → List ℕ) (none : A) (things : List A) → HaveOwnNames (length things) (name_at name things)
    ↔ HaveOwnNames (length things) (λ k. name (slice_index_or things k none))
own_names name none things = (
  λ own i j li lj e. own i j li lj (at i li ∙ e ∙ sym (at j lj)),
  λ own i j li lj e. own i j li lj (sym (at i li) ∙ e ∙ at j lj),
)
  where
    at : (k : ℕ) → k < length things → name_at name things k ≡ name (slice_index_or things k none)
    at k lt = get_or-map name things k none [] lt

-- the groups of an atom hold each unit once exactly if its list does
pub grouped_at : (lists : GroupLists) (atom n : ℕ) (list : List ℕ) → n ≡ lists.units → list ≡ list_of lists atom
    → IsFullList n list → IsGrouped lists.units (groups_in lists atom)
grouped_at lists atom n list e g h =
    grouped_from lists.units (list_of lists atom) (drop 1 (row_of lists atom).begins) (rw (e, g) at h)

pub full_at : (lists : GroupLists) (atom n : ℕ) (list : List ℕ) → n ≡ lists.units → list ≡ list_of lists atom
    → IsGrouped lists.units (groups_in lists atom) → IsFullList n list
full_at lists atom n list e g h =
    rw (e, g) (from_grouped lists.units (list_of lists atom) (drop 1 (row_of lists atom).begins) h)

-- a list for each atom is as many lists as there are
pub has_lists_from : (p : PlanParts) → HasListSizes p → AreGrouped p.lists (length p.lists.rows) → HasLists p
has_lists_from p s h = record {
  one_each = s.one_each;
  width = s.width;
  grouped = λ j l. rw (← s.width) (h j (rw s.one_each l));
}

pub sizes_from : (p : PlanParts) → HasLists p → HasListSizes p
sizes_from p h = record { one_each = h.one_each; width = h.width }

pub grouped_all : (p : PlanParts) → HasLists p → AreGrouped p.lists (length p.lists.rows)
grouped_all p h j l =
    subst (λ n. IsGrouped n (groups_in p.lists j)) (sym h.width) (h.grouped j (rw (← h.one_each) l))
