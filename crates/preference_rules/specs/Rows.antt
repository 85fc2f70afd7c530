-- Lists with the list of one atom written anew.
use Rattle.std.specs.Prelude.{ℕ, Bool, List, slice_set}
use Rattle.hyper_model.specs.Groups.{GroupLists, row_of}

-- the lists with these units at the places of an atom's list
abbrev pub with_members : GroupLists → ℕ → List ℕ → GroupLists
with_members lists atom members = record lists {
  rows = slice_set lists.rows atom (record (row_of lists atom) { members = members });
}

-- the lists with groups that begin at these places of an atom's list
abbrev pub with_begins : GroupLists → ℕ → List Bool → GroupLists
with_begins lists atom begins = record lists {
  rows = slice_set lists.rows atom (record (row_of lists atom) { begins = begins });
}

-- the lists with both
abbrev pub with_row : GroupLists → ℕ → List ℕ → List Bool → GroupLists
with_row lists atom members begins = record lists {
  rows = slice_set lists.rows atom (record { members = members; begins = begins });
}
