-- The preference lists that follow from where units and calls are.
use Rattle.std.specs.Prelude.{ℕ, true, List, length, map, replicate}
use Rattle.hyper_model.specs.Grid.{Grid}
use Rattle.hyper_model.specs.Groups.{AtomList, GroupLists}
use Rattle.hyper_model.specs.declared.kinds.Rule.{Rule}
use Rattle.hyper_model.specs.declared.parts.Atom.{Atom}
use Rattle.preference_rules.specs.CentreOrder.{centre_list}
use Rattle.preference_rules.specs.Places.{cost_of}

-- units in order, each in a group of its own
abbrev pub plain_list : List ℕ → AtomList
plain_list units = record { members = units; begins = replicate (length units) true }

-- an atom's list of so many units, the nearest first
abbrev pub centred_row : Rule → ℕ → List Atom → Grid → Atom → AtomList
centred_row rule units atoms located atom =
    plain_list (centre_list (cost_of rule atoms located atom) atom.district units)

abbrev pub centred_lists : Rule → ℕ → List Atom → Grid → GroupLists
centred_lists rule units atoms located = record { units = units; rows = map (centred_row rule units atoms located) atoms }
