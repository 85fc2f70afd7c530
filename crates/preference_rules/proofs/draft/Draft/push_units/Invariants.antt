use Rattle.std.proofs.Common.{◌≡◌, take}
use Rattle.atom_table.specs.Entries.{unit_names}
use Rattle.preference_rules.specs.Drafts.{with_units}
use Rattle.preference_rules.specs.Lists.{places_of}
use Rattle.preference_rules.proofs.draft.Draft.push_units.Given as goal

abbrev pub invariant-loop-place : goal.invariant-loop-place
invariant-loop-place l = l.self ≡ with_units l.fn.self (places_of (unit_names l.names.units) (take l.place l.units)) l.are_single
