use Rattle.std.proofs.Common.{◌≡◌}
use Rattle.preference_rules.proofs.GivenRows.{drafts_first}
use Rattle.preference_rules.proofs.given.draft_lists.Given as goal

abbrev pub invariant-loop-j : goal.invariant-loop-j
invariant-loop-j l = l.lists ≡ drafts_first l.units l.drafts.items l.j
