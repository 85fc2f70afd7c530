use Rattle.std.proofs.Common.{◌≡◌, replicate}
use Rattle.preference_rules.specs.Drafts.{no_draft}
use Rattle.preference_rules.proofs.given.no_drafts.Given as goal

abbrev pub invariant-loop-j : goal.invariant-loop-j
invariant-loop-j l = l.drafts.items ≡ replicate l._j no_draft
