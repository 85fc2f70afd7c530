use Rattle.std.proofs.Common.{◌≡◌, drop, length, take}
use Rattle.plan_text.specs.Steps.{first_over}
use Rattle.preference_rules.specs.Drafts.{draft_refusal, drafts_refusal}
use Rattle.preference_rules.proofs.given.check_drafts.Given as goal

abbrev pub invariant-loop-j : goal.invariant-loop-j
invariant-loop-j l =
    first_over (λ before. draft_refusal l.units (length before)) (take l.j l.drafts.items) (drop l.j l.drafts.items)
    ≡ drafts_refusal l.units l.drafts.items
