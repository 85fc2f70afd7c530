use Rattle.std.proofs.Common.{◌≡◌, drop, take}
use Rattle.plan_text.specs.Steps.{first_over}
use Rattle.preference_rules.specs.Given.{asked_records_refusal, asked_refusal}
use Rattle.preference_rules.proofs.given.refuse_lists.Given as goal

abbrev pub invariant-loop-item : goal.invariant-loop-item
invariant-loop-item l =
    first_over (λ before. asked_refusal) (take l.item-index l.records) (drop l.item-index l.records) ≡ asked_records_refusal l.records
