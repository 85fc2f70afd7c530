use Rattle.std.proofs.Common.{◌∙◌, ℕ, List, ap}
use Rattle.hyper_model.specs.Acceptance.{places_in}
use Rattle.preference_rules.proofs.FullLists.{holds_each-fails}
use Rattle.preference_rules.proofs.draft.holds_each.Goals as goal

pub returns-then-places_of-ne1 : goal.returns-then-places_of-ne1
returns-then-places_of-ne1 c =
    holds_each-fails c.args.units c.loop-unit.unit c.places_of.result c.args.list.now.items c.loop-unit-test.true
    (c.places_of.ensures ∙ ap (λ (list : List ℕ). places_in list c.loop-unit.unit) c.deref.ensures.value) c.if-places_of-ne1.true
