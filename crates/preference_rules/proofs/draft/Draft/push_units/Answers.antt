use Rattle.std.proofs.Common.{◌∙◌, ℕ, ap, take}
use Rattle.std.specs.Prelude.{Option, unwrap_or}
use Rattle.atom_table.specs.Entries.{unit_names}
use Rattle.preference_rules.specs.Drafts.{Draft, with_next, with_units}
use Rattle.preference_rules.specs.Lists.{places_of}
use Rattle.preference_rules.proofs.DraftSteps.{units-taken}
use Rattle.preference_rules.proofs.draft.Draft.push_units.Goals as goal

pub loop-place-preserved : goal.loop-place-preserved
loop-place-preserved c =
    let taken : Draft =
    with_units c.args.self.now (places_of (unit_names c.args.names.now.units) (take c.loop-place.place c.args.units.now))
    c.args.are_single in
    let unit = c.unwrap_or-unit.ensures ∙ ap (λ (o : Option ℕ). unwrap_or o 0) c.unit_of.ensures.place in
    c.in_ok-push.ensures
    ∙ ap (λ (draft : Draft). with_next draft c.unwrap_or-unit.result c.begins_at.result) c.loop-place.invariant
    ∙ ap (with_next taken c.unwrap_or-unit.result) c.begins_at.ensures
    ∙ units-taken c.args.self.now c.args.are_single (unit_names c.args.names.now.units) c.args.units.now c.loop-place.place
    c.get.result.now c.unwrap_or-unit.result c.get.ensures unit
