use Rattle.std.proofs.Common.{◌∙◌, ap, refl, get_or, arith}
use Rattle.hyper_model.specs.Groups.{GroupLists, no_row, with_member}
use Rattle.preference_rules.proofs.ListRows.{put-all, put-more}
use Rattle.preference_rules.proofs.rows.put_members.Goals as goal

pub loop-place-preserved : goal.loop-place-preserved
loop-place-preserved c =
    let one_each = c.units-place-end.ensures.regular.members c.args.atom no_row c.requires.atom in
    c.set.ensures
    ∙ ap (λ (rows : GroupLists). with_member rows c.args.atom c.loop-place.place (get_or c.args.members.now c.loop-place.place 0)) c.loop-place.invariant
    ∙ put-more c.args.lists.now c.args.atom c.loop-place.place (get_or c.args.members.now c.loop-place.place 0) c.args.members.now
    c.requires.atom (omega arith) (omega (arith, one_each)) refl

pub returns : goal.returns
returns c =
    let one_each = c.units-place-end.ensures.regular.members c.args.atom no_row c.requires.atom in
    c.loop-place.invariant
    ∙ put-all c.args.lists.now c.args.atom c.loop-place.place c.args.members.now (omega arith) (omega (arith, one_each))
