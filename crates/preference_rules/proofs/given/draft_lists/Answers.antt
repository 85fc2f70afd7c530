use Rattle.std.proofs.Common.{◌∙◌, ap, sym, arith}
use Rattle.hyper_model.specs.Groups.{GroupLists}
use Rattle.preference_rules.specs.Rows.{with_row}
use Rattle.preference_rules.proofs.GivenRows.{drafts_more}
use Rattle.preference_rules.proofs.given.draft_lists.Goals as goal

pub loop-j-preserved : goal.loop-j-preserved
loop-j-preserved c =
    c.put_row.ensures
    ∙ ap (λ (rows : GroupLists). with_row rows c.loop-j.j c.members.result.now c.begins.result.now) c.loop-j.invariant
    ∙ drafts_more c.args.units c.args.drafts.now.items c.loop-j.j c.index-draft.result.now c.members.result.now c.begins.result.now
    (omega arith) (sym c.index-draft.ensures) c.members.ensures c.begins.ensures
