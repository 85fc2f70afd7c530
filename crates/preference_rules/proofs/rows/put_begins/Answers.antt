use Rattle.std.proofs.Common.{◌∙◌, ◌<◌, false, true, get_or, length, arith}
use Rattle.std.proofs.lemmas.List.{get_or_default}
use Rattle.preference_rules.proofs.GivenRows.{begins-more}
use Rattle.preference_rules.proofs.rows.put_begins.Goals as goal

pub loop-place-preserved : goal.loop-place-preserved
loop-place-preserved c =
    let inside : c.loop-place.place < length c.args.begins.now = omega (arith, c.requires.begins, c.units-place-end.ensures.units) in
    let written = rw c.loop-place.invariant at c.join_unless.ensures in
    written
    ∙ begins-more c.args.lists.now c.args.atom c.loop-place.place c.args.begins.now (get_or c.args.begins.now c.loop-place.place false)
    c.requires.atom (omega arith) c.requires.begins (get_or_default c.args.begins.now c.loop-place.place true false inside)
