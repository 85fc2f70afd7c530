use Rattle.std.proofs.Common.{◌∙◌, ℕ, List, ap, sym, arith, length}
use Rattle.hyper_model.specs.Groups.{GroupLists}
use Rattle.preference_rules.specs.Rows.{with_members}
use Rattle.preference_rules.specs.CentreOrder.{centre_list}
use Rattle.preference_rules.specs.Places.{cost_of}
use Rattle.preference_rules.proofs.CentredRows.{centred_more}
use Rattle.preference_rules.proofs.CentreLists.{length-centre_list}
use Rattle.preference_rules.proofs.centre.centred.Goals as goal

pub put_members-requires-clause-members : goal.put_members-requires-clause-members
put_members-requires-clause-members c =
    let width = ap (λ (rows : GroupLists). rows.units) c.loop-j.invariant in
    let long = ap (λ (list : List ℕ). length list) (c.deref.ensures.value ∙ c.in_ok-order.ensures) in
    long
    ∙ length-centre_list (cost_of c.args.rule c.args.atoms.now c.args.located.now c.get.result.now) c.get.result.now.district c.args.located.now.rows
    ∙ c.requires.units
    ∙ sym width

pub loop-j-preserved : goal.loop-j-preserved
loop-j-preserved c =
    let order = c.deref.ensures.value ∙ c.in_ok-order.ensures in
    let same = ap (λ (n : ℕ). centre_list (cost_of c.args.rule c.args.atoms.now c.args.located.now c.get.result.now) c.get.result.now.district n)
    c.requires.units in
    c.put_members.ensures
    ∙ ap (λ (rows : GroupLists). with_members rows c.loop-j.j c.deref.result.now) c.loop-j.invariant
    ∙ centred_more c.args.rule (length c.args.units.now) c.args.atoms.now c.args.located.now c.loop-j.j c.get.result.now c.deref.result.now
    (omega arith) c.get.ensures (order ∙ same)
