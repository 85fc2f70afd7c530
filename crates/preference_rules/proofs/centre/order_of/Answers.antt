use Rattle.std.proofs.Common.{◌∙◌, ◌≡◌, ℕ, List, ap, subst, length}
use Rattle.std.specs.Prelude.{IfOk, slice_index}
use Rattle.preference_rules.specs.CentreOrder.{centre_list}
use Rattle.preference_rules.specs.Places.{cost_of}
use Rattle.preference_rules.proofs.CentreLists.{centre_list-same}
use Rattle.preference_rules.proofs.centre.order_of.Goals as goal

pub returns : goal.returns
returns c =
    let costs = cost_of c.args.rule c.args.atoms.now c.args.located.now c.args.atom.now in
    let number = ap (λ (list : List ℕ). length list) c.deref.ensures.value ∙ c.in_ok-costs.ensures.number in
    let read = ap (λ (list : List ℕ). centre_list (slice_index list) c.args.atom.now.district (length c.deref.result.now)) c.deref.ensures.value in
    let many = ap (λ (n : ℕ). centre_list (slice_index c.in_ok-costs.costs.items) c.args.atom.now.district n) number in
    let same = centre_list-same (slice_index c.in_ok-costs.costs.items) costs c.args.atom.now.district c.args.located.now.rows
    c.in_ok-costs.ensures.costs in
    let P : List ℕ → Type 0 = λ list. IfOk c.centre_list.result (λ order. order.items ≡ list) in
    subst P (read ∙ many ∙ same) c.centre_list.ensures
