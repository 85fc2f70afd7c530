use Rattle.std.proofs.Common.{rules}
use Rattle.std.proofs.lemmas.Result.{IfOk-weaker}
use Rattle.dispatch_fractions.specs.Fractions.{fraction_of}
use Rattle.dispatch_fractions.proofs.fraction_list.push_unit.Goals as goal

pub returns-clause-exact : goal.returns-clause-exact
returns-clause-exact c =
    IfOk-weaker c.push_each.result _ _
    (λ _ exact. let is = exact (fraction_of c.args.plan.now c.args.parts.now c.args.unit) (λ i e l h. search rules) in
    rw c.atoms.ensures.atoms at is)
    c.push_each.ensures.exact
