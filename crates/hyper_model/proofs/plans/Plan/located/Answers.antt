use Rattle.std.proofs.Common.{arith, ◌<◌}
use Rattle.hyper_model.specs.Plans.{units, atoms}
use Rattle.hyper_model.proofs.PlanSums.{located_within}
use Rattle.hyper_model.proofs.plans.Plan.located.Goals as goal

pub returns-clause-most : goal.returns-clause-most
returns-clause-most c =
    let unit : c.args.n < units c.self.inside.parts = rw c.self.view_is c.requires.unit in
    let atom : c.args.k < atoms c.self.inside.parts = rw c.self.view_is c.requires.atom in
    omega (arith, c.get.ensures, located_within c.self.inside.parts c.self.invariant.accepted c.args.n c.args.k unit atom)
