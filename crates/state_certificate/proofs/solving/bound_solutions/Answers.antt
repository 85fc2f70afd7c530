use Rattle.std.proofs.Common.{refl}
use Rattle.hyper_model.specs.Solutions.{mass_in}
use Rattle.state_certificate.proofs.MaximumPrinciple.{certificates_bound}
use Rattle.state_certificate.proofs.solving.bound_solutions.Goals as goal

pub returns-then-certify-clause-bounds : goal.returns-then-certify-clause-bounds
returns-then-certify-clause-bounds g c =
    certificates_bound (g.F.Flows.states c.args.flows.now) (g.F.Flows.rates c.args.flows.now)
    (mass_in c.certify.new.low) (mass_in c.certify.new.high)
    (record { reference = c.heaviest-reference.result.0; holds = c.if-certify.ensures.certified refl })
