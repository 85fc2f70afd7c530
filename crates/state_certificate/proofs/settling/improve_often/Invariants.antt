use Rattle.std.proofs.Common.{◌^◌}
use Rattle.state_certificate.specs.Masses.{AreMasses}
use Rattle.state_certificate.proofs.settling.improve_often.Given as goal

abbrev pub invariant-loop : goal.invariant-loop
invariant-loop g l = AreMasses (g.F.Flows.states l.flows) (2 ^ 61) l.masses
