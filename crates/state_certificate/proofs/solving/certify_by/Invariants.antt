use Rattle.std.proofs.Common.{◌^◌}
use Rattle.state_certificate.specs.Masses.{AreMasses, AreOrdered}
use Rattle.state_certificate.proofs.solving.certify_by.Given as goal

abbrev pub invariant-loop : goal.invariant-loop
invariant-loop g l = AreMasses (g.F.Flows.states l.flows) (2 ^ 61) l.room × AreOrdered (g.F.Flows.states l.flows) (2 ^ 62) l.low l.high
