use Rattle.std.proofs.Common.{◌^◌}
use Rattle.state_certificate.specs.Masses.{AreMasses}
use Rattle.state_certificate.proofs.room.make_room.Given as goal

abbrev pub invariant-loop-state : goal.invariant-loop-state
invariant-loop-state g l = AreMasses (g.F.Flows.states l.flows) (2 ^ 61) l.room
