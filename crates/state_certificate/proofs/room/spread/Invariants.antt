use Rattle.std.proofs.Common.{ℕ, ◌^◌, ◌<◌, ◌≤◌}
use Rattle.std.specs.Prelude.{slice_index}
use Rattle.state_certificate.specs.Masses.{AreMasses}
use Rattle.state_certificate.proofs.room.spread.Given as goal

abbrev pub invariant-loop-state : goal.invariant-loop-state
invariant-loop-state g l =
    AreMasses (g.F.Flows.states l.flows) (2 ^ 62) l.low
    × AreMasses (g.F.Flows.states l.flows) (2 ^ 62) l.high
    × ((k : ℕ) → k < l.state → slice_index l.low k ≤ slice_index l.high k)
