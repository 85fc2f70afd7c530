use Rattle.std.proofs.Common.{◌≢◌, ℕ, ◌<◌}
use Rattle.hyper_model.specs.Solutions.{mass_in}
use Rattle.state_certificate.specs.Certificates.{IsDrainedState, IsFedState}
use Rattle.state_certificate.proofs.checking.is_certificate.Given as goal

abbrev pub invariant-loop-state : goal.invariant-loop-state
invariant-loop-state g l =
    (j : ℕ) → j < l.state → j ≢ l.reference
    → IsFedState (g.F.Flows.states l.flows) (g.F.Flows.rates l.flows) (mass_in l.low) j
    × IsDrainedState (g.F.Flows.states l.flows) (g.F.Flows.rates l.flows) (mass_in l.high) j
