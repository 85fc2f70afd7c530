use Rattle.std.proofs.Common.{◌≡◌, ◌+◌}
use Rattle.hyper_model.specs.Solutions.{mass_in}
use Rattle.station_flows.specs.CertifiedStates.{weights_between}
use Rattle.station_flows.proofs.weighing.push_states.Given as goal

abbrev pub invariant-loop-state : goal.invariant-loop-state
invariant-loop-state l = record {
  items : l.weights.items ≡ weights_between (mass_in l.low) (mass_in l.high) l.state;
  spare : l.weights.spare + l.state ≡ l.initial.weights.spare;
}
