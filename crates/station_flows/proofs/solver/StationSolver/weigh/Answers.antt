use Rattle.std.proofs.Common.{subst}
use Rattle.station_flows.specs.CertifiedStates.{EncloseEverySolution}
use Rattle.station_flows.proofs.solver.StationSolver.weigh.Goals as goal

pub returns-clause-encloses : goal.returns-clause-encloses
returns-clause-encloses c =
    subst (λ s. EncloseEverySolution s c.weigh_states-is_certified.new.weights.items) c.self.view_is
    c.weigh_states-is_certified.ensures.encloses
