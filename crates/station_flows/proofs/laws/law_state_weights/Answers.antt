use Rattle.station_flows.proofs.Enclosing.{certified_enclose}
use Rattle.station_flows.proofs.laws.law_state_weights.Goals as goal

pub returns : goal.returns
returns c = certified_enclose
