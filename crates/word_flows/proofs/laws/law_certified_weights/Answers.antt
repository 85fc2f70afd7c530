use Rattle.word_flows.proofs.Enclosing.{certified_encloses}
use Rattle.word_flows.proofs.laws.law_certified_weights.Goals as goal

pub returns : goal.returns
returns c = certified_encloses
