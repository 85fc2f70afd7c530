use Rattle.state_reduction.proofs.Soundness.{is_determined}
use Rattle.state_reduction.proofs.law_determined.Goals as goal

pub returns : goal.returns
returns c = is_determined
