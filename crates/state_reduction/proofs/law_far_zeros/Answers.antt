use Rattle.state_reduction.proofs.FarZeros.{zeros_stay}
use Rattle.state_reduction.proofs.law_far_zeros.Goals as goal

pub returns : goal.returns
returns c = zeros_stay
