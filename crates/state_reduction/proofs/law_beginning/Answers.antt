use Rattle.state_reduction.proofs.Reductions.{matrices_begin}
use Rattle.state_reduction.proofs.law_beginning.Goals as goal

pub returns : goal.returns
returns c = matrices_begin
