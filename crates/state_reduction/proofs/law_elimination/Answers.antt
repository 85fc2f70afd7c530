use Rattle.state_reduction.proofs.Runs.{holds_every_solution}
use Rattle.state_reduction.proofs.law_elimination.Goals as goal

pub returns : goal.returns
returns c = holds_every_solution
