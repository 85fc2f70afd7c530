use Rattle.back_solve.proofs.WeightLists.{are_determined, depend_on_entries}
use Rattle.back_solve.proofs.law_weights_determined.Goals as goal

pub returns : goal.returns
returns c = record { one = are_determined; entries = depend_on_entries }
