use Rattle.back_solve.proofs.NextWeight.{next_weight_fits}
use Rattle.back_solve.proofs.WeightLists.{weights_enclose, weights_in_range}
use Rattle.back_solve.proofs.law_weights.Goals as goal

pub returns : goal.returns
returns c = record { encloses = weights_enclose; in_range = weights_in_range; next = next_weight_fits }
