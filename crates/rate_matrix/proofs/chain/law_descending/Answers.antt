use Rattle.std.proofs.Common.{arith}
use Rattle.hyper_model.proofs.Chains.{has_table_solution, is_first_positive, are_proportional}
use Rattle.rate_matrix.proofs.chain.law_descending.Goals as goal

pub returns : goal.returns
returns g c = record {
  exists = has_table_solution _ _ (omega arith) c.size-size.ensures.descends;
  first = is_first_positive _ _ c.size-size.ensures.descends;
  proportion = are_proportional _ _ c.size-size.ensures.descends;
}
