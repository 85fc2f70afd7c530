use Rattle.std.proofs.Common.{rules}
use Rattle.atom_table.proofs.GivenValues.{pair_table_of-none}
use Rattle.atom_table.proofs.pair_values.PairValues.of.Goals as goal

pub returns : goal.returns
returns c =
    let none = c.in_ok-vec.ensures.items_if_clones_equal (λ y clone. search rules) in
    rw c.in_ok-of.ensures (pair_table_of-none c.args.rows c.args.cols c.in_ok-vec.field-0.items none)
