use Rattle.std.proofs.Common.{◌≡◌, length}
use Rattle.std.specs.Prelude.{find, not}
use Rattle.std.specs.List.{range_with_len}
use Rattle.atom_table.specs.Pairs.{is_known}
use Rattle.atom_table.proofs.FirstBelow.{numbers_from}
use Rattle.atom_table.proofs.pair_values.PairValues.first_gap.Given as goal

abbrev pub invariant-loop-pair : goal.invariant-loop-pair
invariant-loop-pair l =
    find (λ pair. not (is_known l.self pair)) (numbers_from l.pair (length l.self.known))
    ≡ find (λ pair. not (is_known l.self pair)) (range_with_len 0 (length l.self.known))
