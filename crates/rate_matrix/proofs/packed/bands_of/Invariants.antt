use Rattle.rate_matrix.specs.LevelBands.{AreBandsOf}
use Rattle.rate_matrix.proofs.packed.bands_of.Given as goal

abbrev pub invariant-loop-level : goal.invariant-loop-level
invariant-loop-level l = AreBandsOf l.levels l.level l.bands.items
