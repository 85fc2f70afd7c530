use Rattle.std.proofs.Common.{◌≡◌, ℕ, ◌<◌, length}
use Rattle.rate_matrix.specs.Bands.{entry}
use Rattle.rate_matrix.specs.Elimination.{part_to}
use Rattle.rate_matrix.specs.Rows.{part_in}
use Rattle.state_reduction.proofs.parts.fill_parts.Given as goal

abbrev pub invariant-loop-j : goal.invariant-loop-j
invariant-loop-j l = record {
  count : length l.scratch ≡ length l.initial.scratch;
  parts : (k : ℕ) → k < l.j → part_in l.scratch k ≡ part_to (entry l.m) l.state k;
}
