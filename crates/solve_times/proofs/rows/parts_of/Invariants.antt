use Rattle.std.proofs.Common.{◌≡◌, ℕ, ◌<◌, length}
use Rattle.fixed_interval.specs.Ends.{exact_ends}
use Rattle.rate_matrix.specs.Bands.{IsKept}
use Rattle.rate_matrix.specs.Rows.{part_in}
use Rattle.solve_times.proofs.rows.parts_of.Given as goal

abbrev pub invariant-loop-j : goal.invariant-loop-j
invariant-loop-j l = record {
  count : length l.parts.items ≡ l.j;
  kept : (k : ℕ) → k < l.j → ¬ IsKept l.m l.state k → part_in l.parts.items k ≡ exact_ends 0;
}
