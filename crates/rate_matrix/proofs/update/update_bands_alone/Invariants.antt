use Rattle.std.proofs.Common.{◌≡◌, ℕ, ◌<◌, ◌≤◌, slice_index_or}
use Rattle.rate_matrix.specs.Bands.{no_band}
use Rattle.rate_matrix.specs.Rows.{IsUpdated}
use Rattle.rate_matrix.proofs.update.update_bands_alone.Given as goal

abbrev pub invariant-loop-level : goal.invariant-loop-level
invariant-loop-level g l = record {
  done : (k : ℕ) → k < l.level → IsUpdated l.elimination (slice_index_or l.initial.bands k no_band) (slice_index_or l.bands k no_band);
  rest : (k : ℕ) → l.level ≤ k → slice_index_or l.bands k no_band ≡ slice_index_or l.initial.bands k no_band;
}
