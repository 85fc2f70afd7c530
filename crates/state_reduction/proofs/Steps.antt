-- One elimination: the ends stay in order and under the caps, and what leads to earlier states stays.
use Rattle.std.proofs.Common.{◌≢◌, ℕ, ◌<◌, ◌≤◌, inl, inr, arith}
use Rattle.std.proofs.lemmas.Bool.{cases_lt}
use Rattle.fixed_interval.specs.Ends.{Ends}
use Rattle.hyper_model.proofs.Sums.{sum-le}
use Rattle.rate_matrix.specs.Elimination.{Entries, IsLive, IsWithin, entries_after, part_to, raised_entry}
use Rattle.rate_matrix.proofs.Raising.{entries_after-before, entries_after-from, entries_after-to, part_to-ordered, raised_entry-capped, raised_entry-grows, raised_entry-ordered}

-- what holds of an entry, if it stays and if it is raised
pub at_entry : (P : Ends → Type 0) (entries : Entries) (caps : ℕ → ℕ) (t i j : ℕ) → i ≢ j → P (entries i j)
    → (i < t → j < t → P (raised_entry (entries i j) (entries i t) (part_to entries t j) (caps i)))
    → P (entries_after entries caps t i j)
at_entry P entries caps t i j apart stays changes = elim (cases_lt i t) [
  | inl row ↦ elim (cases_lt j t) [
    | inl column ↦ rw (entries_after-before entries caps t i j row column apart) (changes row column)
    | inr after ↦ rw (entries_after-to entries caps t i j (omega arith)) stays
  ]
  | inr after ↦ rw (entries_after-from entries caps t i j (omega arith)) stays
]

-- the ends stay in order and under the caps
pub entries_after-within : (size : ℕ) (caps : ℕ → ℕ) (entries : Entries) (t : ℕ) → t < size → IsWithin size caps entries
    → IsWithin size caps (entries_after entries caps t)
entries_after-within size caps entries t alive within = record {
  ordered = λ i j row column apart.
      at_entry (λ e. e.lo ≤ e.hi) entries caps t i j apart (within.ordered i j row column apart) (λ before next.
      raised_entry-ordered (entries i j) (entries i t) (part_to entries t j) (caps i) (within.ordered i j row column apart)
      (within.ordered i t row alive (omega arith))
      (part_to-ordered entries t j next (λ k l. within.ordered t k alive (omega arith) (omega arith))));
  capped = λ i j row column apart.
      at_entry (λ e. e.hi ≤ caps i) entries caps t i j apart (within.capped i j row column apart) (λ before next.
      raised_entry-capped (entries i j) (entries i t) (part_to entries t j) (caps i));
}

-- no low end falls
pub entries_after-grows : (size : ℕ) (caps : ℕ → ℕ) (entries : Entries) (t : ℕ) → IsWithin size caps entries
    → (i j : ℕ) → i < size → j < size → i ≢ j → (entries i j).lo ≤ (entries_after entries caps t i j).lo
entries_after-grows size caps entries t within i j row column apart =
    at_entry (λ e. (entries i j).lo ≤ e.lo) entries caps t i j apart (omega arith) (λ before next.
    raised_entry-grows (entries i j) (entries i t) (part_to entries t j) (caps i)
    (omega (arith, within.ordered i j row column apart, within.capped i j row column apart)))

-- so that what leads to earlier states stays
pub entries_after-live : (size least : ℕ) (caps : ℕ → ℕ) (entries : Entries) (t : ℕ) → IsWithin size caps entries
    → IsLive size least entries → IsLive size least (entries_after entries caps t)
entries_after-live size least caps entries t within live = record {
  leaves = λ m some inside.
      omega (
        arith,
        live.leaves m some inside,
        sum-le m (λ k. (entries m k).lo) (λ k. (entries_after entries caps t m k).lo)
            (λ k l. entries_after-grows size caps entries t within m k inside (omega arith) (omega arith)),
      );
}
