-- After any number of eliminations the ends are in order and under the caps, and what leads to earlier states
-- stays; and what is left depends on the entries between different states only.
use Rattle.std.proofs.Common.{ℕ, zero, suc, ◌-◌, ◌<◌, ap, arith}
use Rattle.fixed_interval.specs.Ends.{Ends}
use Rattle.rate_matrix.specs.Elimination.{AreSoundEntries, Entries, entries_after, entries_left_after}
use Rattle.rate_matrix.proofs.Sameness.{AreSoundEntries-same, entries_after-same}
use Rattle.state_reduction.specs.Laws.{IsDetermined, IsRaisedFrom, StaysSound}
use Rattle.state_reduction.proofs.Steps.{entries_after-within, entries_after-live, entries_after-grows}

pub entries_after-sound : (size least : ℕ) (caps : ℕ → ℕ) (entries : Entries) (t : ℕ) → t < size
    → AreSoundEntries size least caps entries → AreSoundEntries size least caps (entries_after entries caps t)
entries_after-sound size least caps entries t alive sound = record {
  within = entries_after-within size caps entries t alive sound.within;
  live = entries_after-live size least caps entries t sound.within sound.live;
}

pub entries_left_after-sound : (size least : ℕ) (caps : ℕ → ℕ) (entries : Entries) (k : ℕ) → k < size
    → AreSoundEntries size least caps entries → AreSoundEntries size least caps (entries_left_after entries caps size k)
unfolding entries_left_after
entries_left_after-sound size least caps entries zero some sound = record {
  within = record { ordered = sound.within.ordered; capped = sound.within.capped };
  live = record { leaves = sound.live.leaves };
}
entries_left_after-sound size least caps entries (suc k) some sound =
    entries_after-sound size least caps (entries_left_after entries caps size k) (size - suc k) (omega arith)
    (entries_left_after-sound size least caps entries k (omega arith) sound)

-- no low end is lower than it was at the beginning
pub entries_left_after-grows : (size least : ℕ) (caps : ℕ → ℕ) (entries : Entries) (k : ℕ) → k < size
    → AreSoundEntries size least caps entries → IsRaisedFrom size entries (entries_left_after entries caps size k)
unfolding entries_left_after
entries_left_after-grows size least caps entries zero some sound = record {
  raises = λ i j row column apart. omega arith;
}
entries_left_after-grows size least caps entries (suc k) some sound =
    let before = entries_left_after-grows size least caps entries k (omega arith) sound in
    let here = entries_left_after-sound size least caps entries k (omega arith) sound in
    record {
      raises = λ i j row column apart.
          omega (
            arith,
            before.raises i j row column apart,
            entries_after-grows size caps (entries_left_after entries caps size k) (size - suc k) here.within i j row column apart,
          );
    }

pub stays_sound : StaysSound
stays_sound size least caps entries left k some sound same =
    let grown = entries_left_after-grows size least caps entries k some sound in (
      AreSoundEntries-same size least caps (entries_left_after entries caps size k) left same
          (entries_left_after-sound size least caps entries k some sound),
      record {
        raises = λ i j row column apart.
            omega (arith, grown.raises i j row column apart, ap (λ (e : Ends). e.lo) (same.same i j row column apart));
      },
    )

pub is_determined : IsDetermined
unfolding entries_left_after
is_determined size a b caps limits zero some same bounds = record { same = same.same }
is_determined size a b caps limits (suc k) some same bounds =
    entries_after-same size (entries_left_after a caps size k) (entries_left_after b limits size k) caps limits (size - suc k) (omega arith)
    (is_determined size a b caps limits k (omega arith) same bounds) bounds
