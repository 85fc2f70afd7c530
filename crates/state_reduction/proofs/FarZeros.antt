-- No elimination makes an entry between states far apart: of two such states before the one that goes, one is
-- far from that as well.
use Rattle.std.proofs.Common.{◌≡◌, ◌≢◌, ℕ, zero, suc, ◌+◌, ◌-◌, ◌*◌, ◌/◌, ◌^◌, ◌<◌, min, ap, ◌∙◌, inl, inr, arith}
use Rattle.std.specs.Int.{div_ceil}
use Rattle.std.proofs.Math.Nat.{zero-div, zero-mod}
use Rattle.fixed_interval.specs.Ends.{Ends, between, exact_ends, share_ends, times_part_ends}
use Rattle.rate_matrix.specs.Elimination.{Entries, entries_after, entries_left_after, part_to, raised_entry, without_ends}
use Rattle.rate_matrix.specs.Levels.{AreFarApart, IsByLevels, IsZeroFarApart, ZerosStay}
use Rattle.state_reduction.proofs.Steps.{at_entry}

same_ends : (a b : ℕ) → a ≡ 0 → b ≡ 0 → between a b ≡ exact_ends 0
same_ends a b low high = cc

ceil_of_zero : (x k : ℕ) → x ≡ 0 → div_ceil x k ≡ 0
ceil_of_zero x k none = rw none (omega (arith, zero-div k, zero-mod k))

floor_of_zero : (x k : ℕ) → x ≡ 0 → x / k ≡ 0
floor_of_zero x k none = rw none (zero-div k)

pub times_part-no_entry : (part : Ends) → times_part_ends (exact_ends 0) part ≡ exact_ends 0
times_part-no_entry part =
    same_ends _ _ (floor_of_zero (0 * part.lo) (2 ^ 62) (omega arith)) (ceil_of_zero (0 * part.hi) (2 ^ 62) (omega arith))

pub times_part-no_part : (into : Ends) → times_part_ends into (exact_ends 0) ≡ exact_ends 0
times_part-no_part into =
    same_ends _ _ (floor_of_zero (into.lo * 0) (2 ^ 62) (omega arith)) (ceil_of_zero (into.hi * 0) (2 ^ 62) (omega arith))

-- nothing goes to where no entry leads
pub share-nothing : (unit : ℕ) (rest : Ends) → share_ends unit (exact_ends 0) rest ≡ exact_ends 0
share-nothing unit rest =
    same_ends _ _ (floor_of_zero (unit * 0) (0 + rest.hi) (omega arith)) (ceil_of_zero (unit * 0) (0 + rest.lo) (omega arith))

pub part_to-nothing : (entries : Entries) (t j : ℕ) → entries t j ≡ exact_ends 0 → part_to entries t j ≡ exact_ends 0
unfolding part_to
part_to-nothing entries t j none =
    ap (λ e. share_ends (2 ^ 62) e (without_ends t j (entries t))) none
    ∙ share-nothing (2 ^ 62) (without_ends t j (entries t))

-- nothing is added to nothing
nothing_more : (old more : Ends) (cap : ℕ) → old ≡ exact_ends 0 → more ≡ exact_ends 0
    → between (min (old.lo + more.lo) cap) (min (old.hi + more.hi) cap) ≡ exact_ends 0
nothing_more old more cap none no_more =
    same_ends _ _
    (omega (arith, ap (λ (e : Ends). e.lo) none, ap (λ (e : Ends). e.lo) no_more))
    (omega (arith, ap (λ (e : Ends). e.hi) none, ap (λ (e : Ends). e.hi) no_more))

pub raised_entry-no_entry : (old into part : Ends) (cap : ℕ) → old ≡ exact_ends 0 → into ≡ exact_ends 0
    → raised_entry old into part cap ≡ exact_ends 0
raised_entry-no_entry old into part cap none no_way =
    nothing_more old (times_part_ends into part) cap none
    (ap (λ e. times_part_ends e part) no_way ∙ times_part-no_entry part)

pub raised_entry-no_part : (old into part : Ends) (cap : ℕ) → old ≡ exact_ends 0 → part ≡ exact_ends 0
    → raised_entry old into part cap ≡ exact_ends 0
raised_entry-no_part old into part cap none no_way =
    nothing_more old (times_part_ends into part) cap none
    (ap (λ e. times_part_ends into e) no_way ∙ times_part-no_part into)

pub far-apart : (level : ℕ → ℕ) (i j : ℕ) → AreFarApart level i j → i ≢ j
far-apart level i j far same = elim far.far [
  | inl above ↦ omega (arith, ap level same)
  | inr below ↦ omega (arith, ap level same)
]

pub entries_after-zeros : (size : ℕ) (level : ℕ → ℕ) (entries : Entries) (caps : ℕ → ℕ) (t : ℕ) → t < size
    → IsByLevels size level → IsZeroFarApart size level entries → IsZeroFarApart size level (entries_after entries caps t)
entries_after-zeros size level entries caps t alive sorted zero_far = record {
  zeros = λ i j row column far.
      let none = zero_far.zeros i j row column far in
      at_entry (λ e. e ≡ exact_ends 0) entries caps t i j (far-apart level i j far) none (λ before next.
      elim far.far [
        | inl above ↦
            let away : AreFarApart level i t =
            record { far = inl (omega (arith, above, sorted.rises j t (omega arith) alive)) } in
            raised_entry-no_entry (entries i j) (entries i t) (part_to entries t j) (caps i) none
            (zero_far.zeros i t row alive away)
        | inr below ↦
            let away : AreFarApart level t j =
            record { far = inr (omega (arith, below, sorted.rises i t (omega arith) alive)) } in
            raised_entry-no_part (entries i j) (entries i t) (part_to entries t j) (caps i) none
            (part_to-nothing entries t j (zero_far.zeros t j alive column away))
      ]);
}

pub zeros_stay : ZerosStay
unfolding entries_left_after
zeros_stay size level entries caps sorted zero_far zero some = record { zeros = zero_far.zeros }
zeros_stay size level entries caps sorted zero_far (suc k) some =
    entries_after-zeros size level (entries_left_after entries caps size k) caps (size - suc k) (omega arith) sorted
    (zeros_stay size level entries caps sorted zero_far k (omega arith))
