-- Entries that agree between different states have the same sums, parts and eliminations.
use Rattle.std.proofs.Common.{◌≡◌, ℕ, ◌*◌, ◌^◌, ◌<◌, sym, ap, ◌∙◌, inl, inr, arith}
use Rattle.std.specs.Prelude.{◌==◌, not}
use Rattle.std.proofs.lemmas.Bool.{cases_lt}
use Rattle.fixed_interval.specs.Ends.{Ends, share_ends}
use Rattle.hyper_model.proofs.Sums.{sum-same}
use Rattle.rate_matrix.specs.Elimination.{AreSoundEntries, Entries, HoldsAll, HoldsAt, SameEntries, entries_after, part_to, raised_entry, without_ends}
use Rattle.busy_words.specs.Algebra.{total_ends, where_ends}
use Rattle.rate_matrix.proofs.Totals.{between-same}
use Rattle.rate_matrix.proofs.Raising.{entries_after-before, entries_after-from, entries_after-to}

pub total_ends-same : (n : ℕ) (row other : ℕ → Ends) → ((k : ℕ) → k < n → row k ≡ other k)
    → total_ends n row ≡ total_ends n other
total_ends-same n row other same =
    between-same _ _ _ _
    (sum-same n (λ k. (row k).lo) (λ k. (other k).lo) (λ k l. ap (λ (e : Ends). e.lo) (same k l)))
    (sum-same n (λ k. (row k).hi) (λ k. (other k).hi) (λ k l. ap (λ (e : Ends). e.hi) (same k l)))

-- what leaves state m for the states before it
pub leaving-same : (size : ℕ) (a b : Entries) → SameEntries size a b → (m : ℕ) → m < size
    → total_ends m (a m) ≡ total_ends m (b m)
leaving-same size a b same m inside =
    total_ends-same m (a m) (b m) (λ k l. same.same m k inside (omega arith) (omega arith))

pub part_to-same : (size : ℕ) (a b : Entries) → SameEntries size a b → (t j : ℕ) → t < size → j < t
    → part_to a t j ≡ part_to b t j
unfolding part_to
part_to-same size a b same t j inside before =
    ap (λ e. share_ends (2 ^ 62) e (without_ends t j (a t))) (same.same t j inside (omega arith) (omega arith))
    ∙ ap (λ e. share_ends (2 ^ 62) (b t j) e)
    (total_ends-same t (λ k. where_ends (not (k == j)) (a t k)) (λ k. where_ends (not (k == j)) (b t k))
    (λ k l. ap (λ e. where_ends (not (k == j)) e) (same.same t k inside (omega arith) (omega arith))))

raised_entry-same : (old into part old' into' part' : Ends) (cap cap' : ℕ) → old ≡ old' → into ≡ into' → part ≡ part'
    → cap ≡ cap' → raised_entry old into part cap ≡ raised_entry old' into' part' cap'
raised_entry-same old into part old' into' part' cap cap' first second third fourth = cc

pub entries_after-same : (size : ℕ) (a b : Entries) (caps limits : ℕ → ℕ) (t : ℕ) → t < size → SameEntries size a b
    → ((i : ℕ) → i < size → caps i ≡ limits i) → SameEntries size (entries_after a caps t) (entries_after b limits t)
entries_after-same size a b caps limits t alive same bounds = record {
  same = λ i j row column apart. elim (cases_lt i t) [
    | inl from ↦ elim (cases_lt j t) [
      | inl to ↦
          entries_after-before a caps t i j from to apart
          ∙ raised_entry-same (a i j) (a i t) (part_to a t j) (b i j) (b i t) (part_to b t j) (caps i) (limits i)
          (same.same i j row column apart) (same.same i t row alive (omega arith))
          (part_to-same size a b same t j alive to) (bounds i row)
          ∙ sym (entries_after-before b limits t i j from to apart)
      | inr after ↦
          entries_after-to a caps t i j (omega arith) ∙ same.same i j row column apart
          ∙ sym (entries_after-to b limits t i j (omega arith))
    ]
    | inr after ↦
        entries_after-from a caps t i j (omega arith) ∙ same.same i j row column apart
        ∙ sym (entries_after-from b limits t i j (omega arith))
  ];
}

pub HoldsAt-same : (size : ℕ) (a b : Entries) (y : ℕ → ℕ) → SameEntries size a b → (m : ℕ) → m < size → HoldsAt a y m
    → HoldsAt b y m
HoldsAt-same size a b y same m inside holds =
    let leaving = leaving-same size a b same m inside in
    let low = sum-same m (λ i. y i * (a i m).lo) (λ i. y i * (b i m).lo)
    (λ i l. ap (λ (e : Ends). y i * e.lo) (same.same i m (omega arith) inside (omega arith))) in
    let high = sum-same m (λ i. y i * (a i m).hi) (λ i. y i * (b i m).hi)
    (λ i l. ap (λ (e : Ends). y i * e.hi) (same.same i m (omega arith) inside (omega arith))) in
    record {
      least = omega (arith, holds.least, ap (λ (e : Ends). y m * e.lo) leaving, high);
      most = omega (arith, holds.most, ap (λ (e : Ends). y m * e.hi) leaving, low);
    }

pub HoldsAll-same : (size : ℕ) (a b : Entries) (y : ℕ → ℕ) → SameEntries size a b → HoldsAll size a y
    → HoldsAll size b y
HoldsAll-same size a b y same holds = record {
  each = λ m later inside. HoldsAt-same size a b y same m inside (holds.each m later inside);
}

pub AreSoundEntries-same : (size least : ℕ) (caps : ℕ → ℕ) (a b : Entries) → SameEntries size a b → AreSoundEntries size least caps a
    → AreSoundEntries size least caps b
AreSoundEntries-same size least caps a b same sound = record {
  within = record {
    ordered = λ i j row column apart.
        rw (same.same i j row column apart) at (sound.within.ordered i j row column apart);
    capped = λ i j row column apart.
        rw (same.same i j row column apart) at (sound.within.capped i j row column apart);
  };
  live = record {
    leaves = λ m later inside.
        omega (arith, sound.live.leaves m later inside, ap (λ (e : Ends). e.lo) (leaving-same size a b same m inside));
  };
}
