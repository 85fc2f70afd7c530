-- States in levels: if no entry leads past the next level, none ever will.
use Rattle.std.specs.Prelude.{◌≡◌, ℕ, ◌+◌, ◌<◌, ◌≤◌, ◌⊎◌}
use Rattle.fixed_interval.specs.Ends.{exact_ends}
use Rattle.rate_matrix.specs.Elimination.{Entries, entries_left_after}

-- the levels of two states differ by more than one
pub record AreFarApart (level : ℕ → ℕ) (i j : ℕ) : Type 0 where
  pub far : (level i + 1 < level j) ⊎ (level j + 1 < level i)

-- a later state is at the same level or a higher one
pub record IsByLevels (size : ℕ) (level : ℕ → ℕ) : Type 0 where
  pub rises : (i j : ℕ) → i ≤ j → j < size → level i ≤ level j

-- no entry between states whose levels are far apart
pub record IsZeroFarApart (size : ℕ) (level : ℕ → ℕ) (entries : Entries) : Type 0 where
  pub zeros : (i j : ℕ) → i < size → j < size → AreFarApart level i j → entries i j ≡ exact_ends 0

-- no elimination makes an entry between states far apart
abbrev pub ZerosStay : Type 0
ZerosStay =
    (size : ℕ) (level : ℕ → ℕ) (entries : Entries) (caps : ℕ → ℕ)
    → IsByLevels size level → IsZeroFarApart size level entries
    → (k : ℕ) → k < size → IsZeroFarApart size level (entries_left_after entries caps size k)
