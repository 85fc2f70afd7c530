-- When states of a matrix may be eliminated, and what their elimination does to it.
use Rattle.std.specs.Prelude.{◌≡◌, ℕ, ◌+◌, ◌-◌, ◌<◌, ◌≤◌, Bool, List, length}
use Rattle.fixed_interval.specs.Ends.{Ends}
use Rattle.rate_matrix.specs.Bands.{BandedRates, HasSameFrame, cap, entry}
use Rattle.rate_matrix.specs.Elimination.{entries_after, entries_left_after}
use Rattle.state_reduction.specs.Laws.{HoldsSolutions}

-- the last state that is alive may be eliminated: the matrix has this form, and the row has room for all parts
pub record MayLoseState (packed : Bool) (m : BandedRates) (row : List Ends) : Type 0 where
  pub form : m.packed ≡ packed
  pub alive : 2 ≤ m.alive
  pub room : m.size ≤ length row

-- it is eliminated
pub record LosesState (old new : BandedRates) : Type 0 where
  pub frame : HasSameFrame old new
  pub alive : new.alive + 1 ≡ old.alive
  pub entries : (i j : ℕ) → i < old.size → j < old.size
      → entry new i j ≡ entries_after (entry old) (cap old) new.alive i j

-- all states but the first may be eliminated, and none is yet
pub record MayBeReduced (packed : Bool) (m : BandedRates) (row : List Ends) : Type 0 where
  pub form : m.packed ≡ packed
  pub alive : m.alive ≡ m.size
  pub room : m.size ≤ length row

-- all are eliminated, and what is left holds every solution
pub record IsReduced (old new : BandedRates) : Type 0 where
  pub frame : HasSameFrame old new
  pub alive : new.alive ≡ 1
  pub entries : (i j : ℕ) → i < old.size → j < old.size
      → entry new i j ≡ entries_left_after (entry old) (cap old) old.size (old.size - 1) i j
  pub solutions : HoldsSolutions old new
