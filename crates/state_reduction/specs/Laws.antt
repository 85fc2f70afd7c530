-- What an elimination in intervals keeps, whatever table of rates it begins with.
use Rattle.std.specs.Prelude.{◌≡◌, ◌≢◌, ℕ, ◌-◌, ◌<◌, ◌≤◌, List}
use Rattle.hyper_model.specs.Solutions.{mass_in}
use Rattle.hyper_model.specs.Tables.{RateTable, Descends, IsTableSolution, between_states}
use Rattle.rate_matrix.specs.Bands.{BandedRates, IsMatrixOf, cap, entry}
use Rattle.rate_matrix.specs.Elimination.{AreOutflows, AreSoundEntries, Entries, HoldsAll, IsExact, SameEntries, entries_left_after}

-- a matrix as it is before any elimination: the rates of a table in one scale, with its outflows as caps
pub record Begins (size scale : ℕ) (rates : RateTable) (caps : ℕ → ℕ) (entries : Entries) : Type 0 where
  pub scaled : 1 ≤ scale
  pub descends : Descends size rates
  pub exact : IsExact size scale rates entries
  pub outflows : AreOutflows size scale rates caps

-- the entries that are left in the end hold every solution of the table
abbrev pub HoldsEverySolution : Type 0
HoldsEverySolution =
    (size scale : ℕ) (rates : RateTable) (caps : ℕ → ℕ) (entries left : Entries) (ys : List ℕ)
    → Begins size scale rates caps entries → SameEntries size (entries_left_after entries caps size (size - 1)) left
    → IsTableSolution size (between_states rates) ys → HoldsAll size left (mass_in ys)

-- the same of matrices: of whichever table's rates the first one was, what is left of it holds each solution
abbrev pub HoldsSolutions : BandedRates → BandedRates → Type 0
HoldsSolutions old new =
    (rates : RateTable) (ys : List ℕ) → Begins old.size old.scale rates (cap old) (entry old)
    → IsTableSolution old.size rates ys → HoldsAll old.size (entry new) (mass_in ys)

-- the matrix of a chain begins with the chain's rates
abbrev pub MatricesBegin : Type 0
MatricesBegin =
    (states top : ℕ) (rates : RateTable) (m : BandedRates) → IsMatrixOf states rates top m → 1 ≤ m.scale
    → Descends states rates → Begins m.size m.scale rates (cap m) (entry m)

-- no low end is lower than before
pub record IsRaisedFrom (size : ℕ) (old new : Entries) : Type 0 where
  pub raises : (i j : ℕ) → i < size → j < size → i ≢ j → (old i j).lo ≤ (new i j).lo

-- at the beginning, with the scale as this least sum
abbrev pub BeginsSound : Type 0
BeginsSound =
    (size scale : ℕ) (rates : RateTable) (caps : ℕ → ℕ) (entries : Entries)
    → Begins size scale rates caps entries → AreSoundEntries size scale caps entries

-- and after any number of eliminations, none of which lowers a low end
abbrev pub StaysSound : Type 0
StaysSound =
    (size least : ℕ) (caps : ℕ → ℕ) (entries left : Entries) (k : ℕ) → k < size → AreSoundEntries size least caps entries
    → SameEntries size (entries_left_after entries caps size k) left
    → AreSoundEntries size least caps left × IsRaisedFrom size entries left

-- what is left between different states follows from the entries between different states, and from the caps
abbrev pub IsDetermined : Type 0
IsDetermined =
    (size : ℕ) (a b : Entries) (caps limits : ℕ → ℕ) (k : ℕ) → k < size → SameEntries size a b
    → ((i : ℕ) → i < size → caps i ≡ limits i)
    → SameEntries size (entries_left_after a caps size k) (entries_left_after b limits size k)
