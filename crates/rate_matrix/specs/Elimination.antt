-- Elimination of states in intervals (Grassmann, Taksar and Heyman 1985). The last state goes first: each way
-- through it becomes a part of the way between two states before it. Entries are named by two states, the one
-- that a rate leaves and the one that it goes to, and only those between different states mean anything.
use Rattle.std.specs.Prelude.{◌≡◌, ◌≢◌, ℕ, zero, suc, ◌-◌, ◌*◌, ◌^◌, ◌<◌, ◌≤◌, ◌==◌, Bool, ◌&&◌, not, nat_lt, if◌then◌else◌}
use Rattle.fixed_interval.specs.Ends.{Ends, exact_ends, plus_capped_ends, share_ends, times_part_ends}
use Rattle.hyper_model.specs.Sums.{sum_below}
use Rattle.hyper_model.specs.Tables.{RateTable, between_states}
use Rattle.busy_words.specs.Algebra.{total_ends, where_ends}

abbrev pub Entries : Type 0
Entries = ℕ → ℕ → Ends

-- two matrices with the same entries between different states
pub record SameEntries (size : ℕ) (a b : Entries) : Type 0 where
  pub same : (i j : ℕ) → i < size → j < size → i ≢ j → a i j ≡ b i j

-- the sum of a row's entries to the first n states other than j
abbrev pub without_ends : ℕ → ℕ → (ℕ → Ends) → Ends
without_ends n j row = total_ends n (λ k. where_ends (not (k == j)) (row k))

-- of what leaves state t for the states before it, the part that goes to state j: the share that the entry there
-- has in it and the sum of the others
unfoldable pub part_to : Entries → ℕ → ℕ → Ends
part_to entries t j = share_ends (2 ^ 62) (entries t j) (without_ends t j (entries t))

-- an entry and the part of another that is added to it, never above what leaves the row's state
abbrev pub raised_entry : Ends → Ends → Ends → ℕ → Ends
raised_entry old into part cap = plus_capped_ends old (times_part_ends into part) cap

-- the entries between two different states before t
abbrev pub is_raised : ℕ → ℕ → ℕ → Bool
is_raised t i j = nat_lt i t && (nat_lt j t && not (i == j))

-- one elimination, of state t, whose parts to the states before it are given; the entries from it and to it stay
unfoldable pub raised_entries : (ℕ → Ends) → Entries → (ℕ → ℕ) → ℕ → Entries
raised_entries parts entries caps t i j =
    if is_raised t i j then raised_entry (entries i j) (entries i t) (parts j) (caps i) else entries i j

-- one elimination, of state t
unfoldable pub entries_after : Entries → (ℕ → ℕ) → ℕ → Entries
entries_after entries caps t i j = raised_entries (part_to entries t) entries caps t i j

-- all entries after the last k of `size` states were eliminated, the last one first
unfoldable pub entries_left_after : Entries → (ℕ → ℕ) → ℕ → ℕ → Entries
entries_left_after entries caps size zero i j = entries i j
entries_left_after entries caps size (suc k) i j = entries_after (entries_left_after entries caps size k) caps (size - suc k) i j

-- the entries between different states are the rates, all times one scale
pub record IsExact (size scale : ℕ) (rates : RateTable) (entries : Entries) : Type 0 where
  pub exact : (i j : ℕ) → i < size → j < size → i ≢ j → entries i j ≡ exact_ends (scale * rates i j)

-- all that leaves a state for others
abbrev pub outflow_of : ℕ → RateTable → ℕ → ℕ
outflow_of size rates i = sum_below size (between_states rates i)

-- the cap of each row is the outflow of its state in the same scale
pub record AreOutflows (size scale : ℕ) (rates : RateTable) (caps : ℕ → ℕ) : Type 0 where
  pub each : (i : ℕ) → i < size → caps i ≡ scale * outflow_of size rates i

-- each state but the first has entries to earlier states that sum to at least this much
pub record IsLive (size least : ℕ) (entries : Entries) : Type 0 where
  pub leaves : (m : ℕ) → 0 < m → m < size → least ≤ (total_ends m (entries m)).lo

-- the ends of each entry are in order, and at most the cap of its row
pub record IsWithin (size : ℕ) (caps : ℕ → ℕ) (entries : Entries) : Type 0 where
  pub ordered : (i j : ℕ) → i < size → j < size → i ≢ j → (entries i j).lo ≤ (entries i j).hi
  pub capped : (i j : ℕ) → i < size → j < size → i ≢ j → (entries i j).hi ≤ caps i

-- the ends are in order and under the caps, and each state but the first has entries to earlier states that sum
-- to at least this much
pub record AreSoundEntries (size least : ℕ) (caps : ℕ → ℕ) (entries : Entries) : Type 0 where
  pub within : IsWithin size caps entries
  pub live : IsLive size least entries

-- state m is in balance with the states before it, as far as the intervals tell: what must leave it is at most
-- what may come, and what must come is at most what may leave
pub record HoldsAt (entries : Entries) (y : ℕ → ℕ) (m : ℕ) : Type 0 where
  pub least : y m * (total_ends m (entries m)).lo ≤ sum_below m (λ i. y i * (entries i m).hi)
  pub most : sum_below m (λ i. y i * (entries i m).lo) ≤ y m * (total_ends m (entries m)).hi

-- the entries hold these masses of the states: each state but the first is in balance with those before it
pub record HoldsAll (size : ℕ) (entries : Entries) (y : ℕ → ℕ) : Type 0 where
  pub each : (m : ℕ) → 0 < m → m < size → HoldsAt entries y m
