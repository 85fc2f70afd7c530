-- What the weights of an eliminated chain keep.
use Rattle.std.specs.Prelude.{◌≡◌, ℕ, ◌^◌, ◌<◌, ◌≤◌, List, length, All}
use Rattle.fixed_interval.specs.Ends.{Ends}
use Rattle.fixed_interval.specs.WeightList.{EnclosesAll, IsWeight}
use Rattle.hyper_model.specs.Solutions.{mass_in}
use Rattle.rate_matrix.specs.Elimination.{AreSoundEntries, Entries, HoldsAll, SameEntries}
use Rattle.rate_matrix.specs.Weights.{AreWeightsOf, weight_of}

-- weights of entries enclose all masses that the entries hold
abbrev pub WeightsEnclose : Type 0
WeightsEnclose =
    (size least : ℕ) (caps : ℕ → ℕ) (entries : Entries) (items : List Ends) (ys : List ℕ)
    → 1 ≤ least → AreSoundEntries size least caps entries → AreWeightsOf entries size items
    → length ys ≡ size → HoldsAll size entries (mass_in ys) → EnclosesAll items ys

-- one weight for each state, with the ends in order and at most 2 ^ 52
abbrev pub WeightsInRange : Type 0
WeightsInRange =
    (size least n : ℕ) (caps : ℕ → ℕ) (entries : Entries) (items : List Ends)
    → 1 ≤ least → AreSoundEntries size least caps entries → n ≤ size → AreWeightsOf entries n items
    → (length items ≡ n) × All IsWeight items

-- the next weight, before its shift
abbrev pub NextWeightFits : Type 0
NextWeightFits =
    (size least m : ℕ) (caps : ℕ → ℕ) (entries : Entries) (items : List Ends)
    → size ≤ 4096 → 2 ^ 26 ≤ least → ((i : ℕ) → i < size → caps i ≤ 2 ^ 62) → AreSoundEntries size least caps entries
    → 0 < m → m < size → length items ≡ m → All IsWeight items
    → ((weight_of entries items m).lo ≤ (weight_of entries items m).hi) × ((weight_of entries items m).hi < 2 ^ 100)

-- no two lists are the weights of the same entries
abbrev pub AreWeightsDetermined : Type 0
AreWeightsDetermined =
    (n : ℕ) (entries : Entries) (items others : List Ends)
    → AreWeightsOf entries n items → AreWeightsOf entries n others → items ≡ others

-- weights of entries are those of all entries that agree with them
abbrev pub DependOnEntries : Type 0
DependOnEntries =
    (size n : ℕ) (a b : Entries) (items : List Ends) → n ≤ size → SameEntries size a b → AreWeightsOf a n items
    → AreWeightsOf b n items
