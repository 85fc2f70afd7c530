-- A list of weights, how it grows, and what it is for weights to enclose numbers up to one common factor.
use Rattle.std.specs.Prelude.{◌≡◌, ℕ, ◌*◌, ◌^◌, ◌<◌, ◌≤◌, List, [], ◌∷◌, ◌++◌, map, length, slice_index, slice_index_or}
use Rattle.std.specs.Int.{div_ceil}
use Rattle.fixed_interval.specs.Ends.{Ends, between, shifted_ends}

-- the weights in their order, and how many more there is room for
pub record WeightList : Type 0 where
  pub items : List Ends
  pub spare : ℕ

abbrev pub ends_at : List Ends → ℕ → Ends
ends_at items i = slice_index_or items i (between 0 0)

-- what each weight of a list keeps
abbrev pub IsWeight : Ends → Type 0
IsWeight w = (w.lo ≤ w.hi) × (w.hi ≤ 2 ^ 52)

-- no smaller power of two brings the high end to at most 2 ^ 52
pub record IsLeastShift (high power : ℕ) : Type 0 where
  pub fits : div_ceil high (2 ^ power) ≤ 2 ^ 52
  pub least : (k : ℕ) → div_ceil high (2 ^ k) ≤ 2 ^ 52 → power ≤ k

-- the weight goes to the end, and then all weights are divided by the least power of two that the new one needs
pub record PushesShifted (old new : List Ends) (weight : Ends) : Type 0 where
  pub power : ℕ
  pub least : IsLeastShift weight.hi power
  pub items : new ≡ map (shifted_ends power) (old ++ weight ∷ [])

-- The weights enclose the numbers up to one common factor: the ratio of any two numbers
-- lies between those of the ends, and no number above 0 has a weight that is 0 throughout.
pub record EnclosesAll (items : List Ends) (numbers : List ℕ) : Type 0 where
  pub same_length : length items ≡ length numbers
  pub in_ratio : (i k : ℕ) → i < length items → k < length items
      → (ends_at items i).lo * slice_index numbers k ≤ (ends_at items k).hi * slice_index numbers i
  pub positive : (k : ℕ) → k < length items → 1 ≤ slice_index numbers k → 1 ≤ (ends_at items k).hi
