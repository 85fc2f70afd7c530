-- Weights that are all divided by one power of two, and weights that gain one more.
use Rattle.std.proofs.Common.{◌≡◌, ℕ, suc, ◌+◌, ◌-◌, ◌*◌, ◌/◌, ◌^◌, ◌<◌, ◌≤◌, List, [], ◌∷◌, ◌++◌, map, length, slice_index, All, refl, sym, arith, ap, ◌∙◌, inl, inr}
use Rattle.std.specs.Int.{div_ceil}
use Rattle.std.specs.Int.Count.{count_leading_zeros}
use Rattle.std.proofs.Math.Nat.{eq-or-lt_of_le, mul-le-mul_left, mul-le-mul_right, pow-le-pow_right}
use Rattle.std.proofs.lemmas.Nat.{leading_top, pow-add, pow_pos}
use Rattle.std.proofs.lemmas.Bool.{cases_lt}
use Rattle.std.proofs.lemmas.Grind.{div_ceil_times}
use Rattle.std.proofs.lemmas.List.{get_or-map, get_or_append_left, length-map}
use Rattle.std.proofs.Math.Seq.{get_or-append_seam}
use Rattle.std.proofs.lemmas.List.Elements.{All-map, All-weaker}
use Rattle.std.proofs.Common.{length-append}
use Rattle.fixed_interval.proofs.Rounding.{div_ceil-le, div_ceil-positive, rounded-cross, rounded-ordered}
use Rattle.fixed_interval.specs.Ends.{Ends, between, exact_ends, shifted_ends}
use Rattle.fixed_interval.specs.WeightList.{EnclosesAll, IsLeastShift, IsWeight, PushesShifted, ends_at}

-- The ends of a shifted interval are in order.
pub shifted-ordered : (power l h : ℕ) → l ≤ h → l / 2 ^ power ≤ div_ceil h (2 ^ power)
shifted-ordered power l h le = rounded-ordered (2 ^ power) l h (pow_pos power) le

between_same : (a c b d : ℕ) → a ≡ c → b ≡ d → between a b ≡ between c d
between_same a c b d low high = cc

-- A shift by nothing changes nothing.
shifted_none : (w : Ends) → w ≡ shifted_ends 0 w
shifted_none w = between_same w.lo _ w.hi _ (omega arith) (omega arith)

map_shifted_none : (items : List Ends) → items ≡ map (shifted_ends 0) items
map_shifted_none [] = refl
map_shifted_none (w ∷ items) =
    let first = shifted_none w in
    let rest = map_shifted_none items in
    cc

-- A list whose shift is by nothing stays as it is.
pub map-shifted-zero : (power : ℕ) (items : List Ends) → power ≡ 0 → items ≡ map (shifted_ends power) items
map-shifted-zero power items none = rw none (map_shifted_none items)

-- Of two powers of two, the exponents say which is below.
exponent_below : (i j : ℕ) → 2 ^ i < 2 ^ j → i < j
exponent_below i j less = elim (cases_lt i j) [
  | inl below ↦ below
  | inr above ↦
      let two : 0 < 2 = omega arith in
      let le : 2 ^ j ≤ 2 ^ i = pow-le-pow_right two above in
      omega (arith, le, less)
]

-- The power that the leading zeros of a number give, if the number is past 2 ^ 52.
pub leading_zeros-in_range : (high : ℕ) → 2 ^ 52 < high → high < 2 ^ 100
    → (52 ≤ 128 - count_leading_zeros 128 (high - 1)) × (128 - count_leading_zeros 128 (high - 1) - 52 ≤ 48)
leading_zeros-in_range high past below =
    let top = leading_top 128 (high - 1) (omega arith) (omega arith) in
    let more : 52 < suc top.0 = exponent_below 52 (suc top.0) (omega (arith, top.1)) in
    let less : top.0 < 100 = exponent_below top.0 100 (omega (arith, top.1)) in
    (omega (arith, top.1, more), omega (arith, top.1, less))

least_at : (high j h : ℕ) → j + 1 ≡ 52 + h → 2 ^ j ≤ high - 1 → high - 1 < 2 ^ suc j → 0 < high → IsLeastShift high h
least_at high j h is above below some = record {
  fits =
      let same : 2 ^ (52 + h) ≡ 2 ^ 52 * 2 ^ h = pow-add 2 52 h in
      let exponents : suc j ≡ 52 + h = omega arith in
      let room : 2 ^ suc j ≡ 2 ^ (52 + h) = ap (λ n. 2 ^ n) exponents in
      div_ceil-le high (2 ^ h) (2 ^ 52) (pow_pos h) (omega (arith, below, room, same));
  least = λ k fits.
      let bound : div_ceil high (2 ^ k) * 2 ^ k ≤ 2 ^ 52 * 2 ^ k = mul-le-mul_right (2 ^ k) fits in
      let same : 2 ^ (52 + k) ≡ 2 ^ 52 * 2 ^ k = pow-add 2 52 k in
      let rounded = div_ceil_times high (2 ^ k) (pow_pos k) in
      let room : 2 ^ j < 2 ^ (52 + k) = omega (arith, rounded.0, bound, same, above) in
      let less : j < 52 + k = exponent_below j (52 + k) room in
      omega arith;
}

-- That power is the least.
pub leading_zeros-least : (high : ℕ) → 2 ^ 52 < high → high < 2 ^ 100
    → IsLeastShift high (128 - count_leading_zeros 128 (high - 1) - 52)
leading_zeros-least high past below =
    let top = leading_top 128 (high - 1) (omega arith) (omega arith) in
    let more : 52 < suc top.0 = exponent_below 52 (suc top.0) (omega (arith, top.1)) in
    least_at high top.0 _ (omega (arith, top.1, more)) (omega (arith, top.1)) (omega (arith, top.1)) (omega arith)

-- A number in range needs no shift.
pub no_shift-least : (high : ℕ) → high ≤ 2 ^ 52 → IsLeastShift high 0
no_shift-least high le = record {
  fits = div_ceil-le high (2 ^ 0) (2 ^ 52) (omega arith) (omega arith);
  least = λ k _. omega arith;
}

-- A shift of all weights shifts the one at each place.
pub ends_at-map : (power : ℕ) (items : List Ends) (i : ℕ) → i < length items
    → ends_at (map (shifted_ends power) items) i ≡ shifted_ends power (ends_at items i)
ends_at-map power items i inside = get_or-map (shifted_ends power) items i (between 0 0) (between 0 0) inside

-- Weights enclose the same numbers after one shift of them all.
pub encloses_shifts : (power : ℕ) (items : List Ends) (numbers : List ℕ) → EnclosesAll items numbers
    → EnclosesAll (map (shifted_ends power) items) numbers
encloses_shifts power items numbers e =
    let same : length (map (shifted_ends power) items) ≡ length items = length-map items (shifted_ends power) in
    record {
      same_length = same ∙ e.same_length;
      in_ratio = λ i k first second.
          let i_inside : i < length items = rw same at first in
          let k_inside : k < length items = rw same at second in
          rw (ends_at-map power items i i_inside, ends_at-map power items k k_inside)
          (rounded-cross (2 ^ power) _ _ _ _ (pow_pos power) (e.in_ratio i k i_inside k_inside));
      positive = λ k inside some.
          let k_inside : k < length items = rw same at inside in
          rw (ends_at-map power items k k_inside)
          (div_ceil-positive _ (2 ^ power) (pow_pos power) (e.positive k k_inside some));
    }

-- A push with its shift keeps what the weights with the new one before the shift enclose.
pub encloses_pushed : (old new : List Ends) (w : Ends) → PushesShifted old new w → (numbers : List ℕ)
    → EnclosesAll (old ++ w ∷ []) numbers → EnclosesAll new numbers
encloses_pushed old new w pushed numbers e =
    rw pushed.items (encloses_shifts pushed.power (old ++ w ∷ []) numbers e)

-- A weight that needs no shift goes to the end of weights that stay as they are.
pub pushed_unshifted : (old new : List Ends) (w : Ends) → PushesShifted old new w → w.hi ≤ 2 ^ 52 → new ≡ old ++ w ∷ []
pushed_unshifted old new w pushed small =
    let least : pushed.power ≤ 0 = pushed.least.least 0 (no_shift-least w.hi small).fits in
    let none : pushed.power ≡ 0 = omega arith in
    pushed.items ∙ sym (map-shifted-zero pushed.power (old ++ w ∷ []) none)

-- One weight that is not 0 encloses any one number.
pub encloses_one : (v y : ℕ) → 0 < v → EnclosesAll (exact_ends v ∷ []) (y ∷ [])
encloses_one v y some = record {
  same_length = refl;
  in_ratio = λ i k first second.
      let i_first : i ≡ 0 = omega arith in
      let k_first : k ≡ 0 = omega arith in
      rw (i_first, k_first) (omega arith);
  positive = λ k inside _.
      let k_first : k ≡ 0 = omega arith in
      rw k_first some;
}

ends_before : (items : List Ends) (w : Ends) (i : ℕ) → i < length items → ends_at (items ++ w ∷ []) i ≡ ends_at items i
ends_before items w i inside = get_or_append_left items (w ∷ []) (between 0 0) i inside

ends_last : (items : List Ends) (w : Ends) (i : ℕ) → i ≡ length items → ends_at (items ++ w ∷ []) i ≡ w
ends_last items w i last = rw last (get_or-append_seam items w [] (between 0 0))

number_before : (numbers : List ℕ) (y i : ℕ) → i < length numbers
    → slice_index (numbers ++ y ∷ []) i ≡ slice_index numbers i
number_before numbers y i inside = get_or_append_left numbers (y ∷ []) 0 i inside

number_last : (numbers : List ℕ) (y i : ℕ) → i ≡ length numbers → slice_index (numbers ++ y ∷ []) i ≡ y
number_last numbers y i last = rw last (get_or-append_seam numbers y [] 0)

-- Weights that enclose numbers, and one more of each that stands in ratio to all of them.
pub encloses_push : (items : List Ends) (numbers : List ℕ) (w : Ends) (y : ℕ) → w.lo ≤ w.hi → EnclosesAll items numbers
    → ((i : ℕ) → i < length items → (ends_at items i).lo * y ≤ w.hi * slice_index numbers i)
    → ((k : ℕ) → k < length items → w.lo * slice_index numbers k ≤ (ends_at items k).hi * y)
    → (1 ≤ y → 1 ≤ w.hi) → EnclosesAll (items ++ w ∷ []) (numbers ++ y ∷ [])
encloses_push items numbers w y ordered e below above some =
    let longer = length-append items (w ∷ []) in
    let same = e.same_length in
    record {
      same_length = omega (arith, longer, length-append numbers (y ∷ []), same);
      in_ratio = λ i k first second.
          elim (eq-or-lt_of_le (let le : i ≤ length items = omega (arith, longer) in le)) [
            | inl i_last ↦
                rw (ends_last items w i i_last, number_last numbers y i (i_last ∙ same))
                (elim (eq-or-lt_of_le (let le : k ≤ length items = omega (arith, longer) in le)) [
                  | inl k_last ↦
                      rw (ends_last items w k k_last, number_last numbers y k (k_last ∙ same))
                      (mul-le-mul_right y ordered)
                  | inr k_inside ↦
                      rw (ends_before items w k k_inside, number_before numbers y k (omega (arith, same)))
                      (above k k_inside)
                ])
            | inr i_inside ↦
                rw (ends_before items w i i_inside, number_before numbers y i (omega (arith, same)))
                (elim (eq-or-lt_of_le (let le : k ≤ length items = omega (arith, longer) in le)) [
                  | inl k_last ↦
                      rw (ends_last items w k k_last, number_last numbers y k (k_last ∙ same)) (below i i_inside)
                  | inr k_inside ↦
                      rw (ends_before items w k k_inside, number_before numbers y k (omega (arith, same)))
                      (e.in_ratio i k i_inside k_inside)
                ])
          ];
      positive = λ k inside.
          elim (eq-or-lt_of_le (let le : k ≤ length items = omega (arith, longer) in le)) [
            | inl k_last ↦ rw (ends_last items w k k_last, number_last numbers y k (k_last ∙ same)) some
            | inr k_inside ↦
                rw (ends_before items w k k_inside, number_before numbers y k (omega (arith, same)))
                (e.positive k k_inside)
          ];
    }

-- A weight that is shifted stays a weight.
pub IsWeight-shifted : (power : ℕ) (w : Ends) → IsWeight w → IsWeight (shifted_ends power w)
IsWeight-shifted power w (le, fits) = (
  shifted-ordered power w.lo w.hi le,
  div_ceil-le w.hi (2 ^ power) (2 ^ 52) (pow_pos power) (omega (arith, mul-le-mul_left (2 ^ 52) (pow_pos power))),
)

pub All-IsWeight-map : (power : ℕ) (items : List Ends) → All IsWeight items → All IsWeight (map (shifted_ends power) items)
All-IsWeight-map power items all =
    All-map IsWeight (shifted_ends power) items
    (All-weaker IsWeight (λ w. IsWeight (shifted_ends power w)) (IsWeight-shifted power) items all)
