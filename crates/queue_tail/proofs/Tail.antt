-- The weight of a multiple of the last mass, and of the tail: the mass of all states in which a call waits.
use Rattle.std.proofs.Common.{◌≡◌, ℕ, ◌-◌, ◌*◌, ◌/◌, ◌<◌, ◌≤◌, List, [], ◌∷◌, ◌++◌, length, slice_index, ap, ◌∙◌, arith}
use Rattle.std.specs.Int.{div_ceil}
use Rattle.std.proofs.Math.Nat.{mul-le-mul_left, mul-le-mul_right, mul-pos}
use Rattle.fixed_interval.specs.Ends.{Ends, ratio_ends}
use Rattle.fixed_interval.specs.WeightList.{EnclosesAll, ends_at}
use Rattle.fixed_interval.proofs.Rounding.{ceil_above, div_ceil-positive, factor-positive, floor_below, rounded-ordered}
use Rattle.fixed_interval.proofs.Shifts.{encloses_push, encloses_pushed}
use Rattle.queue_tail.specs.Tail.{GainsMultiple, GainsTail, IsMultipleOf, IsTailOf}

pub ratio-ordered : (w : Ends) (a b : ℕ) → 0 < b → w.lo ≤ w.hi → (ratio_ends w a b).lo ≤ (ratio_ends w a b).hi
ratio-ordered w a b some ordered = rounded-ordered b (w.lo * a) (w.hi * a) some (mul-le-mul_right a ordered)

-- the new weight's high end is in ratio to the low end l of a weight whose number is a
tail_high : (l h a f z calls rest : ℕ) → 0 < rest → rest * z ≡ calls * f → l * f ≤ h * a
    → l * z ≤ div_ceil (h * calls) rest * a
tail_high l h a f z calls rest some is cross =
    ceil_above (h * calls) rest a (l * z) some
    (omega (arith, ap (λ k. l * k) is, mul-le-mul_left calls cross))

-- and its low end to the high end h
tail_low : (l h a f z calls rest : ℕ) → 0 < rest → rest * z ≡ calls * f → l * a ≤ h * f
    → l * calls / rest * a ≤ h * z
tail_low l h a f z calls rest some is cross =
    floor_below (l * calls) rest a (h * z) some
    (omega (arith, ap (λ k. h * k) is, mul-le-mul_left calls cross))

-- if calls wait, calls come and all units are busy for a while
tail_live : (h f z calls rest : ℕ) → 0 < rest → rest * z ≡ calls * f → (1 ≤ f → 1 ≤ h) → 1 ≤ z
    → 1 ≤ div_ceil (h * calls) rest
tail_live h f z calls rest some is live waits =
    let flow : 0 < calls * f = omega (arith, is, mul-pos some waits) in
    let full : 0 < f = factor-positive 0 calls f flow in
    let come : 0 < calls = factor-positive 0 f calls (omega (arith, flow)) in
    div_ceil-positive (h * calls) rest some (mul-pos (live full) come)

-- weights that enclose masses enclose, with the weight of a multiple of the last of them, also that multiple
pub multiple_encloses : (num den : ℕ) (old new : List Ends) → 0 < den → 0 < length old
    → (ends_at old (length old - 1)).lo ≤ (ends_at old (length old - 1)).hi → GainsMultiple num den old new
    → (masses : List ℕ) (z : ℕ) → IsMultipleOf num den masses z → EnclosesAll old masses
    → EnclosesAll new (masses ++ z ∷ [])
multiple_encloses num den old new divisor some ordered gains masses z is e =
    let last : length masses - 1 ≡ length old - 1 = omega (arith, e.same_length) in
    let full : length old - 1 < length old = omega arith in
    let next : den * z ≡ num * slice_index masses (length old - 1) =
    is ∙ ap (λ k. num * slice_index masses k) last in
    encloses_pushed old new (ratio_ends (ends_at old (length old - 1)) num den) gains (masses ++ z ∷ [])
    (encloses_push old masses (ratio_ends (ends_at old (length old - 1)) num den) z
    (ratio-ordered (ends_at old (length old - 1)) num den divisor ordered)
    e
    (λ i inside.
    tail_high (ends_at old i).lo (ends_at old (length old - 1)).hi (slice_index masses i)
    (slice_index masses (length old - 1)) z num den divisor next
    (e.in_ratio i (length old - 1) inside full))
    (λ k inside.
    tail_low (ends_at old (length old - 1)).lo (ends_at old k).hi (slice_index masses k)
    (slice_index masses (length old - 1)) z num den divisor next
    (e.in_ratio (length old - 1) k full inside))
    (tail_live (ends_at old (length old - 1)).hi (slice_index masses (length old - 1)) z num den divisor
    next (e.positive (length old - 1) full)))

-- weights that enclose the masses of the words enclose, with the tail's weight, also the mass of all states in
-- which a call waits
pub tail_encloses : (calls service : ℕ) (old new : List Ends) → calls < service → 0 < length old
    → (ends_at old (length old - 1)).lo ≤ (ends_at old (length old - 1)).hi → GainsTail calls service old new
    → (masses : List ℕ) (z : ℕ) → IsTailOf calls service masses z → EnclosesAll old masses
    → EnclosesAll new (masses ++ z ∷ [])
tail_encloses calls service old new stable some ordered gains masses z is e =
    multiple_encloses calls (service - calls) old new (omega arith) some ordered gains masses z is e
