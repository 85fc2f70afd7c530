-- The number of busy units of a word is the number of ones among its digits.
use Rattle.std.proofs.Common.{◌≡◌, ℕ, zero, suc, ◌+◌, ◌/◌, ◌%◌, ◌^◌, ◌<◌, ◌≤◌, cond, eqb, refl, ap, arith}
use Rattle.std.specs.Int.{bit_at}
use Rattle.std.specs.Int.RustNames.{count_ones}
use Rattle.std.proofs.lemmas.Nat.{ones_le_self}
use Rattle.std.proofs.lemmas.Nat.Bits.{bit_at_lowest, bit_at-suc, bit_at-lt}
use lib.Count.{ones_step}
use Rattle.hyper_model.specs.Sums.{sum_below}
use Rattle.hyper_model.specs.Words.{is_busy}
use Rattle.hyper_model.specs.Laws.{level}
use Rattle.hyper_model.proofs.Sums.{sum-same, count_le}

-- the first addend apart
pub sum-front : (n : ℕ) (f : ℕ → ℕ) → sum_below (suc n) f ≡ f 0 + sum_below n (λ i. f (suc i))
sum-front zero f = omega arith
sum-front (suc n) f = omega (arith, sum-front n f)

digit_value : (d : ℕ) → d < 2 → cond (eqb d 1) 1 0 ≡ d
digit_value zero h = refl
digit_value (suc zero) h = refl
digit_value (suc (suc d)) h = absurd (omega arith)

half_below : (n w : ℕ) → w < 2 ^ suc n → w / 2 < 2 ^ n
half_below n w h = omega arith

pub level-half : (n w : ℕ) → level (suc n) w ≡ w % 2 + level n (w / 2)
level-half n w =
    let lowest = digit_value (bit_at w 0) (bit_at-lt w 0) in
    let rest = sum-same n (λ i. cond (is_busy w (suc i)) 1 0) (λ i. cond (is_busy (w / 2) i) 1 0)
    (λ i l. ap {B = ℕ} (λ b. cond (eqb b 1) 1 0) (bit_at-suc w i)) in
    omega (arith, sum-front n (λ i. cond (is_busy w i) 1 0), lowest, bit_at_lowest w, rest)

pub ones_are_level : (n w : ℕ) → w < 2 ^ n → count_ones w ≡ level n w
ones_are_level zero w h = omega (arith, ones_le_self w)
ones_are_level (suc n) w h =
    omega (arith, ones_step w, level-half n w, ones_are_level n (w / 2) (half_below n w h))

pub level_le : (n w : ℕ) → level n w ≤ n
level_le n w = count_le n (is_busy w)
