-- Words as sets of busy units: one unit turned, the word in which all are busy, and the word 0.
use Rattle.std.proofs.Common.{◌≡◌, ◌≢◌, ℕ, zero, suc, ◌+◌, ◌-◌, ◌*◌, ◌%◌, ◌^◌, ◌<◌, ◌⊎◌, Bool, true, false, not, eqb, refl, sym, ap, ◌∙◌, inl, inr, true≢false, eqb-true, arith, pow_pos}
use Rattle.std.specs.Int.{bit_at}
use Rattle.std.specs.Int.Bits.{bit_xor, xor_assoc, xor_self, xor_zero_r, xor_add_and}
use Rattle.std.proofs.lemmas.Bool.{cases_lt, eqb-false}
use Rattle.std.proofs.Math.Pow.{pow-lt}
use Rattle.std.proofs.lemmas.Bool.Decides.{nat_tests}
use Rattle.std.proofs.lemmas.Nat.{xor_lt}
use Rattle.std.proofs.lemmas.Nat.Bits.{bit_at_xor, bit_at-pow_same, bit_at-pow_other, bit_at-lt, bit_at-zero, bit_at_ones, bit_at_ones_above, bit_at_above, and_pow, same_from_bits}
use Rattle.hyper_model.specs.Words.{is_busy, turned_word}
use Rattle.hyper_model.proofs.Sums.{on_test}

pub busy_bit : (w n : ℕ) → is_busy w n ≡ true → bit_at w n ≡ 1
busy_bit w n h = eqb-true (bit_at w n) 1 h

pub free_bit : (w n : ℕ) → is_busy w n ≡ false → bit_at w n ≡ 0
free_bit w n h =
    let ne : bit_at w n ≢ 1 = eqb-false (bit_at w n) 1 h in omega (arith, bit_at-lt w n, ne)

pub turned_twice : (w n : ℕ) → turned_word (turned_word w n) n ≡ w
turned_twice w n =
    xor_assoc w (2 ^ n) (2 ^ n) ∙ ap (λ a. bit_xor w a) (xor_self (2 ^ n)) ∙ xor_zero_r w

pub turned_lt : (k w n : ℕ) → w < 2 ^ k → n < k → turned_word w n < 2 ^ k
turned_lt k w n h l = xor_lt k w (2 ^ n) h (pow-lt l)

other_digit : (a b c : ℕ) → a < 2 → b ≡ 1 → c ≡ (a + b) % 2 → eqb c 1 ≡ not (eqb a 1)
other_digit zero b c l e f = digit_of c (f ∙ ap (λ k. (0 + k) % 2) e)
  where
    digit_of : (c : ℕ) → c ≡ 1 → eqb c 1 ≡ true
    digit_of c e = grind (arith, nat_tests)
other_digit (suc zero) b c l e f = digit_of c (f ∙ ap (λ k. (1 + k) % 2) e)
  where
    digit_of : (c : ℕ) → c ≡ 0 → eqb c 1 ≡ false
    digit_of c e = grind (arith, nat_tests)
other_digit (suc (suc a)) b c l e f = absurd (omega arith)

-- the unit itself changes
pub busy_turned : (w n : ℕ) → is_busy (turned_word w n) n ≡ not (is_busy w n)
busy_turned w n =
    other_digit (bit_at w n) (bit_at (2 ^ n) n) (bit_at (turned_word w n) n) (bit_at-lt w n) (bit_at-pow_same n)
    (bit_at_xor w (2 ^ n) n)

same_digit : (a b c : ℕ) → a < 2 → b ≡ 0 → c ≡ (a + b) % 2 → c ≡ a
same_digit zero b c l e f = f ∙ ap (λ k. (0 + k) % 2) e
same_digit (suc zero) b c l e f = f ∙ ap (λ k. (1 + k) % 2) e
same_digit (suc (suc a)) b c l e f = absurd (omega arith)

-- and no other
pub busy_turned_other : (w n i : ℕ) → i ≢ n → is_busy (turned_word w n) i ≡ is_busy w i
busy_turned_other w n i ne =
    ap (λ a. eqb a 1)
    (same_digit (bit_at w i) (bit_at (2 ^ n) i) (bit_at (turned_word w n) i) (bit_at-lt w i) (bit_at-pow_other n i ne)
    (bit_at_xor w (2 ^ n) i))

pub turned_free : (w n : ℕ) → is_busy w n ≡ false → turned_word w n ≡ w + 2 ^ n
turned_free w n h =
    omega (arith, xor_add_and w (2 ^ n), and_pow w n, ap (λ a. a * 2 ^ n) (free_bit w n h))

pub turned_busy : (w n : ℕ) → is_busy w n ≡ true → turned_word w n + 2 ^ n ≡ w
turned_busy w n h =
    omega (arith, xor_add_and w (2 ^ n), and_pow w n, ap (λ a. a * 2 ^ n) (busy_bit w n h))

pub turned_up : (w n : ℕ) → is_busy w n ≡ false → w < turned_word w n
turned_up w n h = omega (arith, turned_free w n h, pow_pos n)

pub turned_down : (w n : ℕ) → is_busy w n ≡ true → turned_word w n < w
turned_down w n h = omega (arith, turned_busy w n h, pow_pos n)

pub full_busy : (k n : ℕ) → n < k → is_busy (2 ^ k - 1) n ≡ true
full_busy k n l = let e = bit_at_ones k n l in one (bit_at (2 ^ k - 1) n) e
  where
    one : (a : ℕ) → a ≡ 1 → eqb a 1 ≡ true
    one a e = grind (arith, nat_tests)

-- the first k units all pass a test, or one of them does not
pub all_or_one : (k : ℕ) (b : ℕ → Bool)
    → ((n : ℕ) → n < k → b n ≡ true) ⊎ ((n : ℕ) × (n < k) × (b n ≡ false))
all_or_one zero b = inl (λ n l. absurd (omega arith))
all_or_one (suc k) b = on_test (b k)
    (λ t. elim (all_or_one k b) [
      | inl all ↦ inl (λ n l. elim (cases_lt n k)
          [ inl m ↦ all n m | inr g ↦ let e : n ≡ k = omega arith in ap b e ∙ t ])
      | inr one ↦ inr (one.0, omega (arith, one.1), one.2)
    ])
    (λ f. inr (k, omega arith, f))

-- a word in which not all units are busy has a free one
pub free_exists : (k w : ℕ) → w < 2 ^ k → w ≢ 2 ^ k - 1 → (n : ℕ) × (n < k) × (is_busy w n ≡ false)
free_exists k w h ne = elim (all_or_one k (is_busy w)) [
  | inr one ↦ one
  | inl all ↦ absurd (ne (same_from_bits w (2 ^ k - 1) (λ i. elim (cases_lt i k) [
    | inl l ↦ busy_bit w i (all i l) ∙ sym (bit_at_ones k i l)
    | inr g ↦ bit_at_above w k i h g ∙ sym (bit_at_ones_above k i g)
  ])))
]

-- a word that is not 0 has a busy unit
pub busy_exists : (k w : ℕ) → w < 2 ^ k → 0 < w → (n : ℕ) × (n < k) × (is_busy w n ≡ true)
busy_exists k w h pos = elim (all_or_one k (λ n. not (is_busy w n))) [
  | inr one ↦ (one.0, one.1, not_back (is_busy w one.0) one.2)
  | inl all ↦
      let z : w ≡ 0 = same_from_bits w 0 (λ i. elim (cases_lt i k) [
        | inl l ↦ free_bit w i (not_true (is_busy w i) (all i l)) ∙ sym (bit_at-zero i)
        | inr g ↦ bit_at_above w k i h g ∙ sym (bit_at-zero i)
      ]) in
      absurd (omega arith)
]
  where
    not_back : (b : Bool) → not b ≡ false → b ≡ true
    not_back true e = refl
    not_back false e = absurd (true≢false e)

    not_true : (b : Bool) → not b ≡ true → b ≡ false
    not_true true e = absurd (true≢false (sym e))
    not_true false e = refl

-- only the full word has no free unit
pub free_is_not_full : (k w n : ℕ) → n < k → is_busy w n ≡ false → w ≢ 2 ^ k - 1
free_is_not_full k w n l f e = true≢false (sym (full_busy k n l) ∙ ap (λ a. is_busy a n) (sym e) ∙ f)

pub words_full : (k : ℕ) → 2 ^ k ≡ suc (2 ^ k - 1)
words_full k = omega (arith, pow_pos k)
