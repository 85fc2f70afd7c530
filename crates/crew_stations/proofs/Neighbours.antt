-- One busy crew more or less at a station: the neighbours of a state, and their digits.
use Rattle.std.proofs.Common.{◌≡◌, ℕ, zero, suc, ◌+◌, ◌*◌, ◌/◌, ◌%◌, ◌<◌, ◌≤◌, ap, ◌∙◌, inl, inr, arith}
use Rattle.std.proofs.lemmas.Bool.{cases_lt, cases_eq}
use Rattle.std.proofs.Math.Nat.{mod-add-div, mod-lt, add-mul-div_left, div-eq_of_lt, add-mul-mod_self_left, mod-eq_of_lt, mul-le-mul_left}
use Rattle.crew_stations.specs.Stations.{stride}
use Rattle.crew_stations.proofs.Radix.{stride_positive}

-- the last digit after one more: one more, or 0 from the highest
next_digit : (q c : ℕ) → q % (c + 1) < c → (q + 1) % (c + 1) ≡ q % (c + 1) + 1
next_digit q c l =
    ap (λ a. a % (c + 1))
    (let e : q + 1 ≡ q % (c + 1) + 1 + (c + 1) * (q / (c + 1)) = omega (arith, mod-add-div q (c + 1)) in e)
    ∙ add-mul-mod_self_left (q % (c + 1) + 1) (c + 1) (q / (c + 1))
    ∙ mod-eq_of_lt (omega (arith, l))

carry_digit : (q c : ℕ) → q % (c + 1) ≡ c → (q + 1) % (c + 1) ≡ 0
carry_digit q c e =
    ap (λ a. a % (c + 1))
    (let e : q + 1 ≡ 0 + (c + 1) * (q / (c + 1) + 1) = omega (arith, mod-add-div q (c + 1), e) in e)
    ∙ add-mul-mod_self_left 0 (c + 1) (q / (c + 1) + 1)
    ∙ mod-eq_of_lt (omega arith)

module _ (crews : ℕ → ℕ) (k : ℕ) where
  abbrev pub digit : ℕ → ℕ
  digit a = a / stride crews k % (crews k + 1)

  quotient_up : (a : ℕ) → (a + stride crews k) / stride crews k ≡ a / stride crews k + 1
  quotient_up a =
      ap (λ b. b / stride crews k) (let e : a + stride crews k ≡ a + stride crews k * 1 = omega arith in e)
      ∙ add-mul-div_left a 1 (stride_positive crews k)

  pub digit_le : (a : ℕ) → digit a ≤ crews k
  digit_le a = let l : digit a < crews k + 1 = mod-lt (a / stride crews k) (omega arith) in omega (arith, l)

  pub digit_up : (a : ℕ) → digit a < crews k → digit (a + stride crews k) ≡ digit a + 1
  digit_up a l = ap (λ q. q % (crews k + 1)) (quotient_up a) ∙ next_digit (a / stride crews k) (crews k) l

  pub digit_carry : (a : ℕ) → digit a ≡ crews k → digit (a + stride crews k) ≡ 0
  digit_carry a e = ap (λ q. q % (crews k + 1)) (quotient_up a) ∙ carry_digit (a / stride crews k) (crews k) e

  pub digit_low : (a : ℕ) → a < stride crews k → digit a ≡ 0
  digit_low a l = ap (λ q. q % (crews k + 1)) (div-eq_of_lt l) ∙ mod-eq_of_lt (omega arith)

  above_at : (n : ℕ) → k < n → (q : ℕ) × (stride crews n ≡ stride crews k * ((crews k + 1) * q))
  above_at zero l = absurd (omega arith)
  above_at (suc n) l = elim (cases_eq k n) [
    | inl e ↦ (1, omega (arith, ap (λ i. stride crews i * (crews i + 1)) e))
    | inr ne ↦
        let rest = above_at n (omega (arith, l, ne)) in
        (rest.0 * (crews n + 1), omega (arith, ap (λ a. a * (crews n + 1)) rest.1))
  ]

  -- plain numbers: with a last digit that is not the highest there is room for one more
  room_above : (d c m b q t : ℕ) → 0 < d → q % (c + 1) < c → b % d + d * q ≡ b → q % (c + 1) + (c + 1) * t ≡ q
      → b < d * ((c + 1) * m) → b % d < d → b + d < d * ((c + 1) * m)
  room_above d c m b q t pos low whole parts l rest =
      let few : q < (c + 1) * m = elim (cases_lt q ((c + 1) * m)) [
        | inl h ↦ h
        | inr g ↦ let more : (c + 1) * m ≤ q = omega (arith, g) in absurd (omega (arith, mul-le-mul_left d more, whole, l))
      ] in
      let less : t + 1 ≤ m = elim (cases_lt t m) [
        | inl h ↦ omega (arith, h)
        | inr g ↦ let more : m ≤ t = omega (arith, g) in
            absurd (omega (arith, mul-le-mul_left (c + 1) more, parts, few))
      ] in
      let two : q + 2 ≤ (c + 1) * m = omega (arith, mul-le-mul_left (c + 1) less, parts, low) in
      omega (arith, mul-le-mul_left d two, whole, rest)

  pub up_below : (n a : ℕ) → k < n → a < stride crews n → digit a < crews k → a + stride crews k < stride crews n
  up_below n a l h low =
      let above = above_at n l in
      omega (
        arith,
        above.1,
        room_above (stride crews k) (crews k) above.0 a (a / stride crews k) (a / stride crews k / (crews k + 1))
            (stride_positive crews k) low (mod-add-div a (stride crews k))
            (mod-add-div (a / stride crews k) (crews k + 1)) (omega (arith, h, above.1))
            (mod-lt a (stride_positive crews k)),
      )
