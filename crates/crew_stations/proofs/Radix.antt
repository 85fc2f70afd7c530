-- Digits of a state: the number that is made of digits has these digits.
use Rattle.std.proofs.Common.{◌≡◌, ℕ, zero, suc, ◌+◌, ◌*◌, ◌/◌, ◌%◌, ◌<◌, ◌≤◌, refl, ap, ◌∙◌, inl, inr, arith}
use Rattle.std.proofs.lemmas.Bool.{cases_eq}
use Rattle.std.proofs.Math.Nat.{mul-pos, add-mul-div_left, div-eq_of_lt, add-mul-mod_self_left, mod-eq_of_lt, mul-le-mul_left}
use Rattle.hyper_model.specs.Sums.{sum_below}
use Rattle.crew_stations.specs.Stations.{stride}

module _ (crews : ℕ → ℕ) where
  pub stride_positive : (k : ℕ) → 0 < stride crews k
  stride_positive zero = omega arith
  stride_positive (suc k) = mul-pos (stride_positive k) (omega arith)

  module _ (c : ℕ → ℕ) where
    -- the number with these digits
    abbrev pub coded : ℕ → ℕ
    coded n = sum_below n (λ k. c k * stride crews k)

    pub coded_below : (n : ℕ) → ((k : ℕ) → k < n → c k ≤ crews k) → coded n < stride crews n
    coded_below zero h = omega arith
    coded_below (suc n) h =
        omega (
          arith,
          coded_below n (λ k l. h k (omega arith)),
          mul-le-mul_left (stride crews n) (h n (omega arith)),
        )

    -- the digits before place k, digit k, and those after it
    pub parts_at : (n k : ℕ) → k < n
        → (m : ℕ) × (coded n ≡ coded k + stride crews k * (c k + (crews k + 1) * m))
    parts_at zero k l = absurd (omega arith)
    parts_at (suc n) k l = elim (cases_eq k n) [
      | inl e ↦ (0, omega (arith, ap coded e, ap (λ i. c i * stride crews i) e))
      | inr ne ↦
          let rest = parts_at n k (omega (arith, l, ne)) in
          let above = above_at n k (omega (arith, l, ne)) in (
            rest.0 + c n * above.0,
            omega (arith, rest.1, ap (λ a. c n * a) above.1),
          )
    ]
      where
        above_at : (n k : ℕ) → k < n → (q : ℕ) × (stride crews n ≡ stride crews k * ((crews k + 1) * q))
        above_at zero k l = absurd (omega arith)
        above_at (suc n) k l = elim (cases_eq k n) [
          | inl e ↦ (1, omega (arith, ap (λ i. stride crews i * (crews i + 1)) e))
          | inr ne ↦
              let rest = above_at n k (omega (arith, l, ne)) in
              (rest.0 * (crews n + 1), omega (arith, ap (λ a. a * (crews n + 1)) rest.1))
        ]

    pub digit_is : (n k : ℕ) → ((i : ℕ) → i < n → c i ≤ crews i) → k < n
        → coded n / stride crews k % (crews k + 1) ≡ c k
    digit_is n k h l =
        let parts = parts_at n k l in
        let low = coded_below k (λ i g. h i (omega (arith, g, l))) in
        let quotient : coded n / stride crews k ≡ c k + (crews k + 1) * parts.0 =
        ap (λ a. a / stride crews k) parts.1
        ∙ add-mul-div_left (coded k) (c k + (crews k + 1) * parts.0) (stride_positive k)
        ∙ ap (λ a. a + (c k + (crews k + 1) * parts.0)) (div-eq_of_lt low)
        ∙ omega arith in
        ap (λ a. a % (crews k + 1)) quotient
        ∙ add-mul-mod_self_left (c k) (crews k + 1) parts.0
        ∙ mod-eq_of_lt (omega (arith, h k l))
    -- full digits make the last number

  pub full_code : (n : ℕ) → coded crews n + 1 ≡ stride crews n
  full_code zero = refl
  full_code (suc n) = omega (arith, full_code n)
