-- The discrete maximum principle, and what follows of it: a certificate bounds every solution. A state at which a
-- sub-solution is largest against a super-solution is either the reference, or has no mass in the sub-solution.
use Rattle.std.proofs.Common.{◌≡◌, ◌≢◌, ℕ, zero, suc, ◌+◌, ◌*◌, ◌<◌, ◌≤◌, List, length, inl, inr, sym, subst, arith}
use Rattle.std.proofs.lemmas.Bool.{cases_eq, cases_lt}
use Rattle.std.proofs.Math.Nat.{le_of_mul-le-mul_left, mul-le-mul_left, mul-le-mul_right, mul-pos}
use Rattle.fixed_interval.specs.Ends.{Ends}
use Rattle.fixed_interval.specs.WeightList.{EnclosesAll}
use Rattle.fixed_interval.proofs.Rounding.{factor-positive}
use Rattle.hyper_model.specs.Solutions.{mass_in}
use Rattle.hyper_model.specs.Sums.{sum_below}
use Rattle.hyper_model.specs.Tables.{RateTable, IsTableSolution, SolvesTable}
use Rattle.hyper_model.proofs.Sums.{positive_place, sum-add, sum-le, sum-same, sum-scaled}
use Rattle.state_certificate.specs.Certificates.{AreCertified, BoundSolutions, CertificatesBound, CertifiedEnclose, IsCertificate, IsDrainedState, IsFedState, IsSubSolution, IsSuperSolution, ObeysMaximumPrinciple, high_ends, inflow, low_ends, outflow}

-- two ratios in a row: a / b at most c / d, and c / d at most e / f
ratio-trans : (a b c d e f : ℕ) → 0 < d → a * d ≤ c * b → c * f ≤ e * d → a * f ≤ e * b
ratio-trans a b c d e f pos first second =
    le_of_mul-le-mul_left
    (let g : d * (a * f) ≤ d * (e * b) = omega (arith, mul-le-mul_right f first, mul-le-mul_right b second) in g) pos

-- among the first n states x is nowhere larger against y than at w
record IsPeak (n : ℕ) (x y : ℕ → ℕ) (w : ℕ) : Type 0 where
  inside : w < n
  most : (v : ℕ) → v < n → x v * y w ≤ x w * y v

-- one state more, and the peak among the states before it
later_peak : (n : ℕ) (x y : ℕ → ℕ) (w : ℕ) → 0 < y w → 0 < y n → IsPeak n x y w → (v : ℕ) × IsPeak (suc n) x y v
later_peak n x y w pos last peak = elim (cases_lt (x w * y n) (x n * y w)) [
  | inl more ↦ (
    n,
    record {
      inside = omega arith;
      most = λ v l. elim (cases_eq v n) [
        | inl e ↦ subst (λ a. x a * y n ≤ x n * y a) (sym e) (omega arith)
        | inr ne ↦ ratio-trans (x v) (y v) (x w) (y w) (x n) (y n) pos (peak.most v (omega (arith, ne))) (omega arith)
      ];
    },
  )
  | inr less ↦ (
    w,
    record {
      inside = omega (arith, peak.inside);
      most = λ v l. elim (cases_eq v n) [
        | inl e ↦ subst (λ a. x a * y w ≤ x w * y a) (sym e) less
        | inr ne ↦ peak.most v (omega (arith, ne))
      ];
    },
  )
]

has_peak : (n : ℕ) (x y : ℕ → ℕ) → 0 < n → ((v : ℕ) → v < n → 0 < y v) → (w : ℕ) × IsPeak n x y w
has_peak zero x y some pos = absurd (omega arith)
has_peak (suc zero) x y some pos = (
  0,
  record {
    inside = omega arith;
    most = λ v l. let e : 0 ≡ v = omega arith in subst (λ a. x a * y 0 ≤ x 0 * y a) e (omega arith);
  },
)
has_peak (suc (suc n)) x y some pos =
    let before = has_peak (suc n) x y (omega arith) (λ v l. pos v (omega arith)) in
    later_peak (suc n) x y before.0 (pos before.0 (omega (arith, before.1.inside))) (pos (suc n) (omega arith)) before.1

-- at the peak x gains no more by the inflow, against y, than it has
peak_inflow : (n : ℕ) (rate : RateTable) (x y : ℕ → ℕ) (w : ℕ) → IsPeak n x y w
    → y w * inflow n rate x w ≤ x w * inflow n rate y w
peak_inflow n rate x y w peak =
    omega (
      arith,
      sum-scaled n (y w) (λ i. x i * rate i w),
      sum-scaled n (x w) (λ i. y i * rate i w),
      sum-le n (λ i. y w * (x i * rate i w)) (λ i. x w * (y i * rate i w))
          (λ i l. omega (arith, mul-le-mul_right (rate i w) (peak.most i l))),
    )

-- so a peak that is fed in x and drained in y has no mass in x
peak_empty : (n : ℕ) (rate : RateTable) (x y : ℕ → ℕ) (w : ℕ) → IsPeak n x y w → IsFedState n rate x w
    → IsDrainedState n rate y w → x w ≡ 0
peak_empty n rate x y w peak fed drained = elim (cases_lt 0 (x w)) [
  | inr none ↦ omega arith
  | inl some ↦
      absurd (omega (arith, peak_inflow n rate x y w peak, mul-le-mul_left (y w) fed, mul-le-mul_left (x w) drained))
]

-- a state that is drained has a mass
drained_positive : (n : ℕ) (rate : RateTable) (y : ℕ → ℕ) (j : ℕ) → IsDrainedState n rate y j → 0 < y j
drained_positive n rate y j drained =
    factor-positive 0 (sum_below n (rate j)) (y j) (omega (arith, drained))

super_positive : (n : ℕ) (rate : RateTable) (reference : ℕ) (y : ℕ → ℕ) → 0 < y reference → IsSuperSolution n rate reference y
    → (j : ℕ) → j < n → 0 < y j
super_positive n rate reference y pos above j l = elim (cases_eq j reference) [
  | inl e ↦ subst (λ a. 0 < y a) (sym e) pos
  | inr ne ↦ drained_positive n rate y j (above j l ne)
]

-- x is nowhere larger against y than at the reference
pub maximum_principle : (n : ℕ) (rate : RateTable) → ObeysMaximumPrinciple n rate
maximum_principle n rate reference x y inside pos sub super j l =
    let each = super_positive n rate reference y pos super in
    let top = has_peak n x y (omega arith) each in
    elim (cases_eq top.0 reference) [
      | inl e ↦ let most : x j * y reference ≤ x reference * y j = subst (λ w. x j * y w ≤ x w * y j) e (top.1.most j l) in
          omega (arith, most)
      | inr ne ↦
          let none = peak_empty n rate x y top.0 top.1 (sub top.0 top.1.inside ne) (super top.0 top.1.inside ne) in
          let here : x j ≡ 0 = no_mass (x j) (y top.0) (x top.0) (y j) (each top.0 top.1.inside) none (top.1.most j l) in
          rw here (omega arith)
    ]
  where
    no_mass : (a b c d : ℕ) → 0 < b → c ≡ 0 → a * b ≤ c * d → a ≡ 0
    no_mass a b c d some none most = elim (cases_lt 0 a) [
      | inr less ↦ omega arith
      | inl more ↦ absurd (let g : a * b ≤ 0 * d = rw none at most in omega (arith, g, mul-pos more some))
    ]

-- a number that is at most another one for each multiple, but for one constant, is at most that one
dominated : (a b c : ℕ) → ((k : ℕ) → k * a ≤ k * b + c) → a ≤ b
dominated a b c each = elim (cases_lt b a) [
  | inr less ↦ less
  | inl more ↦ absurd (omega (arith, each (suc c), mul-le-mul_left (suc c) more))
]

-- two bounds by way of the reference, low at most high there, meet
bounds_meet : (a b c d r l h : ℕ) → 0 < h → l ≤ h → a * r ≤ c * l → d * h ≤ b * r → a * d ≤ b * c
bounds_meet a b c d r l h pos ordered low high =
    le_of_mul-le-mul_left
    (let g : h * (a * d) ≤ h * (b * c) =
    omega (arith, mul-le-mul_left a high, mul-le-mul_left b low, mul-le-mul_left (b * c) ordered) in g) pos

module _ (n : ℕ) (rate : RateTable) (x : ℕ → ℕ) (s : SolvesTable n rate x) where
  -- a solution is fed everywhere
  solution_fed : (reference : ℕ) → IsSubSolution n rate reference x
  solution_fed reference j l ne = omega (arith, s.balanced j l)

  -- a super-solution with any multiple of a solution is a super-solution
  still_drained : (reference : ℕ) (y : ℕ → ℕ) (k : ℕ) → IsSuperSolution n rate reference y
      → IsSuperSolution n rate reference (λ i. k * x i + y i)
  still_drained reference y k super j l ne =
      omega (
        arith,
        super j l ne,
        mul_eq k (x j * sum_below n (rate j)) (inflow n rate x j) (s.balanced j l),
        sum-same n (λ i. (k * x i + y i) * rate i j) (λ i. k * (x i * rate i j) + y i * rate i j) (λ i m. omega arith),
        sum-add n (λ i. k * (x i * rate i j)) (λ i. y i * rate i j),
        sum-scaled n k (λ i. x i * rate i j),
      )
    where
      mul_eq : (k a b : ℕ) → a ≡ b → k * a ≡ k * b
      mul_eq k a b e = rw e (omega arith)

  module _ (low high : ℕ → ℕ) (reference : ℕ) (c : IsCertificate n rate reference low high) where
    solution_below : (j : ℕ) → j < n → x j * high reference ≤ high j * x reference
    solution_below = maximum_principle n rate reference x high c.inside c.positive (solution_fed reference) c.above

    solution_above : (j : ℕ) → j < n → low j * x reference ≤ x j * low reference
    solution_above j l =
        dominated (low j * x reference) (x j * low reference) (high j * low reference) (λ k.
        omega (
          arith,
          maximum_principle n rate reference low (λ i. k * x i + high i) c.inside (omega (arith, c.positive)) c.below
              (still_drained reference high k c.above) j l,
        ))

    between : (i k : ℕ) → i < n → k < n → low i * x k ≤ high k * x i
    between i k l m =
        bounds_meet (low i) (high k) (x i) (x k) (x reference) (low reference) (high reference) c.positive c.ordered
        (solution_above i l) (solution_below k m)

pub certificates_bound : (n : ℕ) (rate : RateTable) → CertificatesBound n rate
certificates_bound n rate low high c = record {
  positive = super_positive n rate c.reference high c.holds.positive c.holds.above;
  in_ratio = λ x s. between n rate x s low high c.reference c.holds;
}

pub certified_enclose : (n : ℕ) (rate : RateTable) → CertifiedEnclose n rate
certified_enclose n rate items masses one_each c s =
    let bound = certificates_bound n rate (low_ends items) (high_ends items) c in
    record {
      same_length = omega (arith, one_each, s.one_each);
      in_ratio = λ i k l m. bound.in_ratio (mass_in masses) s.solves i k (omega arith) (omega arith);
      positive = λ k l some. bound.positive k (omega arith);
    }
