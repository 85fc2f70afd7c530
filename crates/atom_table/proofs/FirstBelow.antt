-- The first number below another that passes a test.
use Rattle.std.proofs.Common.{◌≡◌, ℕ, zero, suc, ◌+◌, ◌-◌, ◌<◌, ◌≤◌, List, ◌∷◌, true, false, refl, inl, inr, arith}
use Rattle.std.specs.Prelude.{Bool, Some, None, find}
use Rattle.std.specs.List.{range_with_len}
use Rattle.std.proofs.lemmas.Bool.{cases_eq}

-- the numbers from k on, below n
abbrev pub numbers_from : ℕ → ℕ → List ℕ
numbers_from k n = range_with_len k (n - k)

numbers_more : (k n : ℕ) → k < n → numbers_from k n ≡ k ∷ numbers_from (k + 1) n
numbers_more k n lt =
    let one : n - k ≡ suc (n - (k + 1)) = omega arith in
    rw one refl

-- the number k passes
pub find-here : (test : ℕ → Bool) (k n : ℕ) → k < n → test k ≡ true → find test (numbers_from k n) ≡ Some k
find-here test k n lt passes = rw (numbers_more k n lt, passes) refl

-- it does not
pub find-more : (test : ℕ → Bool) (k n : ℕ) → k < n → test k ≡ false
    → find test (numbers_from k n) ≡ find test (numbers_from (k + 1) n)
find-more test k n lt fails = rw (numbers_more k n lt, fails) refl

-- none is left
pub find-done : (test : ℕ → Bool) (k n : ℕ) → n ≤ k → find test (numbers_from k n) ≡ None
find-done test k n le =
    let none : n - k ≡ 0 = omega arith in
    rw none refl

-- two tests that agree below n
pub find-same : (f g : ℕ → Bool) (a n : ℕ) → ((k : ℕ) → a ≤ k → k < a + n → f k ≡ g k)
    → find f (range_with_len a n) ≡ find g (range_with_len a n)
find-same f g a zero h = refl
find-same f g a (suc n) h =
    let rest = find-same f g (a + 1) n (λ k low high. h k (omega arith) (omega arith)) in
    rw (h a (omega arith) (omega arith), rest) refl

-- if none passes, each number below n fails
pub find-none : (test : ℕ → Bool) (a n : ℕ) → find test (range_with_len a n) ≡ None
    → (k : ℕ) → a ≤ k → k < a + n → test k ≡ false
find-none test a zero h k low high = absurd (omega arith)
find-none test a (suc n) h k low high = by (test a) refl h (λ rest next. find-none test (a + 1) n rest k next (omega arith))
  where
    by : (b : Bool) → test a ≡ b → find test (range_with_len a (suc n)) ≡ None
        → (find test (range_with_len (a + 1) n) ≡ None → a + 1 ≤ k → test k ≡ false) → test k ≡ false
    by true e q more = let found : Some a ≡ None = rw e at q in absurd (cc)
    by false e q more =
        let rest : find test (range_with_len (a + 1) n) ≡ None = rw e at q in
        elim (cases_eq k a) [ inl same ↦ rw same e | inr ne ↦ more rest (omega (arith, ne)) ]
