-- Lemmas on `sum_below`.
use Rattle.std.proofs.Common.{◌≡◌, ◌≢◌, ℕ, zero, suc, ◌+◌, ◌*◌, ◌<◌, ◌≤◌, Bool, true, false, cond, not, eqb, eq-eqb, eqb-true, true≢false, refl, sym, ap, ◌∙◌, inl, inr, arith}
use Rattle.std.proofs.lemmas.Bool.{cases_lt, cases_eq}
use Rattle.std.proofs.lemmas.Bool.Decides.{nat_tests}
use Rattle.std.proofs.Math.Nat.{le_of_mul-le-mul_left}
use Rattle.hyper_model.specs.Sums.{sum_below}

-- a proof by whether a test holds
pub on_test : {A : Type 0} (b : Bool) → (b ≡ true → A) → (b ≡ false → A) → A
on_test true t f = t refl
on_test false t f = f refl

-- a factor falls out of an equation
pub same_factor : (k a b : ℕ) → 0 < k → k * a ≡ k * b → a ≡ b
same_factor k a b h e =
    let l : a ≤ b = le_of_mul-le-mul_left (let g : k * a ≤ k * b = omega (arith, e) in g) h in
    let g : b ≤ a = le_of_mul-le-mul_left (let g : k * b ≤ k * a = omega (arith, e) in g) h in
    omega arith

pub sum-scaled : (n k : ℕ) (f : ℕ → ℕ) → sum_below n (λ i. k * f i) ≡ k * sum_below n f
sum-scaled zero k f = omega arith
sum-scaled (suc n) k f = omega (arith, sum-scaled n k f)

pub sum-add : (n : ℕ) (f g : ℕ → ℕ) → sum_below n (λ i. f i + g i) ≡ sum_below n f + sum_below n g
sum-add zero f g = refl
sum-add (suc n) f g = omega (arith, sum-add n f g)

pub sum-same : (n : ℕ) (f g : ℕ → ℕ) → ((i : ℕ) → i < n → f i ≡ g i) → sum_below n f ≡ sum_below n g
sum-same zero f g h = refl
sum-same (suc n) f g h = omega (arith, sum-same n f g (λ i l. h i (omega arith)), h n (omega arith))

pub sum-le : (n : ℕ) (f g : ℕ → ℕ) → ((i : ℕ) → i < n → f i ≤ g i) → sum_below n f ≤ sum_below n g
sum-le zero f g h = omega arith
sum-le (suc n) f g h = omega (arith, sum-le n f g (λ i l. h i (omega arith)), h n (omega arith))

pub sum-constant : (n k : ℕ) → sum_below n (λ i. k) ≡ n * k
sum-constant zero k = omega arith
sum-constant (suc n) k = omega (arith, sum-constant n k)

pub sum_none : (n : ℕ) (f : ℕ → ℕ) → ((i : ℕ) → i < n → f i ≡ 0) → sum_below n f ≡ 0
sum_none zero f h = refl
sum_none (suc n) f h = omega (arith, sum_none n f (λ i l. h i (omega arith)), h n (omega arith))

pub place_le_sum : (n : ℕ) (f : ℕ → ℕ) (i : ℕ) → i < n → f i ≤ sum_below n f
place_le_sum zero f i h = absurd (omega arith)
place_le_sum (suc n) f i h = elim (cases_lt i n) [
  | inl l ↦ omega (arith, place_le_sum n f i l)
  | inr g ↦ let e : i ≡ n = omega arith in omega (arith, ap f e)
]

-- a positive sum has a positive place
pub positive_place : (n : ℕ) (f : ℕ → ℕ) → 0 < sum_below n f → (i : ℕ) × (i < n) × (0 < f i)
positive_place zero f h = absurd (omega arith)
positive_place (suc n) f h = elim (cases_lt 0 (f n)) [
  | inl l ↦ (n, omega arith, l)
  | inr g ↦ let rest = positive_place n f (omega arith) in (rest.0, omega (arith, rest.1), rest.2)
]

-- if g is f but for one place
pub sum_changed : (n : ℕ) (f g : ℕ → ℕ) (a : ℕ) → a < n → ((i : ℕ) → i < n → i ≢ a → f i ≡ g i)
    → sum_below n f + g a ≡ sum_below n g + f a
sum_changed zero f g a l h = absurd (omega arith)
sum_changed (suc n) f g a l h = elim (cases_eq a n) [
  | inl e ↦ omega (arith, ap f e, ap g e, sum-same n f g (λ i k. h i (omega arith) (omega arith)))
  | inr ne ↦ omega (
    arith,
    sum_changed n f g a (omega (arith, ne)) (λ i k q. h i (omega arith) q),
    h n (omega arith) (λ e. ne (sym e)),
  )
]

-- what is left of two sums, each place of f at most that of g, when one place is taken away
pub rest_le : (n : ℕ) (f g : ℕ → ℕ) (j : ℕ) → j < n → ((i : ℕ) → i < n → f i ≤ g i)
    → sum_below n f + g j ≤ sum_below n g + f j
rest_le zero f g j l h = absurd (omega arith)
rest_le (suc n) f g j l h = elim (cases_eq j n) [
  | inl e ↦ omega (arith, ap f e, ap g e, sum-le n f g (λ i k. h i (omega arith)))
  | inr ne ↦ omega (arith, rest_le n f g j (omega (arith, ne)) (λ i k. h i (omega arith)), h n (omega arith))
]

at_place : (f : ℕ → ℕ) (i a : ℕ) → i ≢ a → cond (eqb i a) (f i) 0 ≡ 0
at_place f i a ne = grind (arith, nat_tests)

at_itself : (f : ℕ → ℕ) (a : ℕ) → cond (eqb a a) (f a) 0 ≡ f a
at_itself f a = grind (arith, nat_tests)

-- the sum over the one place a
pub sum-at : (n : ℕ) (f : ℕ → ℕ) (a : ℕ) → a < n → sum_below n (λ i. cond (eqb i a) (f i) 0) ≡ f a
sum-at n f a l =
    omega (
      arith,
      sum_changed n (λ i. cond (eqb i a) (f i) 0) (λ i. 0) a l (λ i k ne. at_place f i a ne),
      sum_none n (λ i. 0) (λ i k. refl),
      at_itself f a,
    )

pub sum-swap : (n m : ℕ) (f : ℕ → ℕ → ℕ)
    → sum_below n (λ i. sum_below m (f i)) ≡ sum_below m (λ j. sum_below n (λ i. f i j))
sum-swap zero m f = sym (sum_none m (λ j. 0) (λ j l. refl))
sum-swap (suc n) m f =
    ap (λ a. a + sum_below m (f n)) (sum-swap n m f) ∙ sym (sum-add m (λ j. sum_below n (λ i. f i j)) (f n))

pub cond_split : (b : Bool) (k : ℕ) → cond b k 0 + cond (not b) k 0 ≡ k
cond_split true k = omega arith
cond_split false k = omega arith

-- the places that pass a test and those that do not
pub sum_split : (n : ℕ) (b : ℕ → Bool) (f : ℕ → ℕ)
    → sum_below n (λ i. cond (b i) (f i) 0) + sum_below n (λ i. cond (not (b i)) (f i) 0) ≡ sum_below n f
sum_split zero b f = refl
sum_split (suc n) b f = omega (arith, sum_split n b f, cond_split (b n) (f n))

pub cond_scaled : (b : Bool) (k a : ℕ) → k * cond b a 0 ≡ cond b (k * a) 0
cond_scaled true k a = refl
cond_scaled false k a = omega arith

-- a factor of the addends that pass a test is one of their sum
pub choices_scaled : (n k : ℕ) (test : ℕ → Bool) (f : ℕ → ℕ)
    → sum_below n (λ i. cond (test i) (k * f i) 0) ≡ k * sum_below n (λ i. cond (test i) (f i) 0)
choices_scaled n k test f =
    sum-same n (λ i. cond (test i) (k * f i) 0) (λ i. k * cond (test i) (f i) 0)
    (λ i l. sym (cond_scaled (test i) k (f i)))
    ∙ sum-scaled n k (λ i. cond (test i) (f i) 0)

-- an addend taken at the places that pass a test
pub choices_sum : (n k : ℕ) (b : ℕ → Bool)
    → sum_below n (λ i. cond (b i) k 0) ≡ k * sum_below n (λ i. cond (b i) 1 0)
choices_sum n k b =
    sum-same n (λ i. cond (b i) k 0) (λ i. k * cond (b i) 1 0) (λ i l. one k (b i))
    ∙ sum-scaled n k (λ i. cond (b i) 1 0)
  where
    one : (a : ℕ) (t : Bool) → cond t a 0 ≡ a * cond t 1 0
    one a true = omega arith
    one a false = omega arith

pub one_or_none : (b : Bool) → cond b 1 0 ≤ 1
one_or_none true = omega arith
one_or_none false = omega arith

-- a count is at most the number of places
pub count_le : (n : ℕ) (b : ℕ → Bool) → sum_below n (λ i. cond (b i) 1 0) ≤ n
count_le n b =
    omega (arith, sum-le n (λ i. cond (b i) 1 0) (λ i. 1) (λ i l. one_or_none (b i)), sum-constant n 1)

-- one place at most passes the test
pub count_of_one : (n : ℕ) (b : ℕ → Bool) (a : ℕ) → ((i : ℕ) → i < n → b i ≡ true → i ≡ a)
    → sum_below n (λ i. cond (b i) 1 0) ≤ 1
count_of_one zero b a h = omega arith
count_of_one (suc n) b a h = on_test (b n)
    (λ t.
    let none : sum_below n (λ i. cond (b i) 1 0) ≡ 0 =
    sum_none n (λ i. cond (b i) 1 0) (λ i l. on_test (b i)
    (λ s. absurd (let e : i ≡ n = h i (omega arith) s ∙ sym (h n (omega arith) t) in omega arith))
    (λ s. ap {B = ℕ} (λ c. cond c 1 0) s))
    in omega (arith, one_or_none (b n)))
    (λ f. omega (arith, ap {B = ℕ} (λ c. cond c 1 0) f, count_of_one n b a (λ i l. h i (omega arith))))

-- two tests of equality that hold together
pub same_test : (a b c d : ℕ) → (a ≡ b → c ≡ d) → (c ≡ d → a ≡ b) → eqb a b ≡ eqb c d
same_test a b c d there here = on_test (eqb a b)
    (λ t. t ∙ sym (eq-eqb c d (there (eqb-true a b t))))
    (λ f. on_test (eqb c d)
    (λ t. absurd (true≢false (sym (eq-eqb a b (here (eqb-true c d t))) ∙ f)))
    (λ g. f ∙ sym g))

-- a sum in another order of its places: `back` undoes `to`
pub sum-permuted : (n : ℕ) (to back : ℕ → ℕ) (f : ℕ → ℕ) → ((i : ℕ) → i < n → to i < n)
    → ((j : ℕ) → j < n → back j < n) → ((i : ℕ) → i < n → back (to i) ≡ i) → ((j : ℕ) → j < n → to (back j) ≡ j)
    → sum_below n (λ i. f (to i)) ≡ sum_below n f
sum-permuted n to back f inside outside left right =
    sum-same n (λ i. f (to i)) (λ i. sum_below n (λ j. cond (eqb j (to i)) (f j) 0))
    (λ i l. sym (sum-at n f (to i) (inside i l)))
    ∙ sum-swap n n (λ i j. cond (eqb j (to i)) (f j) 0)
    ∙ sum-same n (λ j. sum_below n (λ i. cond (eqb j (to i)) (f j) 0)) f (λ j l.
    sum-same n (λ i. cond (eqb j (to i)) (f j) 0) (λ i. cond (eqb i (back j)) (f j) 0)
    (λ i k. ap (λ c. cond c (f j) 0) (same_test j (to i) i (back j)
    (λ e. sym (left i k) ∙ ap back (sym e)) (λ e. sym (right j l) ∙ ap to (sym e))))
    ∙ sum-at n (λ i. f j) (back j) (outside j l))
