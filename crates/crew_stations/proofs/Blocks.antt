-- Numbers in blocks: the crews of a station are a block of numbers.
use Rattle.std.proofs.Common.{◌≡◌, ℕ, zero, suc, ◌+◌, ◌-◌, ◌<◌, ◌≤◌, Bool, true, false, cond, eqb, leb, ltb, ◌&&◌, ◌||◌, eq-eqb, eqb-true, true≢false, sym, ap, subst, ◌∙◌, inl, inr, arith}
use Rattle.std.specs.List.{list_any, count_by, range_with_len}
use Rattle.std.specs.Prelude.{All, ◌==◌}
use Rattle.std.proofs.lemmas.Bool.{and_parts, cases_lt, cases_eq}
use Rattle.std.proofs.lemmas.Bool.Decides.{nat_tests}
use Rattle.std.proofs.lemmas.List.Elements.{All-nil, All-cons}
use Rattle.std.proofs.lemmas.List.Sums.{sum_by-cons}
use Rattle.hyper_model.specs.Sums.{sum_below}
use Rattle.hyper_model.proofs.Sums.{on_test, same_test, sum-same, sum_none}
use Rattle.hyper_model.proofs.TravelTimes.{sum_grows}
use Rattle.crew_stations.specs.Lumps.{class_sum}
use Rattle.crew_stations.specs.Expanded.{station_among}

-- n is one of the c numbers from a on
abbrev pub is_within : ℕ → ℕ → ℕ → Bool
is_within a c n = leb a n && ltb n (a + c)

none_within : (a n : ℕ) → false ≡ (leb a n && ltb n (a + 0))
none_within a n = grind (arith, nat_tests)

next_within : (a c n : ℕ) → (eqb a n || (leb (a + 1) n && ltb n (a + 1 + c))) ≡ (leb a n && ltb n (a + suc c))
next_within a c n = grind (arith, nat_tests)

pub in_range : (a c n : ℕ) → list_any (λ m. m == n) (range_with_len a c) ≡ is_within a c n
in_range a zero n = none_within a n
in_range a (suc c) n = ap (λ b. eqb a n || b) (in_range (a + 1) c n) ∙ next_within a c n

count_none : (a n : ℕ) → cond {A = ℕ} (leb a n && ltb n (a + 0)) 1 0 ≡ 0
count_none a n = grind (arith, nat_tests)

count_next : (a c n : ℕ)
    → cond (eqb a n) 1 0 + cond (leb (a + 1) n && ltb n (a + 1 + c)) 1 0 ≡ cond {A = ℕ} (leb a n && ltb n (a + suc c)) 1 0
count_next a c n = grind (arith, nat_tests)

pub count_in_range : (a c n : ℕ) → count_by (λ m. m == n) (range_with_len a c) ≡ cond (is_within a c n) 1 0
count_in_range a zero n = sym (count_none a n)
count_in_range a (suc c) n =
    sum_by-cons (λ (m : ℕ). cond {A = ℕ} (m == n) 1 0) a (range_with_len (a + 1) c)
    ∙ ap (λ k. cond (eqb a n) 1 0 + k) (count_in_range (a + 1) c n)
    ∙ count_next a c n

pub range_below : (a c most : ℕ) → a + c ≤ most → All (λ n. n < most) (range_with_len a c)
range_below a zero most l = All-nil (λ n. n < most)
range_below a (suc c) most l =
    All-cons (λ n. n < most) a (range_with_len (a + 1) c) (omega (arith, l)) (range_below (a + 1) c most (omega (arith, l)))

-- how many of the first numbers are in a block
yes_within : (a c i : ℕ) → i < c → cond {A = ℕ} (leb a (a + i) && ltb (a + i) (a + c)) 1 0 ≡ 1
yes_within a c i l = grind (arith, nat_tests)

before_within : (a c n : ℕ) → n < a → cond {A = ℕ} (leb a n && ltb n (a + c)) 1 0 ≡ 0
before_within a c n l = grind (arith, nat_tests)

after_within : (a c m : ℕ) → cond {A = ℕ} (leb a (a + c + m) && ltb (a + c + m) (a + c)) 1 0 ≡ 0
after_within a c m = grind (arith, nat_tests)

count_inside : (a c i : ℕ) → i ≤ c → sum_below (a + i) (λ n. cond (is_within a c n) 1 0) ≡ i
count_inside a c zero l =
    ap (λ k. sum_below k (λ n. cond (is_within a c n) 1 0)) (let e : a + 0 ≡ a = omega arith in e)
    ∙ sum_none a (λ n. cond (is_within a c n) 1 0) (λ n h. before_within a c n h)
count_inside a c (suc i) l =
    ap (λ k. sum_below k (λ n. cond (is_within a c n) 1 0)) (let e : a + suc i ≡ suc (a + i) = omega arith in e)
    ∙ omega (arith, count_inside a c i (omega (arith, l)), yes_within a c i (omega (arith, l)))

count_after : (a c m : ℕ) → sum_below (a + c + m) (λ n. cond (is_within a c n) 1 0) ≡ c
count_after a c zero =
    ap (λ k. sum_below k (λ n. cond (is_within a c n) 1 0)) (let e : a + c + 0 ≡ a + c = omega arith in e)
    ∙ count_inside a c c (omega arith)
count_after a c (suc m) =
    ap (λ k. sum_below k (λ n. cond (is_within a c n) 1 0)) (let e : a + c + suc m ≡ suc (a + c + m) = omega arith in e)
    ∙ omega (arith, count_after a c m, after_within a c m)

pub count_block : (a c most : ℕ) → a + c ≤ most → sum_below most (λ n. cond (is_within a c n) 1 0) ≡ c
count_block a c most l =
    ap (λ k. sum_below k (λ n. cond (is_within a c n) 1 0)) (let e : most ≡ a + c + (most - (a + c)) = omega (arith, l) in e)
    ∙ count_after a c (most - (a + c))

module _ (crews : ℕ → ℕ) where
  -- a station's block of numbers
  pub record IsInBlock (k n : ℕ) : Type 0 where
    pub first : sum_below k crews ≤ n
    pub last : n < sum_below k crews + crews k

  at_most : (a b : ℕ) → leb a b ≡ true → a ≤ b
  at_most a b e = grind (arith, nat_tests, e)

  more : (a b : ℕ) → leb a b ≡ false → b < a
  more a b e = grind (arith, nat_tests, e)

  pub station_block : (count n : ℕ) → n < sum_below count crews
      → (station_among crews count n < count) × IsInBlock (station_among crews count n) n
  station_block zero n l = absurd (omega arith)
  station_block (suc k) n l = on_test (leb (sum_below k crews) n)
      (λ t.
      let is : station_among crews (suc k) n ≡ k = ap (λ c. cond c k (station_among crews k n)) t in (
        omega (arith, is),
        subst (λ m. IsInBlock m n) (sym is)
            (record { first = at_most (sum_below k crews) n t; last = l }),
      ))
      (λ f.
      let is : station_among crews (suc k) n ≡ station_among crews k n = ap (λ c. cond c k (station_among crews k n)) f in
      let rest = station_block k n (more (sum_below k crews) n f) in (
        omega (arith, is, rest.0),
        subst (λ m. IsInBlock m n) (sym is) rest.1,
      ))

  -- blocks are apart
  before : (k m n : ℕ) → k < m → IsInBlock k n → IsInBlock m n → ⊥
  before k m n l a b =
      let grown : sum_below (suc k) crews ≤ sum_below m crews = sum_grows (suc k) m crews (omega (arith, l)) in
      absurd (omega (arith, grown, a.last, b.first))

  pub one_block : (k m n : ℕ) → IsInBlock k n → IsInBlock m n → k ≡ m
  one_block k m n a b = elim (cases_lt k m) [
    | inl l ↦ absurd (before k m n l a b)
    | inr g ↦ elim (cases_eq k m) [
      | inl e ↦ e
      | inr ne ↦ absurd (before m k n (omega (arith, g, ne)) b a)
    ]
  ]

  module _ (count : ℕ) where
    pub station_is : (k n : ℕ) → k < count → IsInBlock k n → station_among crews count n ≡ k
    station_is k n l b =
        let grown : sum_below (suc k) crews ≤ sum_below count crews = sum_grows (suc k) count crews (omega (arith, l)) in
        one_block (station_among crews count n) k n
        (station_block count n (omega (arith, grown, b.last))).1 b

    -- the test of a station's block
    pub within_block : (k n : ℕ) → k < count → n < sum_below count crews
        → is_within (sum_below k crews) (crews k) n ≡ eqb k (station_among crews count n)
    within_block k n l h = on_test (eqb k (station_among crews count n))
        (λ t.
        let e : station_among crews count n ≡ k = sym (eqb-true k (station_among crews count n) t) in
        let block = subst (λ m. IsInBlock m n) e (station_block count n h).1 in
        is_yes (sum_below k crews) (crews k) n block.first block.last ∙ sym t)
        (λ f. on_test (is_within (sum_below k crews) (crews k) n)
        (λ t.
        let parts = and_parts (leb (sum_below k crews) n) (ltb n (sum_below k crews + crews k)) t in
        absurd (true≢false (sym (eq-eqb k (station_among crews count n)
        (sym (station_is k n l (record {
          first = at_most (sum_below k crews) n parts.0;
          last = less n (sum_below k crews + crews k) parts.1;
        })))) ∙ f)))
        (λ g. g ∙ sym f))
      where
        is_yes : (a c n : ℕ) → a ≤ n → n < a + c → (leb a n && ltb n (a + c)) ≡ true
        is_yes a c n h l = grind (arith, nat_tests)

        less : (a b : ℕ) → ltb a b ≡ true → a < b
        less a b e = grind (arith, nat_tests, e)

    -- a station has as many crews as its block
    pub block_count : (k : ℕ) → k < count
        → class_sum (sum_below count crews) (station_among crews count) (λ n. 1) k ≡ crews k
    block_count k l =
        let grown : sum_below (suc k) crews ≤ sum_below count crews = sum_grows (suc k) count crews (omega (arith, l)) in
        sum-same (sum_below count crews) (λ n. cond (eqb (station_among crews count n) k) 1 0)
        (λ n. cond (is_within (sum_below k crews) (crews k) n) 1 0)
        (λ n h. ap {B = ℕ} (λ c. cond c 1 0)
        (same_test (station_among crews count n) k k (station_among crews count n) (λ e. sym e) (λ e. sym e)
        ∙ sym (within_block k n l h)))
        ∙ count_block (sum_below k crews) (crews k) (sum_below count crews) grown
