-- Tables in which each state but the first has a rate to an earlier one: a solution exists, each has a mass at
-- the first state, and any two are proportional. By induction on the number of states, without the last one.
use Rattle.std.proofs.Common.{◌≡◌, ℕ, zero, suc, ◌*◌, ◌<◌, List, map, sym, ap, subst, inl, inr, arith}
use Rattle.std.specs.List.{range_with_len}
use Rattle.std.proofs.lemmas.Bool.{cases_lt}
use Rattle.std.proofs.lemmas.List.FromFn.{length-map-range_with_len, get_or-map-range_with_len}
use Rattle.hyper_model.specs.Sums.{sum_below}
use Rattle.hyper_model.specs.Solutions.{mass_in}
use Rattle.hyper_model.specs.Tables.{RateTable, IsBalancedState, SolvesTable, Descends, HasTableSolution, IsFirstPositive, AreProportional}
use Rattle.hyper_model.proofs.Sums.{sum-same, sum-scaled, same_factor}
use Rattle.hyper_model.proofs.Tables.{without_last, last_place, restricted, extended, extended_solves, falls, smaller_descends}

one_state : (e : RateTable) → SolvesTable 1 e (λ i. 1)
one_state e = record {
  positive = omega arith;
  balanced = λ j l. let z : j ≡ 0 = omega arith in
      subst (λ a. IsBalancedState 1 e (λ i. 1) a) (sym z) (omega arith);
}

pub solution_exists : (n : ℕ) (e : RateTable) → 0 < n → Descends n e → (x : ℕ → ℕ) × SolvesTable n e x
solution_exists zero e h d = absurd (omega arith)
solution_exists (suc zero) e h d = (λ i. 1, one_state e)
solution_exists (suc (suc m)) e h d =
    let y = solution_exists (suc m) (without_last (suc m) e) (omega arith)
    (smaller_descends (suc m) e (omega arith) d) in
    (extended (suc m) e y.0, extended_solves (suc m) e y.0 (falls (suc m) e (omega arith) d) y.1)

pub first_positive : (n : ℕ) (e : RateTable) (x : ℕ → ℕ) → Descends n e → SolvesTable n e x → 0 < x 0
first_positive zero e x d s = absurd (omega (arith, s.positive))
first_positive (suc zero) e x d s = omega (arith, s.positive)
first_positive (suc (suc m)) e x d s =
    first_positive (suc m) (without_last (suc m) e) x (smaller_descends (suc m) e (omega arith) d)
    (restricted (suc m) e x (falls (suc m) e (omega arith) d) s)

-- if two solutions are proportional before the last state, they are so with it
with_last : (m : ℕ) (e : RateTable) (x y : ℕ → ℕ) → 0 < sum_below m (e m)
    → SolvesTable (suc m) e x → SolvesTable (suc m) e y
    → ((v w : ℕ) → v < m → w < m → x v * y w ≡ x w * y v) → (v : ℕ) → v < m → x v * y m ≡ x m * y v
with_last m e x y f s t h v l =
    same_factor (sum_below m (e m)) (x v * y m) (x m * y v) f
    (omega (
      arith,
      ap (λ a. x v * a) (last_place m e y t),
      ap (λ a. y v * a) (last_place m e x s),
      sum-scaled m (x v) (λ i. y i * e i m),
      sum-scaled m (y v) (λ i. x i * e i m),
      sum-same m (λ i. x v * (y i * e i m)) (λ i. y v * (x i * e i m))
          (λ i k. omega (arith, ap (λ a. a * e i m) (h v i l k))),
    ))

pub proportional : (n : ℕ) (e : RateTable) (x y : ℕ → ℕ) → Descends n e → SolvesTable n e x → SolvesTable n e y
    → (v w : ℕ) → v < n → w < n → x v * y w ≡ x w * y v
proportional zero e x y d s t v w l k = absurd (omega arith)
proportional (suc zero) e x y d s t v w l k =
    let same : v ≡ w = omega arith in
    omega (arith, ap (λ a. x a * y w) same, ap (λ a. x w * y a) same)
proportional (suc (suc m)) e x y d s t v w l k =
    let f = falls (suc m) e (omega arith) d in
    let below = proportional (suc m) (without_last (suc m) e) x y (smaller_descends (suc m) e (omega arith) d)
    (restricted (suc m) e x f s) (restricted (suc m) e y f t) in
    all_places (suc m) e x y f s t below v w l k
  where
    all_places : (m : ℕ) (e : RateTable) (x y : ℕ → ℕ) → 0 < sum_below m (e m)
        → SolvesTable (suc m) e x → SolvesTable (suc m) e y
        → ((v w : ℕ) → v < m → w < m → x v * y w ≡ x w * y v)
        → (v w : ℕ) → v < suc m → w < suc m → x v * y w ≡ x w * y v
    all_places m e x y f s t h v w l k = elim (cases_lt v m) [
      | inl a ↦ elim (cases_lt w m) [
        | inl b ↦ h v w a b
        | inr b ↦ let q : w ≡ m = omega arith in
            omega (arith, with_last m e x y f s t h v a, ap (λ c. x v * y c) q, ap (λ c. x c * y v) q)
      ]
      | inr a ↦ let p : v ≡ m = omega arith in elim (cases_lt w m) [
        | inl b ↦
            omega (arith, with_last m e x y f s t h w b, ap (λ c. x c * y w) p, ap (λ c. x w * y c) p)
        | inr b ↦ let q : v ≡ w = omega arith in
            omega (arith, ap (λ c. x c * y w) q, ap (λ c. x w * y c) q)
      ]
    ]

-- the first n values of a function, as a list
abbrev pub listed : ℕ → (ℕ → ℕ) → List ℕ
listed n x = map x (range_with_len 0 n)

pub listed_at : (n : ℕ) (x : ℕ → ℕ) (i : ℕ) → i < n → mass_in (listed n x) i ≡ x i
listed_at n x i l = get_or-map-range_with_len x 0 n i i 0 l (omega arith)

-- masses that are alike at the first n states solve alike
pub solves_alike : (n : ℕ) (e : RateTable) (x y : ℕ → ℕ) → ((i : ℕ) → i < n → y i ≡ x i)
    → SolvesTable n e x → SolvesTable n e y
solves_alike n e x y h s = record {
  positive = omega (arith, s.positive, sum-same n y x h);
  balanced = λ j l.
      omega (
        arith,
        s.balanced j l,
        ap (λ a. a * sum_below n (e j)) (h j l),
        sum-same n (λ i. y i * e i j) (λ i. x i * e i j) (λ i k. ap (λ a. a * e i j) (h i k)),
      );
}

-- the three laws, over lists
pub has_table_solution : (n : ℕ) (e : RateTable) → 0 < n → Descends n e → HasTableSolution n e
has_table_solution n e h d =
    let x = solution_exists n e h d in
    record {
      masses = listed n x.0;
      solves = record {
        one_each = length-map-range_with_len x.0 0 n;
        solves = solves_alike n e x.0 (mass_in (listed n x.0)) (listed_at n x.0) x.1;
      };
    }

pub is_first_positive : (n : ℕ) (e : RateTable) → Descends n e → IsFirstPositive n e
is_first_positive n e d xs s = first_positive n e (mass_in xs) d s.solves

pub are_proportional : (n : ℕ) (e : RateTable) → Descends n e → AreProportional n e
are_proportional n e d xs ys s t v w l k = proportional n e (mass_in xs) (mass_in ys) d s.solves t.solves v w l k
