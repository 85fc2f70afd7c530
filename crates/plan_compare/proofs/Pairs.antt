-- The pairs of plans, and how many there are.
use Rattle.std.proofs.Common.{◌≡◌, ℕ, zero, suc, ◌+◌, ◌-◌, ◌*◌, ◌/◌, ◌<◌, ◌≤◌, ◌∙◌, sym, ap, refl, arith, List, [], ◌∷◌, ◌++◌, length, map, length-append}
use Rattle.std.specs.Prelude.{sum_by}
use Rattle.std.specs.List.{flat_map, range_with_len}
use Rattle.std.proofs.lemmas.List.{map-append}
use Rattle.std.proofs.lemmas.List.Concat.{length-flat_map}
use Rattle.std.proofs.lemmas.List.Sums.{sum_by-cons}
use Rattle.std.proofs.lemmas.List.FromFn.{length-map-range_with_len, map-range_with_len_more}
use Rattle.hyper_model.specs.declared.kinds.Measure.{Measure}
use Rattle.plan_compare.specs.Studies.{StudyParts}
use Rattle.plan_compare.specs.Verdicts.{PlanPair, pairs_from, pairs_of, all_pairs}
use Rattle.text_lines.proofs.Pieces.{one_gained, numbers_next, range_first}

abbrev pub pair : Measure → ℕ → ℕ → PlanPair
pair m a b = record { measure = m; first = a; second = b }

pub pairs_from-length : (n : ℕ) (m : Measure) (a : ℕ) → length (pairs_from n m a) ≡ n - (a + 1)
pairs_from-length n m a = length-map-range_with_len (pair m a) (a + 1) (n - (a + 1))

-- a plan has no pair with itself
pub pairs_from-none : (m : Measure) (a : ℕ) → pairs_from (a + 1) m a ≡ []
pairs_from-none m a =
    let e : a + 1 - (a + 1) ≡ 0 = omega arith in rw e refl

pub pairs_from-next : (m : Measure) (a b : ℕ) → a < b
    → pairs_from (b + 1) m a ≡ pairs_from b m a ++ pair m a b ∷ []
pairs_from-next m a b h =
    let e : b + 1 - (a + 1) ≡ b - (a + 1) + 1 = omega arith in
    ap (λ k. map (pair m a) (range_with_len (a + 1) k)) e
    ∙ map-range_with_len_more (pair m a) (a + 1) (b - (a + 1)) b (omega arith)

-- twice the pairs of the first k of n plans
twice_pairs : (n : ℕ) (m : Measure) (k : ℕ) → k ≤ n
    → 2 * length (flat_map (pairs_from n m) (range_with_len 0 k)) + (k * k + k) ≡ 2 * (n * k)
twice_pairs n m zero h = omega arith
twice_pairs n m (suc k) h =
    let before = twice_pairs n m k (omega arith) in
    let next : length (flat_map (pairs_from n m) (range_with_len 0 (suc k))) ≡ length (flat_map (pairs_from n m) (range_with_len 0 k)) + (n - (k + 1)) =
    (let e : suc k ≡ k + 1 = omega arith in
    ap (λ j. length (flat_map (pairs_from n m) (range_with_len 0 j))) e
    ∙ ap length (numbers_next (pairs_from n m) k)
    ∙ length-append (flat_map (pairs_from n m) (range_with_len 0 k)) (pairs_from n m k)
    ∙ ap (λ j. length (flat_map (pairs_from n m) (range_with_len 0 k)) + j) (pairs_from-length n m k)) in
    let square : suc k * suc k ≡ k * k + 2 * k + 1 = grind arith in
    let times : n * suc k ≡ n * k + n = grind arith in
    omega (arith, before, next, square, times)

pub pairs_of-length : (n : ℕ) (m : Measure) → length (pairs_of n m) ≡ n * (n - 1) / 2
pairs_of-length n m =
    let twice = twice_pairs n m n (omega arith) in
    let less : n * (n - 1) + n ≡ n * n = product n in
    omega (arith, twice, less)
  where
    product : (k : ℕ) → k * (k - 1) + k ≡ k * k
    product zero = refl
    product (suc k) = let e : suc k - 1 ≡ k = omega arith in rw e (grind arith)

once_more : (n k : ℕ) → suc n * k ≡ n * k + k
once_more n k = grind arith

sum_of_same : {A : Type 0} (f : A → ℕ) (k : ℕ) (xs : List A) → ((x : A) → f x ≡ k) → sum_by f xs ≡ length xs * k
sum_of_same f k [] e = omega arith
sum_of_same f k (x ∷ xs) e =
    let first = e x in
    let rest = sum_of_same f k xs e in
    let times : length (x ∷ xs) * k ≡ length xs * k + k = once_more (length xs) k in
    omega (arith, sum_by-cons f x xs, first, rest, times)

pub all_pairs-length : (study : StudyParts) (count : ℕ) → ((m : Measure) → count ≡ length (pairs_of (length study.plans) m))
    → length (all_pairs study) ≡ length study.measures * count
all_pairs-length study count e =
    length-flat_map (pairs_of (length study.plans)) study.measures
    ∙ sum_of_same (λ m. length (pairs_of (length study.plans) m)) count study.measures (λ m. sym (e m))

-- the pairs of the plans from this place on
pub pairs_left : (n : ℕ) (m : Measure) (a : ℕ) → a < n
    → flat_map (pairs_from n m) (range_with_len a (n - a))
    ≡ pairs_from n m a ++ flat_map (pairs_from n m) (range_with_len (a + 1) (n - (a + 1)))
pairs_left n m a h = ap (λ ks. flat_map (pairs_from n m) ks) (range_first a n h)

pub pairs_left-length : (n : ℕ) (m : Measure) (a : ℕ) → a < n
    → length (flat_map (pairs_from n m) (range_with_len a (n - a)))
    ≡ n - (a + 1) + length (flat_map (pairs_from n m) (range_with_len (a + 1) (n - (a + 1))))
pairs_left-length n m a h =
    ap length (pairs_left n m a h)
    ∙ length-append (pairs_from n m a) (flat_map (pairs_from n m) (range_with_len (a + 1) (n - (a + 1))))
    ∙ ap (λ k. k + length (flat_map (pairs_from n m) (range_with_len (a + 1) (n - (a + 1))))) (pairs_from-length n m a)

-- what is said of one pair more
pub pairs_next : {A : Type 0} (tell : PlanPair → A) (m : Measure) (a b : ℕ) (old list new : List A) (x : A) → a < b
    → list ≡ old ++ map tell (pairs_from b m a) → new ≡ list ++ x ∷ [] → x ≡ tell (pair m a b)
    → new ≡ old ++ map tell (pairs_from (b + 1) m a)
pairs_next tell m a b old list new x h e f g =
    one_gained old list (map tell (pairs_from b m a)) (x ∷ []) (map tell (pairs_from (b + 1) m a)) new e f
    (ap (map tell) (pairs_from-next m a b h) ∙ map-append tell (pairs_from b m a) (pair m a b ∷ [])
    ∙ ap (λ y. map tell (pairs_from b m a) ++ y ∷ []) (sym g))
