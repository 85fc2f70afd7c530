-- Sums of intervals, addend by addend, and what of such a sum goes to one place.
use Rattle.std.proofs.Common.{◌≡◌, ℕ, ◌+◌, ◌-◌, ◌*◌, ◌^◌, ◌<◌, ◌≤◌, cond, eqb, not, refl, ap, ◌∙◌, add-one, arith}
use Rattle.fixed_interval.specs.Ends.{Ends, between, plus_ends, share_ends}
use Rattle.hyper_model.specs.Sums.{sum_below}
use Rattle.hyper_model.proofs.Sums.{sum-at, sum_split}
use Rattle.rate_matrix.specs.Elimination.{Entries, part_to, without_ends}
use Rattle.busy_words.specs.Algebra.{total_ends}

-- the sum of the first n intervals of a row, none of which goes past the limit
pub record SumsTo (row : ℕ → Ends) (limit n : ℕ) (sum : Ends) : Type 0 where
  pub is : sum ≡ total_ends n row
  pub ordered : sum.lo ≤ sum.hi
  pub in_range : sum.hi ≤ n * limit

pub sums-none : (row : ℕ → Ends) (limit : ℕ) (sum : Ends) → sum ≡ between 0 0 → SumsTo row limit 0 sum
sums-none row limit sum is = record {
  is = is;
  ordered = omega (arith, ap (λ (e : Ends). e.lo) is, ap (λ (e : Ends). e.hi) is);
  in_range = omega (arith, ap (λ (e : Ends). e.hi) is);
}

total_ends-more : (row : ℕ → Ends) (n : ℕ) → plus_ends (total_ends n row) (row n) ≡ total_ends (n + 1) row
total_ends-more row n = rw (add-one n) refl

pub sums-more : (row : ℕ → Ends) (limit n : ℕ) (sum next new : Ends) → SumsTo row limit n sum → next ≡ row n
    → next.lo ≤ next.hi → next.hi ≤ limit → new ≡ plus_ends sum next → SumsTo row limit (n + 1) new
sums-more row limit n sum next new sums is ordered in_range plus =
    let low = ap (λ (e : Ends). e.lo) plus in
    let high = ap (λ (e : Ends). e.hi) plus in
    record {
      is =
          plus ∙ ap (λ (e : Ends). plus_ends e next) sums.is ∙ ap (λ (e : Ends). plus_ends (total_ends n row) e) is
          ∙ total_ends-more row n;
      ordered = omega (arith, low, high, sums.ordered, ordered);
      in_range = omega (arith, high, sums.in_range, in_range);
    }

sum_others : (n j : ℕ) (f : ℕ → ℕ) → j < n → sum_below n (λ k. cond (not (eqb k j)) (f k) 0) + f j ≡ sum_below n f
sum_others n j f inside = omega (arith, sum_split n (λ k. eqb k j) f, sum-at n f j inside)

-- the sum of all addends but one is the sum of all less that one
pub without-less : (n j : ℕ) (row : ℕ → Ends) → j < n
    → ((without_ends n j row).lo + (row j).lo ≡ (total_ends n row).lo)
    × ((without_ends n j row).hi + (row j).hi ≡ (total_ends n row).hi)
without-less n j row inside =
    (sum_others n j (λ k. (row k).lo) inside, sum_others n j (λ k. (row k).hi) inside)

pub between-same : (a c b d : ℕ) → a ≡ c → b ≡ d → between a b ≡ between c d
between-same a c b d low high = cc

-- what is left of a sum when one addend is taken out
pub rest_is : (n j : ℕ) (row : ℕ → Ends) (all one rest : Ends) (low less high less_high : ℕ) → j < n
    → all ≡ total_ends n row → one ≡ row j → low ≡ all.lo → less ≡ one.lo → high ≡ all.hi → less_high ≡ one.hi
    → rest ≡ between (low - less) (high - less_high) → rest ≡ without_ends n j row
rest_is n j row all one rest low less high less_high inside all_is one_is first second third fourth is =
    let sum = without-less n j row inside in
    is
    ∙ between-same _ _ _ _
    (omega (arith, sum.0, first, second, ap (λ (e : Ends). e.lo) all_is, ap (λ (e : Ends). e.lo) one_is))
    (omega (arith, sum.1, third, fourth, ap (λ (e : Ends). e.hi) all_is, ap (λ (e : Ends). e.hi) one_is))

-- the part of an addend in the sum
pub part_is : (a : Entries) (t j : ℕ) (one rest part : Ends) → one ≡ a t j → rest ≡ without_ends t j (a t)
    → part ≡ share_ends (2 ^ 62) one rest → part ≡ part_to a t j
unfolding part_to
part_is a t j one rest part one_is rest_is is =
    is ∙ ap (λ e. share_ends (2 ^ 62) one e) rest_is ∙ ap (λ e. share_ends (2 ^ 62) e (without_ends t j (a t))) one_is
