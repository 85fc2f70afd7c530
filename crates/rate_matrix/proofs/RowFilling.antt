-- A row of exact entries, filled from its first column on.
use Rattle.std.proofs.Common.{◌≡◌, ◌≢◌, ℕ, zero, suc, ◌+◌, ◌*◌, ◌^◌, ◌<◌, ◌≤◌, false, length, length-set, get_or-set_same, get_or-set_other, add-one, refl, sym, ap, subst, ◌∙◌, inl, inr, arith}
use Rattle.std.proofs.lemmas.Bool.{cases_lt, cases_eq}
use Rattle.std.proofs.lemmas.Bool.Decides.{nat_tests}
use Rattle.std.proofs.Math.Nat.{mul-le-mul_left}
use Rattle.fixed_interval.specs.Ends.{Ends, exact_ends}
use Rattle.hyper_model.specs.Sums.{sum_below}
use Rattle.hyper_model.specs.Tables.{RateTable, between_states}
use Rattle.hyper_model.proofs.Sums.{sum_none, place_le_sum}
use Rattle.rate_matrix.specs.Elimination.{outflow_of}
use Rattle.rate_matrix.specs.Bands.{BandOfRows, HasRow, HasColumn, HasSameShape, has_column, place_in, cell_of}
use Rattle.rate_matrix.proofs.BandLemmas.{place_apart, place_within, with_cell, same_shape}

-- a sum of the first places is at most one of more places
pub sum_fewer : (a b : ℕ) (f : ℕ → ℕ) → a ≤ b → sum_below a f ≤ sum_below b f
sum_fewer a zero f l = let e : a ≡ 0 = omega arith in subst (λ k. sum_below k f ≤ 0) (sym e) (omega arith)
sum_fewer a (suc b) f l = elim (cases_lt a (suc b)) [
  | inl k ↦ omega (arith, sum_fewer a b f (omega arith))
  | inr k ↦ let e : a ≡ suc b = omega arith in subst (λ c. sum_below c f ≤ sum_below (suc b) f) (sym e) (omega arith)
]

-- if the rest are 0 it is the whole sum
pub sum_all : (a b : ℕ) (f : ℕ → ℕ) → a ≤ b → ((k : ℕ) → a ≤ k → k < b → f k ≡ 0) → sum_below a f ≡ sum_below b f
sum_all a zero f l z = let e : a ≡ 0 = omega arith in ap (λ k. sum_below k f) e
sum_all a (suc b) f l z = elim (cases_lt a (suc b)) [
  | inl k ↦ omega (arith, sum_all a b f (omega arith) (λ c p q. z c p (omega arith)), z b (omega arith) (omega arith))
  | inr k ↦ let e : a ≡ suc b = omega arith in ap (λ c. sum_below c f) e
]

-- the row of state i has its columns before j, and the sum of its rates to the states before j
pub record IsFilledTo (rates : RateTable) (scale i j : ℕ) (old new : BandOfRows) (sum : ℕ) : Type 0 where
  pub shape : HasSameShape old new
  pub count : length new.cells ≡ length old.cells
  pub total : sum ≡ sum_below j (between_states rates i)
  pub done : (q : ℕ) → HasColumn old q → q < j → cell_of new i q ≡ exact_ends (scale * between_states rates i q)
  pub others : (p q : ℕ) → HasRow old p → HasColumn old q → p ≢ i → cell_of new p q ≡ cell_of old p q

pub filling_starts : (n : ℕ) (rates : RateTable) (scale i : ℕ) (b : BandOfRows) → b.left + b.width ≤ n
    → ((j : ℕ) → j < n → has_column b j ≡ false → between_states rates i j ≡ 0)
    → IsFilledTo rates scale i b.left b b 0
filling_starts n rates scale i b l z = record {
  shape = same_shape b;
  count = refl;
  total = sym (sum_none b.left (between_states rates i) (λ k h. z k (omega arith) (grind (arith, nat_tests))));
  done = λ q c h. let from = c.from in absurd (omega arith);
  others = λ p q r c ne. refl;
}

-- a rate is at most the sum of all
pub rate_small : (n top : ℕ) (rates : RateTable) (i j : ℕ) → j < n → outflow_of n rates i ≤ top
    → between_states rates i j ≤ top
rate_small n top rates i j l h = omega (arith, h, place_le_sum n (between_states rates i) j l)

pub sum_small : (n top : ℕ) (rates : RateTable) (i j : ℕ) → j < n → outflow_of n rates i ≤ top
    → sum_below j (between_states rates i) + between_states rates i j ≤ top
sum_small n top rates i j l h = omega (arith, h, sum_fewer (suc j) n (between_states rates i) (omega arith))

pub filling_goes_on : (rates : RateTable) (scale i j : ℕ) (old b c : BandOfRows) (sum : ℕ) (v : Ends)
    → IsFilledTo rates scale i j old b sum → HasRow old i → HasColumn old j
    → length old.cells ≡ old.rows * old.width
    → v ≡ exact_ends (scale * between_states rates i j) → c ≡ with_cell b i j v
    → IsFilledTo rates scale i (j + 1) old c (sum + between_states rates i j)
filling_goes_on rates scale i j old b c sum v s r k len v_is c_is =
    subst (λ x. IsFilledTo rates scale i (j + 1) old x (sum + between_states rates i j)) (sym c_is) record {
      shape = record { first = s.shape.first; rows = s.shape.rows; left = s.shape.left; width = s.shape.width };
      count = length-set b.cells (place_in b i j) v ∙ s.count;
      total = rw add-one (omega (arith, s.total));
      done = λ q kq l. elim (cases_eq q j) [
        | inl e ↦ subst (λ a. cell_of (with_cell b i j v) i a ≡ exact_ends (scale * between_states rates i a)) (sym e)
            (get_or-set_same b.cells (place_in b i j) v (exact_ends 0) (place_within b i j row column sound) ∙ v_is)
        | inr ne ↦
            get_or-set_other b.cells (place_in b i j) (place_in b i q) v (exact_ends 0)
            (place_apart b i q i j row (column_of q kq) row column (λ _. ne))
            ∙ s.done q kq (omega (arith, ne))
      ];
      others = λ p q rp kq ne.
          get_or-set_other b.cells (place_in b i j) (place_in b p q) v (exact_ends 0)
          (place_apart b p q i j (row_of p rp) (column_of q kq) row column (λ e. absurd (ne e)))
          ∙ s.others p q rp kq ne;
    }
  where
    row_of : (p : ℕ) → HasRow old p → HasRow b p
    row_of p h = record { from = omega (arith, s.shape.first, h.from); to = omega (arith, s.shape.first, s.shape.rows, h.to) }

    column_of : (q : ℕ) → HasColumn old q → HasColumn b q
    column_of q h = record { from = omega (arith, s.shape.left, h.from); to = omega (arith, s.shape.left, s.shape.width, h.to) }

    row : HasRow b i
    row = row_of i r

    column : HasColumn b j
    column = column_of j k

    sound : length b.cells ≡ b.rows * b.width
    sound = s.count ∙ len ∙ sym (ap (λ a. a * b.width) s.shape.rows ∙ ap (λ a. old.rows * a) s.shape.width)

-- a rate in the scale
pub scaled_small : (scale top rate : ℕ) → rate ≤ top → scale * top ≤ 2 ^ 62 → scale * rate ≤ 2 ^ 62
scaled_small scale top rate l h = omega (arith, h, mul-le-mul_left scale l)

pub filling_ends : (n : ℕ) (rates : RateTable) (scale i : ℕ) (old new : BandOfRows) (j sum : ℕ)
    → IsFilledTo rates scale i j old new sum → j ≡ old.left + old.width → old.left + old.width ≤ n
    → ((k : ℕ) → k < n → has_column old k ≡ false → between_states rates i k ≡ 0)
    → sum ≡ outflow_of n rates i
filling_ends n rates scale i old new j sum s e l z =
    s.total
    ∙ sum_all j n (between_states rates i) (omega arith) (λ k p q. z k q (grind (arith, nat_tests)))
