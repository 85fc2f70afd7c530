-- States under other numbers: `to` gives the old number of a state, `back` the new one.
use Rattle.std.proofs.Common.{◌≡◌, ℕ, ◌*◌, sym, ap, subst, ◌∙◌, arith}
use Rattle.hyper_model.specs.Sums.{sum_below}
use Rattle.hyper_model.specs.Tables.{RateTable, IsBalancedState, SolvesTable, AreInverse, relabelled}
use Rattle.hyper_model.proofs.Sums.{sum-permuted}
use Rattle.hyper_model.proofs.Chains.{solves_alike}

pub sum_relabelled : (n : ℕ) (to back : ℕ → ℕ) (f : ℕ → ℕ) → AreInverse n to back
    → sum_below n (λ i. f (to i)) ≡ sum_below n f
sum_relabelled n to back f s = sum-permuted n to back f s.to_below s.back_below s.back_to s.to_back

-- a solution under the old numbers is one under the new
pub renumbered : (n : ℕ) (to back : ℕ → ℕ) (e : RateTable) (x : ℕ → ℕ) → AreInverse n to back
    → SolvesTable n e x → SolvesTable n (relabelled to e) (λ i. x (to i))
renumbered n to back e x s t = record {
  positive = omega (arith, sum_relabelled n to back x s, t.positive);
  balanced = λ j l.
      ap (λ c. x (to j) * c) (sum_relabelled n to back (e (to j)) s)
      ∙ t.balanced (to j) (s.to_below j l)
      ∙ sym (sum_relabelled n to back (λ i. x i * e i (to j)) s);
}

-- and back
pub renumbered_back : (n : ℕ) (to back : ℕ → ℕ) (e : RateTable) (x : ℕ → ℕ) → AreInverse n to back
    → SolvesTable n (relabelled to e) (λ i. x (to i)) → SolvesTable n e x
renumbered_back n to back e x s t = record {
  positive = omega (arith, sum_relabelled n to back x s, t.positive);
  balanced = λ j l.
      subst (λ c. IsBalancedState n e x c) (s.to_back j l)
      (ap (λ c. x (to (back j)) * c) (sym (sum_relabelled n to back (e (to (back j))) s))
      ∙ t.balanced (back j) (s.back_below j l)
      ∙ sum_relabelled n to back (λ i. x i * e i (to (back j))) s);
}

-- the same for masses y that are given under the new numbers
pub renumbered_masses : (n : ℕ) (to back : ℕ → ℕ) (e : RateTable) (y : ℕ → ℕ) → AreInverse n to back
    → SolvesTable n (relabelled to e) y → SolvesTable n e (λ j. y (back j))
renumbered_masses n to back e y s t =
    renumbered_back n to back e (λ j. y (back j)) s
    (solves_alike n (relabelled to e) y (λ i. y (back (to i))) (λ i l. ap y (s.back_to i l)) t)
