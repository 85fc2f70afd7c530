-- States that can be exchanged have equal masses.
use Rattle.std.proofs.Common.{◌≡◌, ℕ, ◌*◌, ◌<◌, sym, ap, ◌∙◌, arith}
use Rattle.hyper_model.specs.Sums.{sum_below}
use Rattle.hyper_model.specs.Tables.{RateTable, SolvesTable, relabelled}
use Rattle.hyper_model.proofs.Sums.{sum-same, sum-scaled, same_factor}
use Rattle.hyper_model.proofs.Chains.{proportional}
use Rattle.hyper_model.proofs.Relabel.{sum_relabelled, renumbered}
use Rattle.crew_stations.specs.Lumps.{ExchangedBalance}

-- tables with the same rates have the same solutions
pub solves_same : (n : ℕ) (rate other : RateTable) (x : ℕ → ℕ)
    → ((v w : ℕ) → v < n → w < n → rate v w ≡ other v w) → SolvesTable n rate x → SolvesTable n other x
solves_same n rate other x h t = record {
  positive = t.positive;
  balanced = λ j l.
      ap (λ c. x j * c) (sym (sum-same n (rate j) (other j) (λ w k. h j w l k)))
      ∙ t.balanced j l
      ∙ sum-same n (λ i. x i * rate i j) (λ i. x i * other i j) (λ i k. ap (λ c. x i * c) (h i j k l));
}

pub exchanged_balance : (n : ℕ) (rate : RateTable) → ExchangedBalance n rate
exchanged_balance n rate d to back s x t v l =
    let moved = solves_same n (relabelled to rate) rate (λ i. x (to i)) s.same (renumbered n to back rate x s.numbers t) in
    let each : sum_below n (λ w. x v * x (to w)) ≡ sum_below n (λ w. x (to v) * x w) =
    sum-same n (λ w. x v * x (to w)) (λ w. x (to v) * x w)
    (λ w k. omega (arith, proportional n rate x (λ i. x (to i)) d t moved v w l k)) in
    same_factor (sum_below n x) (x (to v)) (x v) t.positive
    (omega (
      arith,
      each,
      sum-scaled n (x v) (λ w. x (to w)),
      ap (λ c. x v * c) (sum_relabelled n to back x s.numbers),
      sum-scaled n (x (to v)) x,
    ))
