-- Sums of places, each so many times as its weight says.
use Rattle.std.proofs.Common.{◌≡◌, ℕ, ◌*◌, ◌^◌, ◌≤◌}
use Rattle.hyper_model.specs.Sums.{sum_below}

-- the sum over the first k places, and how large it is if weights and places are below 2 ^ 32
pub record IsWeighed (k : ℕ) (weight place : ℕ → ℕ) (total : ℕ) : Type 0 where
  pub exact : total ≡ sum_below k (λ i. weight i * place i)
  pub most : total ≤ k * 2 ^ 64
