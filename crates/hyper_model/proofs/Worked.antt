-- What the worked plans share: balance at each word of a short list of masses, and the ends of a measure.
use Rattle.std.proofs.Common.{inl, inr, ℕ, zero, suc, ◌<◌, Bool, List, arith, subst, sym}
use Rattle.std.proofs.lemmas.Bool.{cases_eq}
use Rattle.hyper_model.specs.declared.kinds.Measure.{Measure}
use Rattle.hyper_model.specs.declared.parts.PlanParts.{PlanParts}
use Rattle.hyper_model.specs.Groups.{AtomList}
use Rattle.hyper_model.specs.Measures.{ContainsRatio, measure_of, scale_of}
use Rattle.hyper_model.specs.Solutions.{mass_in}

-- P 0, P 1, .., P (n - 1)
abbrev pub EachBelow : ℕ → (ℕ → Type 0) → Type 0
EachBelow zero P = Prim.Unit {0}
EachBelow (suc n) P = EachBelow n P × P n

pub each_below : (n : ℕ) (P : ℕ → Type 0) → EachBelow n P → (k : ℕ) → k < n → P k
each_below zero P all k below = absurd (omega arith)
each_below (suc n) P all k below = elim (cases_eq k n) [
  | inl last ↦ subst P (sym last) all.1
  | inr earlier ↦ each_below n P all.0 k (omega arith)
]

pub each_pair : (n : ℕ) (P : ℕ → ℕ → Type 0) → EachBelow n (λ i. EachBelow n (P i)) → (i j : ℕ) → i < n → j < n → P i j
each_pair n P all i j i_below j_below = each_below n (P i) (each_below n (λ k. EachBelow n (P k)) all i i_below) j j_below

-- the plan's measure lies between lo and hi, counted in its last printed digit
abbrev pub LiesBetween : PlanParts → List ℕ → ℕ → Measure → ℕ → ℕ → Type 0
LiesBetween p xs z m lo hi = ContainsRatio lo hi (scale_of m) (measure_of p (mass_in xs) z m)

-- an atom's list
abbrev pub row_of_units : List ℕ → List Bool → AtomList
row_of_units units begins = record { members = units; begins = begins }
