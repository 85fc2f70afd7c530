-- When a measure is less in one plan than in another.
use Rattle.std.specs.Prelude.{ℕ, ◌*◌, ◌<◌, List}
use Rattle.hyper_model.specs.Measures.{Ratio, measure_of}
use Rattle.hyper_model.specs.Solutions.{IsSolution, mass_in}
use Rattle.hyper_model.specs.declared.kinds.Measure.{Measure}
use Rattle.hyper_model.specs.declared.parts.PlanParts.{PlanParts}

-- by cross-multiplication
abbrev pub IsLess : Ratio → Ratio → Type 0
IsLess r s = r.numerator * s.denominator < s.numerator * r.denominator

-- in whichever solutions of the two plans, the measure is less in the first
abbrev pub IsBelow : Measure → PlanParts → PlanParts → Type 0
IsBelow m p q =
    (xs ys : List ℕ) (z t : ℕ) → IsSolution p xs z → IsSolution q ys t
    → IsLess (measure_of p (mass_in xs) z m) (measure_of q (mass_in ys) t m)
