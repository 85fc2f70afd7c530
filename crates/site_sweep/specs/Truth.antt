-- What the sites of a unit say of the measure with the unit at each of them.
use Rattle.std.specs.Prelude.{◌≡◌, ℕ, ◌<◌, true, false, List, Some, slice_get}
use Rattle.hyper_model.specs.Measures.{ContainsRatio, measure_of, scale_of}
use Rattle.hyper_model.specs.Plans.{atoms}
use Rattle.hyper_model.specs.Separation.{IsBelow}
use Rattle.hyper_model.specs.Solutions.{IsSolution, mass_in}
use Rattle.hyper_model.specs.declared.kinds.Measure.{Measure}
use Rattle.hyper_model.specs.declared.parts.PlanParts.{PlanParts}
use Rattle.site_sweep.specs.Placed.{placed}
use Rattle.site_sweep.specs.declared.site_list.Site.{Site}

-- the measure lies between the ends of its site, in whichever solution of the plan with the unit there
abbrev pub ContainsSites : PlanParts → ℕ → Measure → List Site → Type 0
ContainsSites p n m sites =
    (k : ℕ) (s : Site) → slice_get sites k ≡ Some s
    → (xs : List ℕ) (z : ℕ) → IsSolution (placed p n k) xs z
    → ContainsRatio s.lo s.hi (scale_of m) (measure_of (placed p n k) (mass_in xs) z m)

-- a site that is kept, with a measure that is less than at atom k
pub record HasBetter (p : PlanParts) (n : ℕ) (m : Measure) (sites : List Site) (k : ℕ) : Type 0 where
  pub atom : ℕ
  pub site : Site
  pub there : slice_get sites atom ≡ Some site
  pub kept : site.kept ≡ true
  pub better : IsBelow m (placed p n atom) (placed p n k)

-- each site that is dropped has one that is better and kept
abbrev pub AreDroppedBeaten : PlanParts → ℕ → Measure → List Site → Type 0
AreDroppedBeaten p n m sites = (k : ℕ) (s : Site) → slice_get sites k ≡ Some s → s.kept ≡ false → HasBetter p n m sites k

-- no atom has a measure that is less
abbrev pub IsBest : PlanParts → ℕ → Measure → ℕ → Type 0
IsBest p n m k = (i : ℕ) → i < atoms p → ¬ IsBelow m (placed p n i) (placed p n k)

-- each site with the least measure is kept
abbrev pub AreBestKept : PlanParts → ℕ → Measure → List Site → Type 0
AreBestKept p n m sites = (k : ℕ) (s : Site) → slice_get sites k ≡ Some s → IsBest p n m k → s.kept ≡ true
