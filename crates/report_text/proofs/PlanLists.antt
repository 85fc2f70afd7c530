-- The preference lists of a plan.
use Rattle.std.proofs.Common.{◌≡◌, ℕ, ◌<◌, List, drop}
use Rattle.std.specs.Prelude.{All}
use Rattle.hyper_model.specs.declared.parts.PlanParts.{PlanParts}
use Rattle.hyper_model.specs.Groups.{list_of, row_of}
use Rattle.hyper_model.specs.Plans.{units, atoms, HasLists, IsAccepted}
use Rattle.hyper_model.proofs.Grouping.{from_within}

-- a list has units of the plan
pub listed_within : (p : PlanParts) (j : ℕ) → HasLists p → j < atoms p → All (λ n. n < units p) (list_of p.lists j)
listed_within p j l h =
    from_within (λ n. n < units p) (list_of p.lists j) (drop 1 (row_of p.lists j).begins) (l.grouped j h).within

pub members_within : (p : PlanParts) (j : ℕ) → IsAccepted p → j < atoms p
    → All (λ n. n < units p) (list_of p.lists j)
members_within p j a h = listed_within p j a.lists h

-- the same of what was read of the plan
pub read_within : (p : PlanParts) (j k : ℕ) (members : List ℕ) → HasLists p → j < atoms p
    → k ≡ j → members ≡ list_of p.lists k → All (λ n. n < units p) members
read_within p j k members l h f g = rw (g, f) (listed_within p j l h)
