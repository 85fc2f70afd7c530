-- Of which plans calls may need two units, and why another plan is refused.
use Rattle.std.specs.Prelude.{◌≡◌, ℕ, ◌+◌, ◌-◌, ◌<◌, ◌≤◌, true, false}
use Rattle.hyper_model.specs.declared.kinds.Line.TheVariants as line
use Rattle.hyper_model.specs.declared.parts.PlanParts.{PlanParts}
use Rattle.hyper_model.specs.Plans.{units, atoms, groups_of, are_single}
use Rattle.pair_dispatch.specs.declared.check.TheConstants.{MOST_PAIR_UNITS}
use Rattle.pair_dispatch.specs.declared.refusal.PairRefusal.{PairRefusal}
use Rattle.pair_dispatch.specs.declared.refusal.PairRefusal.TheVariants as refusal

-- calls are lost, there are ten units at most, and each group has one unit
pub record MayPair (p : PlanParts) : Type 0 where
  pub line : p.line ≡ line.Zero
  pub units : units p ≤ MOST_PAIR_UNITS
  pub single : (j : ℕ) → j < atoms p → are_single (groups_of p j) ≡ true

-- more units than may be
pub record HasManyUnits (p : PlanParts) (count : ℕ) : Type 0 where
  pub line : p.line ≡ line.Zero
  pub told : count ≡ units p
  pub many : MOST_PAIR_UNITS < units p

-- the first atom, counted from 1, that has a group of more than one unit
pub record HasGroup (p : PlanParts) (atom : ℕ) : Type 0 where
  pub line : p.line ≡ line.Zero
  pub units : units p ≤ MOST_PAIR_UNITS
  pub least : 1 ≤ atom
  pub most : atom ≤ atoms p
  pub group : are_single (groups_of p (atom - 1)) ≡ false
  pub first : (j : ℕ) → j + 1 < atom → are_single (groups_of p j) ≡ true

-- the one reason for which a plan is refused
abbrev pub IsRefusedFor : PlanParts → PairRefusal → Type 0
IsRefusedFor p refusal.PairLine = p.line ≡ line.Infinite
IsRefusedFor p (refusal.PairUnits count) = HasManyUnits p count
IsRefusedFor p (refusal.PairGroup atom) = HasGroup p atom
