use Rattle.std.proofs.Common.{◌≡◌, ◌<◌, ℕ, length}
use Rattle.std.specs.Prelude.{slice_index}
use Rattle.preference_rules.specs.Places.{cost_of}
use Rattle.preference_rules.proofs.centre.costs_of.Given as goal

abbrev pub invariant-loop-unit : goal.invariant-loop-unit
invariant-loop-unit l = record {
  number : length l.costs.items ≡ l.unit;
  costs : (n : ℕ) → n < l.unit → slice_index l.costs.items n ≡ cost_of l.fn.rule l.atoms l.located l.atom n;
}
