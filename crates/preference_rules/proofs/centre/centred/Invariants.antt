use Rattle.std.proofs.Common.{◌≡◌}
use Rattle.std.specs.Prelude.{length}
use Rattle.preference_rules.proofs.CentredRows.{centred_first}
use Rattle.preference_rules.proofs.centre.centred.Given as goal

abbrev pub invariant-loop-j : goal.invariant-loop-j
invariant-loop-j l = l.lists ≡ centred_first l.rule (length l.units) l.atoms l.located l.j
