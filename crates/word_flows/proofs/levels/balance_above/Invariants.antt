use Rattle.std.proofs.Common.{◌^◌}
use Rattle.hyper_model.specs.Words.{words}
use Rattle.state_certificate.specs.Masses.{AreMasses}
use Rattle.word_flows.proofs.levels.balance_above.Given as goal

abbrev pub invariant-loop-busy : goal.invariant-loop-busy
invariant-loop-busy l = AreMasses (words l.plan) (2 ^ 61) l.masses
