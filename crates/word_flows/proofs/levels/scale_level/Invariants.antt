use Rattle.std.proofs.Common.{◌^◌}
use Rattle.hyper_model.specs.Words.{words}
use Rattle.state_certificate.specs.Masses.{AreMasses}
use Rattle.word_flows.proofs.levels.scale_level.Given as goal

abbrev pub invariant-loop-word : goal.invariant-loop-word
invariant-loop-word l = AreMasses (words l.plan) (2 ^ 61) l.masses
