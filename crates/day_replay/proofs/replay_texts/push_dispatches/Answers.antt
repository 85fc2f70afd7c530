use Rattle.std.proofs.Common.{arith, append_assoc}
use Rattle.std.proofs.lemmas.Grind.{common_steps}
use Rattle.hyper_model.proofs.Ranges.{flat_next}
use Rattle.day_replay.proofs.replay_texts.push_dispatches.Goals as goal

pub loop-unit-preserved : goal.loop-unit-preserved
loop-unit-preserved c = grind (arith, common_steps, flat_next, append_assoc)
