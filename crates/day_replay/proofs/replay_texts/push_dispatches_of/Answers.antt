use Rattle.std.proofs.Common.{arith, append_assoc}
use Rattle.std.proofs.lemmas.Grind.{common_steps}
use Rattle.hyper_model.proofs.Ranges.{flat_next}
use Rattle.day_replay.proofs.replay_texts.push_dispatches_of.Goals as goal

pub loop-atom-preserved : goal.loop-atom-preserved
loop-atom-preserved c = grind (arith, common_steps, flat_next, append_assoc)
