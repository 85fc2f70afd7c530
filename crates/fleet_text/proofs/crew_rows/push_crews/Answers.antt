use Rattle.std.proofs.Common.{arith, append_assoc}
use Rattle.std.proofs.lemmas.Grind.{common_steps}
use Rattle.hyper_model.proofs.Ranges.{flat_next}
use Rattle.fleet_text.proofs.crew_rows.push_crews.Goals as goal

pub loop-k-preserved : goal.loop-k-preserved
loop-k-preserved c = grind (arith, common_steps, flat_next, append_assoc)
