use Rattle.std.proofs.Common.{arith, append_assoc}
use Rattle.std.proofs.lemmas.Grind.{common_steps}
use Rattle.hyper_model.proofs.Ranges.{flat_next}
use Rattle.report_text.proofs.preference_rows.push_lists.Goals as goal

pub loop-j-preserved : goal.loop-j-preserved
loop-j-preserved c = grind (arith, common_steps, flat_next, append_assoc)
