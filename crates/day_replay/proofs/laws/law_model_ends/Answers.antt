use Rattle.day_replay.proofs.ModelEnds.{printed_contained}
use Rattle.day_replay.proofs.laws.law_model_ends.Goals as goal

pub returns : goal.returns
returns c = printed_contained
