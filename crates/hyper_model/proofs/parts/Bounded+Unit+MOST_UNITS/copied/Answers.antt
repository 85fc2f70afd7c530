use Rattle.std.proofs.Common.{arith}
use Rattle.std.proofs.lemmas.Grind.{common_steps}
use Rattle.hyper_model.proofs.ListPlaces.{take_at}
use Rattle.hyper_model.proofs.parts.Bounded+Unit+MOST_UNITS.copied.Goals as goal

pub loop-n-preserved : goal.loop-n-preserved
loop-n-preserved c =
    let more = take_at c.args.self.now c.loop-n.n c.get.result.now c.get.ensures in
    grind (arith, common_steps, more)
