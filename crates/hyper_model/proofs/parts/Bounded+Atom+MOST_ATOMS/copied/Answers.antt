use Rattle.std.proofs.Common.{arith}
use Rattle.std.proofs.lemmas.Grind.{common_steps}
use Rattle.hyper_model.proofs.ListPlaces.{take_at}
use Rattle.hyper_model.proofs.parts.Bounded+Atom+MOST_ATOMS.copied.Goals as goal

pub loop-j-preserved : goal.loop-j-preserved
loop-j-preserved c =
    let more = take_at c.args.self.now c.loop-j.j c.get.result.now c.get.ensures in
    grind (arith, common_steps, more)
