use Rattle.std.proofs.Common.{◌∙◌, rules}
use Rattle.outer_world.proofs.Pieces.{front_more}
use Rattle.outer_world.proofs.write.write_text.Goals as goal

pub loop-rest-preserved : goal.loop-rest-preserved
loop-rest-preserved g c =
    let (front, parts, taken) = c.loop-rest.invariant.taken in
    record {
      faults = c.in-Took.ensures.no_fault (search rules) ∙ c.loop-rest.invariant.faults;
      taken = rw c.split_at.ensures.back
          (front_more _ _ _ _ front _ c.in-Took.count parts taken c.in-Took.ensures.takes.2);
    }
