use Rattle.std.proofs.Common.{◌<◌, ◌∙◌, sym, arith}
use Rattle.hyper_model.specs.Plans.{atoms}
use Rattle.hyper_model.proofs.PlanSums.{split_more}
use Rattle.hyper_model.proofs.plan_sums.split_of.Goals as goal

pub returns-then-not-is_single : goal.returns-then-not-is_single
returns-then-not-is_single c =
    let atom : c.loop-j.j < atoms c.args.parts.now = omega arith in
    split_more c.args.parts.now c.loop-j.j c.requires.units.number.high atom (sym c.is_single.ensures ∙ c.if-not-is_single.true)
