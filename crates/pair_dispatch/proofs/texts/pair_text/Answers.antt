use Rattle.std.proofs.Common.{All, subst, sym}
use Rattle.pair_dispatch.specs.PairMeasures.{IsOfUnits}
use Rattle.pair_dispatch.proofs.Contained.{enclosure_in_range}
use Rattle.pair_dispatch.proofs.texts.pair_text.Goals as goal

pub push_rows-requires : goal.push_rows-requires
push_rows-requires c =
    subst (All (λ e. IsOfUnits c.args.plan.now e.measure)) (sym c.deref.ensures.value)
    (enclosure_in_range c.args.plan.now c.args.percent c.args.found.now.items c.requires)
