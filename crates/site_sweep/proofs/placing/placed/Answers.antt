use Rattle.std.proofs.Common.{◌∙◌, subst, sym}
use Rattle.hyper_model.specs.Plans.{IsAccepted}
use Rattle.site_sweep.proofs.AcceptedPlaces.{placed_accepted, placed_is}
use Rattle.site_sweep.proofs.placing.placed.Goals as goal

pub of_accepted-requires : goal.of_accepted-requires
of_accepted-requires c =
    subst IsAccepted
    (sym (placed_is c.args.plan.now c.args.unit c.args.atom c.from.result c.from-2.result c.parts-parts.result.now c.in_ok-located.located c.in_ok-lists.lists
    c.in_ok-moved.moved c.from.ensures c.from-2.ensures c.parts-parts.ensures.parts c.in_ok-located.ensures c.in_ok-lists.ensures c.in_ok-moved.ensures))
    (placed_accepted c.args.plan.now c.parts-parts.ensures.accepted c.args.unit c.args.atom c.requires.unit c.requires.atom)

pub returns : goal.returns
returns c =
    c.of_accepted.ensures
    ∙ placed_is c.args.plan.now c.args.unit c.args.atom c.from.result c.from-2.result c.parts-parts.result.now c.in_ok-located.located c.in_ok-lists.lists
    c.in_ok-moved.moved c.from.ensures c.from-2.ensures c.parts-parts.ensures.parts c.in_ok-located.ensures c.in_ok-lists.ensures c.in_ok-moved.ensures
