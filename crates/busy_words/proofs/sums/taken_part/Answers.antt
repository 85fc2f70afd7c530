use Rattle.std.proofs.Common.{◌^◌, ◌*◌, ap₂, sym, subst, ◌∙◌}
use Rattle.fixed_interval.specs.Ends.{Encloses, ratio_ends, share_ends}
use Rattle.hyper_model.specs.Plans.{split}
use Rattle.hyper_model.specs.Solutions.{mass_in}
use Rattle.hyper_model.specs.Measures.{base, taken_mass}
use Rattle.busy_words.proofs.WeightParts.{taken_part_encloses}
use Rattle.busy_words.proofs.sums.taken_part.Goals as goal

pub returns-clause-ends : goal.returns-clause-ends
returns-clause-ends c =
    let split = c.split_of-split.ensures.split in
    c.part_of.ensures.ends
    ∙ ap₂ (share_ends (2 ^ 62))
    (c.ratio.ensures.ends ∙ ap₂ (λ e g. ratio_ends e 1 g) c.taken_sums-inside.ensures.inside split)
    (c.ratio-2.ensures.ends ∙ ap₂ (λ e g. ratio_ends e 1 g) c.taken_sums-inside.ensures.rest split)

pub returns-clause-encloses : goal.returns-clause-encloses
returns-clause-encloses c xs z e =
    subst (λ r. Encloses r (2 ^ 62 * taken_mass c.args.plan.now (mass_in xs) c.args.unit c.args.atom)
    (split c.args.plan.now * base c.args.plan.now (mass_in xs) z)) (sym (returns-clause-ends c))
    (taken_part_encloses c.args.plan.now c.args.order.now c.requires.order c.args.weights.now.items xs z e
    c.split_of-split.ensures.accepted
    c.args.unit c.args.atom c.requires.unit)
