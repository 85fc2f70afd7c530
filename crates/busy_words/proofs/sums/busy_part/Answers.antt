use Rattle.std.proofs.Common.{◌^◌, ◌*◌, ap, sym, subst, ◌∙◌}
use Rattle.fixed_interval.specs.Ends.{Encloses}
use Rattle.fixed_interval.specs.WeightList.{ends_at}
use Rattle.hyper_model.specs.Words.{is_busy}
use Rattle.hyper_model.specs.Solutions.{mass_in}
use Rattle.hyper_model.specs.Measures.{busy_mass, mass}
use Rattle.busy_words.specs.Order.{word_or_full}
use Rattle.busy_words.specs.Parts.{set_part}
use Rattle.busy_words.proofs.WeightParts.{busy_part_encloses}
use Rattle.busy_words.proofs.sums.busy_part.Goals as goal

pub returns-clause-ends : goal.returns-clause-ends
returns-clause-ends c =
    c.unit_part.ensures
    ∙ ap (λ n. set_part (2 ^ 62) n (λ i. is_busy (word_or_full c.args.order.now i) c.args.unit) (ends_at c.args.weights.now.items))
    c.requires.one_each

pub returns-clause-encloses : goal.returns-clause-encloses
returns-clause-encloses c xs z e =
    subst (λ r. Encloses r (2 ^ 62 * busy_mass c.args.plan.now (mass_in xs) z c.args.unit)
    (mass c.args.plan.now (mass_in xs) z)) (sym (returns-clause-ends c))
    (busy_part_encloses c.args.plan.now c.args.order.now c.requires.order c.args.weights.now.items xs z e c.args.unit
    c.requires.unit)
