use Rattle.std.proofs.Common.{◌-◌, ◌^◌, ◌+◌, ◌*◌, leb, ap, ap₂, sym, subst, ◌∙◌}
use Rattle.fixed_interval.specs.Ends.{Encloses}
use Rattle.fixed_interval.specs.WeightList.{ends_at}
use Rattle.hyper_model.specs.Words.{full_word}
use Rattle.hyper_model.specs.Solutions.{mass_in}
use Rattle.hyper_model.specs.Measures.{mass}
use Rattle.busy_words.specs.Parts.{set_part}
use Rattle.busy_words.proofs.WeightParts.{full_part_encloses}
use Rattle.busy_words.proofs.sums.full_part.Goals as goal

pub returns-clause-ends : goal.returns-clause-ends
returns-clause-ends c =
    c.part_from.ensures
    ∙ ap₂ (λ n first. set_part (2 ^ 62) n (λ i. leb first i) (ends_at c.args.weights.now.items)) c.requires
    (ap (λ n. n - 1) c.words_of.ensures.words)

pub returns-clause-encloses : goal.returns-clause-encloses
returns-clause-encloses c order o xs z e =
    subst (λ r. Encloses r (2 ^ 62 * (mass_in xs (full_word c.args.plan.now) + z)) (mass c.args.plan.now (mass_in xs) z))
    (sym (returns-clause-ends c)) (full_part_encloses c.args.plan.now order o c.args.weights.now.items xs z e)
