use Rattle.std.proofs.Common.{◌<◌, ap, sym, ◌∙◌, arith}
use Rattle.hyper_model.specs.Plans.{units}
use Rattle.hyper_model.specs.Words.{first_free}
use Rattle.hyper_model.proofs.Bits.{turned_lt}
use Rattle.busy_words.proofs.FirstGroups.{lists_grouped}
use Rattle.pair_dispatch.proofs.SentUnits.{first_facts}
use Rattle.pair_dispatch.proofs.sending.after_one.Goals as goal

pub first_free-requires-clause-grouped : goal.first_free-requires-clause-grouped
first_free-requires-clause-grouped c =
    lists_grouped c.args.plan.now c.law_accepted.ensures c.lists.result.now c.lists.ensures c.args.atom c.requires.atom

pub turned-requires : goal.turned-requires
turned-requires c =
    let facts = first_facts c.args.plan.now c.law_accepted.ensures c.args.atom c.requires.atom c.args.word c.in-Some.unit
    (sym (c.in-Some.ensures.first ∙ ap (λ ls. first_free ls c.args.atom c.args.word) c.lists.ensures)) in
    omega (arith, facts.0, c.law_accepted.ensures.units.number.high)

pub returns-in-Some-clause-below : goal.returns-in-Some-clause-below
returns-in-Some-clause-below c =
    let facts = first_facts c.args.plan.now c.law_accepted.ensures c.args.atom c.requires.atom c.args.word c.in-Some.unit
    (sym (c.in-Some.ensures.first ∙ ap (λ ls. first_free ls c.args.atom c.args.word) c.lists.ensures)) in
    omega (arith, c.turned.ensures, turned_lt (units c.args.plan.now) c.args.word c.in-Some.unit c.requires.word facts.0)
