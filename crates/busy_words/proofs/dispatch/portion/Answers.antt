use Rattle.std.proofs.Common.{◌*◌, ◌/◌, ap, ◌∙◌, arith}
use Rattle.hyper_model.specs.Plans.{split}
use Rattle.hyper_model.specs.Words.{taker_count}
use Rattle.hyper_model.proofs.Takers.{portion_is}
use Rattle.hyper_model.proofs.Masses.{portion_positive}
use Rattle.busy_words.proofs.FirstGroups.{lists_grouped, level_of_takers, some_taker}
use Rattle.busy_words.proofs.dispatch.portion.Goals as goal

pub takers-requires-clause-grouped : goal.takers-requires-clause-grouped
takers-requires-clause-grouped c =
    lists_grouped c.args.plan.now c.lists_of.ensures.accepted c.lists_of.result.now c.lists_of.ensures.lists c.args.atom
    c.requires.atom

pub share_of-requires-clause-some : goal.share_of-requires-clause-some
share_of-requires-clause-some c =
    omega (
      arith,
      level_of_takers c.args.plan.now c.lists_of.result.now c.lists_of.ensures.lists c.args.atom c.args.word
          c.takers.result c.takers.ensures.takers,
      some_taker c.args.plan.now c.lists_of.ensures.accepted c.args.atom c.args.word c.requires.atom c.requires.word,
    )

pub returns-clause-portion : goal.returns-clause-portion
returns-clause-portion c =
    c.share_of.ensures.share
    ∙ ap (λ k. split c.args.plan.now / k)
    (level_of_takers c.args.plan.now c.lists_of.result.now c.lists_of.ensures.lists c.args.atom c.args.word
    c.takers.result c.takers.ensures.takers)

pub returns-clause-whole : goal.returns-clause-whole
returns-clause-whole c =
    ap (λ k. taker_count c.args.plan.now c.args.atom c.args.word * k) (returns-clause-portion c)
    ∙ portion_is c.args.plan.now c.lists_of.ensures.accepted c.args.atom c.args.word c.requires.atom
    (some_taker c.args.plan.now c.lists_of.ensures.accepted c.args.atom c.args.word c.requires.atom c.requires.word)

pub returns-clause-least : goal.returns-clause-least
returns-clause-least c =
    omega (
      arith,
      returns-clause-portion c,
      portion_positive c.args.plan.now c.lists_of.ensures.accepted c.args.atom c.args.word c.requires.atom
          (some_taker c.args.plan.now c.lists_of.ensures.accepted c.args.atom c.args.word c.requires.atom c.requires.word),
    )
