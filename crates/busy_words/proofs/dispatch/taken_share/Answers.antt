use Rattle.std.proofs.Common.{◌≡◌, ◌/◌, true, cond, ap, sym, ◌∙◌, arith}
use Rattle.hyper_model.specs.Plans.{split}
use Rattle.hyper_model.specs.Words.{takes, portion}
use Rattle.busy_words.proofs.FirstGroups.{lists_grouped, level_of_takers, taker_counts, takes_told}
use Rattle.busy_words.proofs.dispatch.taken_share.Goals as goal

pub takers-takers-requires-clause-grouped : goal.takers-takers-requires-clause-grouped
takers-takers-requires-clause-grouped c =
    lists_grouped c.args.plan.now c.lists_of.ensures.accepted c.lists_of.result.now c.lists_of.ensures.lists c.args.atom
    c.requires.atom

pub share_of-requires-clause-some : goal.share_of-requires-clause-some
share_of-requires-clause-some c =
    let taken : takes c.args.plan.now c.args.atom c.args.word c.args.unit ≡ true =
    sym (takes_told c.args.plan.now c.lists_of.result.now c.lists_of.ensures.lists c.args.atom c.args.word
    c.takers-takers.result c.args.unit (c.takers-takers.ensures.takers c.args.unit))
    ∙ sym c.is_busy.ensures ∙ c.if-is_busy.true in
    omega (
      arith,
      level_of_takers c.args.plan.now c.lists_of.result.now c.lists_of.ensures.lists c.args.atom c.args.word
          c.takers-takers.result c.takers-takers.ensures.takers,
      taker_counts c.args.plan.now c.args.atom c.args.word c.args.unit c.requires.unit taken,
    )

pub returns-then-is_busy-clause-shares : goal.returns-then-is_busy-clause-shares
returns-then-is_busy-clause-shares c =
    let p = c.args.plan.now in
    let taken : takes p c.args.atom c.args.word c.args.unit ≡ true =
    sym (takes_told p c.lists_of.result.now c.lists_of.ensures.lists c.args.atom c.args.word
    c.takers-takers.result c.args.unit (c.takers-takers.ensures.takers c.args.unit))
    ∙ sym c.is_busy.ensures ∙ c.if-is_busy.true in
    c.share_of.ensures.share
    ∙ ap (λ k. split p / k)
    (level_of_takers p c.lists_of.result.now c.lists_of.ensures.lists c.args.atom c.args.word
    c.takers-takers.result c.takers-takers.ensures.takers)
    ∙ sym (ap (λ b. cond b (portion p c.args.atom c.args.word) 0) taken)
