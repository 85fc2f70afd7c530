use Rattle.std.proofs.Common.{◌≡◌, ◌+◌, ◌*◌, ◌^◌, ◌<◌, ◌≤◌, true, false, ap, sym, subst, ◌∙◌, arith}
use Rattle.std.specs.Prelude.{slice_index, slice_set}
use Rattle.hyper_model.specs.Plans.{units}
use Rattle.hyper_model.specs.Words.{is_busy, words}
use Rattle.busy_words.proofs.FirstGroups.{lists_grouped, lists_width}
use Rattle.word_flows.specs.TurnRates.{HasRates, atom_rate, rate_in_turn, rate_of_first, turn_place}
use Rattle.word_flows.proofs.TurnRates.{first_small, in_turn_small, next_not_sent, next_sent, rate_here, rate_not_sent, rate_sent}
use Rattle.word_flows.proofs.rates.add_calls_in.Goals as goal
use Rattle.word_flows.proofs.rates.add_calls_in.Goals.{then-is_busy, else-is_busy}

pub takers-takers-requires-clause-grouped : goal.takers-takers-requires-clause-grouped
takers-takers-requires-clause-grouped c =
    lists_grouped c.args.plan.now c.lists_of.ensures.accepted c.lists_of.result.now c.lists_of.ensures.lists c.args.atom
    c.requires.atom

pub overflow_add-rates-then-is_busy : goal.overflow_add-rates-then-is_busy
overflow_add-rates-then-is_busy c =
    let inside : c.loop-unit.unit < units c.args.plan.now = omega (arith, c.units-unit-end.ensures.units) in
    let here = rate_here c.args.plan.now (rate_in_turn c.args.plan.now c.args.atom (c.args.word * units c.args.plan.now + c.loop-unit.unit))
    c.loop-unit.rates c.args.word c.loop-unit.unit c.from-words.result c.from.result c.loop-unit.invariant c.requires.word
    inside (c.from-words.ensures ∙ c.words_of.ensures.words) c.from.ensures in
    let small = in_turn_small c.args.plan.now c.args.atom c.lists_of.ensures.accepted
    (c.args.word * units c.args.plan.now + c.loop-unit.unit) c.args.word c.loop-unit.unit c.requires.atom inside in
    omega (arith, here, small, c.rate_of_each-rate.ensures.most)

pub loop-unit-preserved : goal.loop-unit-preserved
loop-unit-preserved c =
    let p = c.args.plan.now in
    let inside : c.loop-unit.unit < units p = omega (arith, c.units-unit-end.ensures.units) in
    let now = c.args.word * units p + (c.loop-unit.unit + 1) in
    let is_words : c.from-words.result ≡ words p = c.from-words.ensures ∙ c.words_of.ensures.words in
    elim c.if-is_busy.branch [
      | then-is_busy w ↦
          let rates = c.loop-unit.rates in
          let read = c.loop-unit.unit * c.from-words.result + w.from.result in
          let place : read ≡ turn_place p c.args.word c.loop-unit.unit =
          ap (λ k. c.loop-unit.unit * k + w.from.result) is_words
          ∙ ap (λ i. c.loop-unit.unit * words p + i) w.from.ensures in
          let more = slice_index rates read + c.rate_of_each-rate.result in
          subst (λ list. HasRates p (rate_in_turn p c.args.atom now) list) (sym w.rates-is)
          (subst (λ i. HasRates p (rate_in_turn p c.args.atom now) (slice_set rates i more)) (sym place)
          (next_sent p c.args.atom rates c.args.word c.loop-unit.unit more c.requires.word inside c.loop-unit.invariant
          (ap (λ i. slice_index rates i + c.rate_of_each-rate.result) place
          ∙ ap (λ r. slice_index rates (turn_place p c.args.word c.loop-unit.unit) + r)
          (rate_sent p c.lists_of.result.now c.lists_of.ensures.lists c.args.atom c.args.word c.takers-takers.result
          c.loop-unit.unit c.rate_of_each-rate.result c.takers-takers.ensures.takers
          (sym c.is_busy.ensures ∙ w.if-is_busy.true) c.rate_of_each-rate.ensures.rate))))
      | else-is_busy w ↦
          subst (λ list. HasRates p (rate_in_turn p c.args.atom now) list) (sym w.rates-is)
          (next_not_sent p c.args.atom c.loop-unit.rates c.args.word c.loop-unit.unit c.requires.word inside c.loop-unit.invariant
          (rate_not_sent p c.lists_of.result.now c.lists_of.ensures.lists c.args.atom c.args.word c.takers-takers.result
          c.loop-unit.unit c.takers-takers.ensures.takers (sym c.is_busy.ensures ∙ w.if-is_busy.false)))
    ]
