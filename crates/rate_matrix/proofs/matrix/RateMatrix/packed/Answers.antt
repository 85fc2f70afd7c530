use Rattle.std.proofs.Common.{true}
use Rattle.hyper_model.specs.Words.{words}
use Rattle.rate_matrix.specs.Bands.{layout}
use Rattle.rate_matrix.specs.WordChains.{AreNeighbours, word_rates, word_top}
use Rattle.rate_matrix.proofs.WordChains.{ordered_words}
use Rattle.rate_matrix.proofs.PackedWords.{bands_read, kept_as, words_banded, words_kept, words_zeros}
use Rattle.rate_matrix.proofs.matrix.RateMatrix.packed.Goals as goal

pub of_chain-requires-clause-banded : goal.of_chain-requires-clause-banded
of_chain-requires-clause-banded c =
    let p = c.args.chain.now.plan.now in
    let order = c.args.chain.now.order.now in
    let h = ordered_words p order c.args.chain.now.same_units c.units-units.ensures.ordered in
    let are = bands_read p _ _ _ c.in_ok-bands.bands.items c.deref.ensures.value c.units.ensures.units c.in_ok-bands.ensures in
    words_banded p order h c.in_ok-levels.levels.items c.in_ok-levels.ensures.count c.in_ok-levels.ensures.levels c.in_ok-bands.bands.items are

pub of_chain-requires-clause-zeros : goal.of_chain-requires-clause-zeros
of_chain-requires-clause-zeros c =
    let p = c.args.chain.now.plan.now in
    let order = c.args.chain.now.order.now in
    let h = ordered_words p order c.args.chain.now.same_units c.units-units.ensures.ordered in
    let are = bands_read p _ _ _ c.in_ok-bands.bands.items c.deref.ensures.value c.units.ensures.units c.in_ok-bands.ensures in
    words_zeros p order h c.in_ok-levels.levels.items c.in_ok-levels.ensures.count c.in_ok-levels.ensures.levels c.in_ok-bands.bands.items are

pub returns-clause-kept : goal.returns-clause-kept
returns-clause-kept c =
    let p = c.args.chain.now.plan.now in
    let order = c.args.chain.now.order.now in
    let h = ordered_words p order c.args.chain.now.same_units c.units-units.ensures.ordered in
    let are = bands_read p _ _ _ c.in_ok-bands.bands.items c.deref.ensures.value c.units.ensures.units c.in_ok-bands.ensures in
    kept_as c.of_chain.result (words p) (word_rates p order) (word_top p) (layout (words p) true c.in_ok-levels.levels.items c.in_ok-bands.bands.items)
    (AreNeighbours p order) c.of_chain.ensures.rates c.of_chain.ensures.shape
    (words_kept p order h c.in_ok-levels.levels.items c.in_ok-levels.ensures.count c.in_ok-levels.ensures.levels c.in_ok-bands.bands.items are)
