use Rattle.std.proofs.Common.{◌≤◌, sym, ap, subst, ◌∙◌}
use Rattle.rate_matrix.specs.Bands.{entry, cap}
use Rattle.rate_matrix.proofs.BandLemmas.{entry_read}
use Rattle.rate_matrix.proofs.matrix.RateMatrix.entry.Goals as goal

pub returns-clause-entry : goal.returns-clause-entry
returns-clause-entry c =
    let row = rw (← c.self.view_is) at c.requires.row in
    c.entry.ensures
    ∙ entry_read _ c.args.i c.args.j _ _ c.self.invariant.banded row c.index.ensures c.index-2.ensures
    ∙ ap (λ m. entry m c.args.i c.args.j) c.self.view_is

pub returns-clause-capped : goal.returns-clause-capped
returns-clause-capped c apart =
    let row = rw (← c.self.view_is) at c.requires.row in
    let column = rw (← c.self.view_is) at c.requires.column in
    subst (λ e. e.hi ≤ cap c.args.self.now c.args.i)
    (sym (c.entry.ensures
    ∙ entry_read _ c.args.i c.args.j _ _ c.self.invariant.banded row c.index.ensures c.index-2.ensures
    ∙ ap (λ m. entry m c.args.i c.args.j) c.self.view_is))
    (subst (λ m. (entry m c.args.i c.args.j).hi ≤ cap m c.args.i) c.self.view_is
    (c.self.invariant.within.capped c.args.i c.args.j row column apart))
