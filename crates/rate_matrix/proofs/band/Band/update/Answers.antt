use Rattle.std.proofs.Common.{◌≡◌, ap, sym, ◌∙◌, arith}
use Rattle.std.proofs.lemmas.List.{with_items_is}
use Rattle.rate_matrix.specs.Rows.{rows_before}
use Rattle.rate_matrix.proofs.BandUpdates.{can_first, stays, updated_cells}
use Rattle.rate_matrix.proofs.band.Band.update.Goals as goal

pub returns-then-rows-eq0 : goal.returns-then-rows-eq0
returns-then-rows-eq0 g c =
    let none : c.rows_before-rows.result ≡ 0 = omega (arith, c.if-rows-eq0.true) in
    stays c.args.elimination.now c.args.self.now c.requires.band
    (sym (ap (rows_before c.args.self.now) c.state.ensures.state) ∙ sym c.rows_before-rows.ensures ∙ none)

pub update_first-requires-clause-rows : goal.update_first-requires-clause-rows
update_first-requires-clause-rows g c _ _ =
    let can = rw (← c.self.view_is) at c.requires.band in
    let rows = rw (← c.self.view_is) at
    (c.rows_before-rows.ensures ∙ ap (rows_before c.args.self.now) c.state.ensures.state) in
    can_first c.args.elimination.now _ can c.rows_before-rows.result rows (omega (arith, c.if-rows-eq0.false))
    c.deref_mut.result.now c.deref_mut.ensures.value

pub returns : goal.returns
returns g c =
    let can = rw (← c.self.view_is) at c.requires.band in
    let rows = rw (← c.self.view_is) at
    (c.rows_before-rows.ensures ∙ ap (rows_before c.args.self.now) c.state.ensures.state) in
    rw (← c.self.view_is)
    (updated_cells c.args.elimination.now _ can c.rows_before-rows.result rows (omega (arith, c.if-rows-eq0.false))
    c.deref_mut.result.now c.update_first.new.cells _ c.deref_mut.ensures.value
    (with_items_is c.self.inside.cells c.update_first.new.cells (omega (arith, c.update_first.auto.cells, c.deref_mut.ensures.len)))
    (omega (arith, c.update_first.auto.cells)) c.update_first.ensures.rows c.update_first.ensures.rest)
