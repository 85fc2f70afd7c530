use Rattle.std.proofs.Common.{◌≡◌, ◌≢◌, ◌+◌, ◌-◌, ◌≤◌, get_or, refl, sym, ap, subst, ◌∙◌, arith}
use Rattle.std.proofs.lemmas.List.{get_or_read}
use Rattle.fixed_interval.specs.Ends.{exact_ends}
use Rattle.rate_matrix.proofs.RowUpdates.{IsRowUpdatedTo, read_capped, read_ordered, row_ends, row_more, row_stays}
use Rattle.rate_matrix.proofs.rows.Elimination.update_row.Goals as goal

pub returns-then-hi-eq0 : goal.returns-then-hi-eq0
returns-then-hi-eq0 g c =
    let column = c.requires.column in
    let into : c.index-row-last.result ≡ get_or c.args.row.now (c.args.self.now.state - c.args.left) (exact_ends 0) =
    get_or_read c.args.row.now _ _ (omega arith) c.index-row-last.is (exact_ends 0)
    ∙ ap (λ s. get_or c.args.row.now (s - c.args.left) (exact_ends 0)) c.state.ensures.state in
    let none : c.index-row-last.result.hi ≡ 0 = omega (arith, c.hi.ensures.end) in
    row_stays c.args.self.now
    c.args.i c.args.left c.args.row.now c.requires
    (subst (λ e. e.hi ≡ 0) into none)
    (subst (λ e. e.lo ≤ e.hi) into c.hi.ensures.ordered)

pub new_entry-requires-clause-ordered : goal.new_entry-requires-clause-ordered
new_entry-requires-clause-ordered g c =
    let column = c.requires.column in
    read_ordered c.args.self.now
    c.args.i c.args.left c.args.row.now c.loop-q.row c.loop-q.q c.index-row-q.result c.requires c.loop-q.invariant
    (omega arith) c.index-row-q.is

pub new_entry-requires-clause-capped : goal.new_entry-requires-clause-capped
new_entry-requires-clause-capped g c =
    let column = c.requires.column in
    subst (λ k. c.args.i ≢ c.args.left + c.loop-q.q → c.index-row-q.result.hi ≤ k) (sym c.cap-cap.ensures)
    (read_capped c.args.self.now
    c.args.i c.args.left c.args.row.now c.loop-q.row c.loop-q.q c.index-row-q.result c.requires c.loop-q.invariant
    (omega arith) c.index-row-q.is)

pub loop-q-preserved : goal.loop-q-preserved
loop-q-preserved g c =
    let column = c.requires.column in
    row_more c.args.self.now
    c.args.i c.args.left c.args.row.now c.loop-q.row c.loop-q.q c.index-row-q.result c.index-row-last.result _ c.new_entry.result c.cap-cap.result
    c.loop-q.invariant (omega arith) c.index-row-q.is
    (get_or_read c.args.row.now _ _ (omega arith) c.index-row-last.is (exact_ends 0)
    ∙ ap (λ s. get_or c.args.row.now (s - c.args.left) (exact_ends 0)) c.state.ensures.state)
    refl c.cap-cap.ensures
    c.new_entry.ensures.entry c.new_entry.ensures.ordered

pub returns : goal.returns
returns g c =
    let last : c.loop-q.q ≡ c.args.self.now.state - c.args.left = omega (arith, c.state.ensures.state) in
    row_ends c.args.self.now
    c.args.i c.args.left c.args.row.now c.loop-q.row c.requires
    (subst (IsRowUpdatedTo c.args.self.now
    c.args.i c.args.left c.args.row.now c.loop-q.row) last c.loop-q.invariant)
