use Rattle.std.proofs.Common.{sym, ap, subst, ◌∙◌, arith}
use Rattle.rate_matrix.specs.Bands.{IsSound, HasColumn, entry}
use Rattle.rate_matrix.proofs.BandLemmas.{kept_place, band_read, entry_written, sound_entry, at_entry, at_other_entry}
use Rattle.rate_matrix.proofs.matrix.RateMatrix.raise.Goals as goal

pub put-requires-clause-column : goal.put-requires-clause-column
put-requires-clause-column c =
    let row = rw (← c.self.view_is) at c.requires.row in
    let column = rw (← c.self.view_is) at c.requires.column in
    let kept = rw (← c.self.view_is) at c.requires.kept in
    let s = c.self.invariant in
    let alive = s.alive in
    subst (λ b. HasColumn b c.args.j)
    (sym (band_read _ c.args.i _ _ s.banded (omega arith) c.index-level.ensures c.index_mut.ensures.value))
    (kept_place _ c.args.i c.args.j s.banded (omega arith) (omega arith) kept)

pub invariant_of-self : goal.invariant_of-self
invariant_of-self c =
    let row = rw (← c.self.view_is) at c.requires.row in
    let column = rw (← c.self.view_is) at c.requires.column in
    let kept = rw (← c.self.view_is) at c.requires.kept in
    let grows = rw (← c.self.view_is) at c.requires.grows in
    let capped = rw (← c.self.view_is) at c.requires.capped in
    let s = c.self.invariant in
    let alive = s.alive in
    subst IsSound
    (sym (entry_written _ c.args.i c.args.j _ c.args.value _ _ s.banded (omega arith) c.index-level.ensures c.index_mut.ensures.value c.put.ensures))
    (sound_entry _ c.args.i c.args.j c.args.value s (omega arith) (omega arith) c.requires.apart
    (kept_place _ c.args.i c.args.j s.banded (omega arith) (omega arith) kept) grows c.lo-low.ensures.ordered capped)

pub returns-clause-changed : goal.returns-clause-changed
returns-clause-changed c =
    let row = rw (← c.self.view_is) at c.requires.row in
    let column = rw (← c.self.view_is) at c.requires.column in
    let kept = rw (← c.self.view_is) at c.requires.kept in
    let s = c.self.invariant in
    let alive = s.alive in
    ap (λ m. entry m c.args.i c.args.j)
    (entry_written _ c.args.i c.args.j _ c.args.value _ _ s.banded (omega arith) c.index-level.ensures c.index_mut.ensures.value c.put.ensures)
    ∙ at_entry _ c.args.i c.args.j c.args.value s.banded (omega arith)
    (kept_place _ c.args.i c.args.j s.banded (omega arith) (omega arith) kept)

pub returns-clause-others : goal.returns-clause-others
returns-clause-others c p q lp lq ne =
    let row = rw (← c.self.view_is) at c.requires.row in
    let column = rw (← c.self.view_is) at c.requires.column in
    let kept = rw (← c.self.view_is) at c.requires.kept in
    let inside = rw (← c.self.view_is) at lp in
    let s = c.self.invariant in
    let alive = s.alive in
    ap (λ m. entry m p q)
    (entry_written _ c.args.i c.args.j _ c.args.value _ _ s.banded (omega arith) c.index-level.ensures c.index_mut.ensures.value c.put.ensures)
    ∙ at_other_entry _ c.args.i c.args.j c.args.value p q s.banded (omega arith)
    (kept_place _ c.args.i c.args.j s.banded (omega arith) (omega arith) kept) inside ne
    ∙ ap (λ m. entry m p q) c.self.view_is
