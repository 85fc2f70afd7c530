use Rattle.std.proofs.Common.{◌/◌, length, arith}
use Rattle.fixed_interval.specs.Ends.{exact_ends}
use Rattle.rate_matrix.specs.Rows.{rows_from}
use Rattle.rate_matrix.proofs.BandLemmas.{place_within}
use Rattle.rate_matrix.proofs.RowChunks.{can_chunk, cell_after, chunks_after}
use Rattle.rate_matrix.proofs.rows.Elimination.update_chunks.Goals as goal

pub for_each_chunk_mut-requires-clause-accepts : goal.for_each_chunk_mut-requires-clause-accepts
for_each_chunk_mut-requires-clause-accepts g c _ _ start p chunk =
    let can = can_chunk c.args.self.now
    (rows_from c.args.first (length c.args.rows.now / c.args.width) c.args.left c.args.width c.args.rows.now)
    c.args.chunk start p.now c.requires.rows c.requires.some chunk in
    (can, omega (arith, can.before, c.state-state.ensures.most))

pub returns : goal.returns
returns g c =
    chunks_after c.args.self.now
    (rows_from c.args.first (length c.args.rows.now / c.args.width) c.args.left c.args.width c.args.rows.now)
    c.for_each_chunk_mut.new.s c.requires.rows (omega (arith, c.for_each_chunk_mut.auto.s))
    (λ i j h k.
    let inside = place_within (rows_from c.args.first (length c.args.rows.now / c.args.width) c.args.left c.args.width c.args.rows.now)
    i j h k c.requires.rows.cells in
    let at = (c.for_each_chunk_mut.ensures.by_index _ (exact_ends 0) inside).1 in
    cell_after c.args.self.now
    (rows_from c.args.first (length c.args.rows.now / c.args.width) c.args.left c.args.width c.args.rows.now)
    c.args.chunk at.start at.argument.now c.requires.rows c.requires.some at.argument_is i j at.offset at.after_call.now _ h k
    at.start_plus_offset at.offset_in_chunk at.call at.new_element)
