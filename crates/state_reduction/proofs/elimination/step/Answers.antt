use Rattle.std.proofs.Common.{arith}
use Rattle.state_reduction.proofs.Reductions.{loses-state, parts-outside, parts-read}
use Rattle.state_reduction.proofs.elimination.step.Goals as goal

pub update_rows_alone-requires-clause-kept : goal.update_rows_alone-requires-clause-kept
update_rows_alone-requires-clause-kept c =
    parts-outside c.args.m.now c.retire_last.new.m c.as_slice.result.now c.retire_last.ensures.fewer
    (parts-read c.args.m.now c.retire_last.new.scratch c.as_slice.result.now c.as_slice.ensures c.retire_last.ensures.parts)

pub returns-clause-state : goal.returns-clause-state
returns-clause-state c =
    loses-state c.args.m.now c.retire_last.new.m c.update_rows_alone.new.self c.as_slice.result.now
    (omega (arith, c.requires.ready.alive)) c.retire_last.ensures.most c.retire_last.ensures.fewer
    (parts-read c.args.m.now c.retire_last.new.scratch c.as_slice.result.now c.as_slice.ensures c.retire_last.ensures.parts)
    c.update_rows_alone.ensures.frame c.update_rows_alone.ensures.alive c.update_rows_alone.ensures.entries
