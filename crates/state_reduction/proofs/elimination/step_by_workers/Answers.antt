use Rattle.std.proofs.Common.{arith}
use Rattle.state_reduction.proofs.Reductions.{loses-state, parts-outside, parts-read}
use Rattle.state_reduction.proofs.elimination.step_by_workers.Goals as goal

pub update_rows-requires-clause-kept : goal.update_rows-requires-clause-kept
update_rows-requires-clause-kept g c _ _ =
    parts-outside c.args.m.now c.retire_last.new.m c.as_slice.result.now c.retire_last.ensures.fewer
    (parts-read c.args.m.now c.retire_last.new.scratch c.as_slice.result.now c.as_slice.ensures c.retire_last.ensures.parts)

pub returns-clause-state : goal.returns-clause-state
returns-clause-state g c =
    loses-state c.args.m.now c.retire_last.new.m c.update_rows.new.self c.as_slice.result.now
    (omega (arith, c.requires.ready.alive)) c.retire_last.ensures.most c.retire_last.ensures.fewer
    (parts-read c.args.m.now c.retire_last.new.scratch c.as_slice.result.now c.as_slice.ensures c.retire_last.ensures.parts)
    c.update_rows.ensures.frame c.update_rows.ensures.alive c.update_rows.ensures.entries
