use Rattle.std.proofs.Common.{◌≡◌, [], length, sym, subst, arith}
use Rattle.std.specs.Option.{IsSome}
use Rattle.outer_world.specs.declared.read.TheConstants.{MOST_BYTES}
use Rattle.outer_world.proofs.Pieces.{Ends-left, taken-front, taken-read}
use Rattle.outer_world.proofs.read.read_open.Goals as goal

pub returns-in-End-clause-text : goal.returns-in-End-clause-text
returns-in-End-clause-text g c = λ whole is.
    let (rest, left, parts) = c.loop-piece.invariant.text whole is in
    let is_open = subst IsSome (sym c.loop-piece.invariant.name) c.requires in
    let none : rest ≡ [] = Ends-left _ _ _ rest is_open c.in-End.ensures.reads.0 left in
    taken-read whole _ rest parts none (omega arith)

pub returns-clause-text : goal.returns-clause-text
returns-clause-text g c = λ whole is.
    let (rest, left, parts) = c.loop-piece.invariant.text whole is in
    let full : length c.loop-piece.text.items ≡ MOST_BYTES = omega arith in
    taken-front whole _ rest parts full
