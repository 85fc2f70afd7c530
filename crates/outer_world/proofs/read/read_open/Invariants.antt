use Rattle.std.proofs.Common.{◌≡◌, ℕ, List, ◌++◌, ◌≤◌, ◌-◌, Some, vec_len}
use Rattle.outer_world.specs.declared.read.TheConstants.{MOST_BYTES}
use Rattle.outer_world.proofs.read.read_open.Given as goal

abbrev pub invariant-loop-piece : goal.invariant-loop-piece
invariant-loop-piece g l = record {
  told : g.S.Shelf.told l.shelf ≡ g.S.Shelf.told l.fn.shelf;
  name : g.S.Shelf.open_name l.shelf ≡ g.S.Shelf.open_name l.fn.shelf;
  faults : g.S.Shelf.faults l.shelf ≡ g.S.Shelf.faults l.fn.shelf;
  fault_name : g.S.Shelf.last_fault l.shelf ≡ g.S.Shelf.last_fault l.fn.shelf;
  most : vec_len l.text ≤ MOST_BYTES;
  text : (whole : List ℕ) → g.S.Shelf.left l.fn.shelf ≡ Some whole
      → (rest : List ℕ) × (g.S.Shelf.left l.shelf ≡ Some rest) × (whole ≡ l.text.items ++ rest);
}

abbrev pub decreases-loop-piece : goal.decreases-loop-piece
decreases-loop-piece g l = MOST_BYTES - vec_len l.text
