use Rattle.std.proofs.Common.{◌<◌, ℕ}
use Rattle.hyper_model.specs.Plans.{units, atom_at, IsAtomWithin}
use Rattle.hyper_model.proofs.acceptance.are_atoms_within.Given as goal

abbrev pub invariant-loop-j : goal.invariant-loop-j
invariant-loop-j l = (j : ℕ) → j < l.j → IsAtomWithin (units l.parts) (atom_at l.parts j)
