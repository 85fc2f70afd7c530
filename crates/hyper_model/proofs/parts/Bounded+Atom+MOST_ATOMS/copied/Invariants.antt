use Rattle.std.proofs.Common.{◌≡◌, take}
use Rattle.hyper_model.proofs.parts.Bounded+Atom+MOST_ATOMS.copied.Given as goal

-- the first so many stand in the list
abbrev pub invariant-loop-j : goal.invariant-loop-j
invariant-loop-j l = l.atoms ≡ take l.j l.self
