use Rattle.std.proofs.Common.{◌≡◌, take}
use Rattle.hyper_model.proofs.parts.Bounded+Unit+MOST_UNITS.copied.Given as goal

-- the first so many stand in the list
abbrev pub invariant-loop-n : goal.invariant-loop-n
invariant-loop-n l = l.units ≡ take l.n l.self
