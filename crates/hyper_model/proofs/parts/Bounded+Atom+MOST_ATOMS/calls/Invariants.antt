use Rattle.std.proofs.Common.{◌≡◌, ◌*◌, ◌^◌, ◌≤◌, get_or}
use Rattle.hyper_model.specs.Sums.{sum_below}
use Rattle.hyper_model.specs.Plans.{no_atom}
use Rattle.hyper_model.proofs.parts.Bounded+Atom+MOST_ATOMS.calls.Given as goal

abbrev pub invariant-loop-j : goal.invariant-loop-j
invariant-loop-j l = (l.total ≡ sum_below l.j (λ j. (get_or l.self j no_atom).rate)) × (l.total ≤ l.j * 2 ^ 32)
