use Rattle.std.proofs.Common.{◌≡◌, ◌*◌}
use Rattle.plan_maker.specs.Draws.{drawn_atoms, state_after}
use Rattle.plan_maker.proofs.atoms.draw_atoms.Given as goal

abbrev pub invariant-loop-place : goal.invariant-loop-place
invariant-loop-place l = record {
  state : l.generator.state ≡ state_after l.number (3 * l.place);
  drawn : l.atoms.items ≡ drawn_atoms l.number l.place;
}
