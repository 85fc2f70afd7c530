use Rattle.std.proofs.Common.{◌∙◌, ap, arith}
use Rattle.hyper_model.specs.declared.parts.Atom.{Atom}
use Rattle.day_replay.proofs.OwnNames.{atom_fresh}
use Rattle.day_replay.proofs.day_names.index_atoms.Goals as goal

pub push-requires : goal.push-requires
push-requires c =
    atom_fresh c.args.plan.now c.loop-j.j c.loop-j.names c.in_ok-copied.field-0 c.law_accepted.ensures
    (omega (arith, c.loop-j-test.true, c.atoms-j-end.ensures.atoms)) c.loop-j.invariant
    (c.in_ok-copied.ensures ∙ ap (λ (a : Atom). a.name) c.atom.ensures.atom)
