use Rattle.hyper_model.specs.declared.parts.Atom as declared
use Rattle.hyper_model.specs.Plans.{no_atom}
use Rattle.hyper_model.proofs.Accepting.{own_names}
use Rattle.hyper_model.proofs.acceptance.has_atom_names.Goals as goal

pub returns : goal.returns
returns c =
    let same = own_names (λ (named : declared.Atom). named.name) no_atom c.args.parts.now.atoms in
    (λ passed. same.0 (c.have_own_names.ensures.0 passed), λ own. c.have_own_names.ensures.1 (same.1 own))
