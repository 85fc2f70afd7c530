use Rattle.hyper_model.specs.declared.parts.Unit as declared
use Rattle.hyper_model.specs.Plans.{no_unit}
use Rattle.hyper_model.proofs.Accepting.{own_names}
use Rattle.hyper_model.proofs.acceptance.has_unit_names.Goals as goal

pub returns : goal.returns
returns c =
    let same = own_names (λ (named : declared.Unit). named.name) no_unit c.args.parts.now.units in
    (λ passed. same.0 (c.have_own_names.ensures.0 passed), λ own. c.have_own_names.ensures.1 (same.1 own))
