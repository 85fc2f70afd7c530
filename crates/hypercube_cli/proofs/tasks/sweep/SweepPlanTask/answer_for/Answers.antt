use Rattle.std.proofs.Common.{rules, ◌≡◌, ◌∙◌, ap, Ok}
use Rattle.site_sweep.specs.Finding.{unit_of}
use Rattle.hypercube_cli.specs.Endings.{Ending}
use Rattle.hypercube_cli.proofs.TrueTexts.{true_sweep}
use Rattle.hypercube_cli.proofs.tasks.sweep.SweepPlanTask.answer_for.Goals as goal

pub returns-clause-proved : goal.returns-clause-proved
returns-clause-proved g c done =
    let named : unit_of c.args.plan c.args.self.unit ≡ Ok c.in-Ok.unit = search rules in
    true_sweep c.args.plan c.args.self.unit c.in-Ok.unit c.args.self.measure c.in_ok-sites.sites c.of_text.result.text
    c.requires.accepted named c.in-Ok.ensures.within c.requires.in_range.0 c.in_ok-sites.ensures
    (ap (λ (ending : Ending). ending.text) c.of_text.ensures ∙ c.in_ok-sweep_text.ensures)
