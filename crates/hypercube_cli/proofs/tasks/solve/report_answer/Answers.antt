use Rattle.std.proofs.Common.{rules, ◌∙◌, ap}
use Rattle.plan_solver.proofs.SoundMeasures.{sound_by, sound_in_range}
use Rattle.hypercube_cli.specs.Endings.{Ending}
use Rattle.hypercube_cli.proofs.WideMeasures.{wide_in_range}
use Rattle.hypercube_cli.proofs.TrueTexts.{true_report}
use Rattle.hypercube_cli.proofs.tasks.solve.report_answer.Goals as goal

pub report-requires : goal.report-requires
report-requires c =
    sound_in_range c.args.plan.now c.args.found.now.items
    (sound_by c.args.method c.args.plan.now c.requires.accepted c.args.found.now.items c.requires.enclosed)

pub returns-in-Ok-clause-proved : goal.returns-in-Ok-clause-proved
returns-in-Ok-clause-proved c done =
    true_report c.args.plan.now c.args.method c.args.found.now.items c.args.summary c.of_text.result.text c.requires.accepted
    c.requires.enclosed (ap (λ (ending : Ending). ending.text) c.of_text.ensures ∙ c.in-Ok.ensures.text)

pub label-requires : goal.label-requires
label-requires c =
    wide_in_range c.args.plan.now c.args.widths c.args.summary c.args.found.now.items c.in-Err-TooWide.field-0
    c.in-Err-TooWide.measure c.in-Err-TooWide.low c.in-Err-TooWide.high (search rules)
    (sound_in_range c.args.plan.now c.args.found.now.items
    (sound_by c.args.method c.args.plan.now c.requires.accepted c.args.found.now.items c.requires.enclosed))
    c.in-Err-TooWide.ensures.end
