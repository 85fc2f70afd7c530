use Rattle.std.proofs.Common.{List}
use Rattle.std.specs.Prelude.{Ok}
use Rattle.outer_world.specs.declared.named_text.NamedText.{NamedText}
use Rattle.hypercube_cli.specs.Tasks.Fleets.{IsFleetReported, fleet_at}
use Rattle.hypercube_cli.proofs.PlanTasks.{read_answers}
use Rattle.hypercube_cli.proofs.TrueFleets.{fleet_proved}
use Rattle.hypercube_cli.proofs.tasks.fleet.FleetReportTask.answer.Goals as goal

pub returns-clause-ending : goal.returns-clause-ending
returns-clause-ending g c =
    read_answers (g.S.Shelf.told c.args.shelf.now) (λ (texts : List NamedText). fleet_at texts c.args.self.file)
    (λ fleet. IsFleetReported fleet c.args.self.widths c.args.self.summary) c.in_ok-fleet.fleet (Ok c.in_ok-fleet_answer.field-0)
    (rw c.text.ensures.text at c.in_ok-fleet.ensures.content) c.in_ok-fleet_answer.ensures.ending

pub returns-clause-proved : goal.returns-clause-proved
returns-clause-proved g c =
    fleet_proved (g.S.Shelf.told c.args.shelf.now) (λ (texts : List NamedText). fleet_at texts c.args.self.file)
    c.args.self.summary c.in_ok-fleet.fleet (Ok c.in_ok-fleet_answer.field-0)
    (rw c.text.ensures.text at c.in_ok-fleet.ensures.content) c.law_fleet.ensures c.in_ok-fleet_answer.ensures.proved
