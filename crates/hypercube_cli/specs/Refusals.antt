-- What the text line of a refusal says, and that no refusal is for lack of memory.
use Rattle.std.specs.Prelude.{◌≡◌}
use Rattle.plan_reader.specs.Refusals as plan
use Rattle.plan_reader.specs.declared.refusal.PlanRefusal.TheVariants as plan_refusal
use Rattle.plan_reader.specs.FleetRefusals as fleet
use Rattle.plan_reader.specs.declared.fleet_refusal.FleetRefusal.TheVariants as fleet_refusal
use Rattle.plan_compare.specs.Refusals as study
use Rattle.plan_compare.specs.declared.refusal.StudyRefusal.TheVariants as study_refusal
use Rattle.plan_maker.specs.Refusals as maker
use Rattle.plan_maker.specs.declared.refusal.MakeRefusal.TheVariants as maker_refusal
use Rattle.finite_line.specs.Refusals as finite
use Rattle.pair_dispatch.specs.Refusals as pair
use Rattle.site_sweep.specs.Finding as sweep
use Rattle.day_replay.specs.Refusals as day
use Rattle.day_replay.specs.declared.day_refusal.DayRefusal.TheVariants as day_refusal
use Rattle.hypercube_cli.specs.declared.refusal.Refusal.{Refusal}
use Rattle.hypercube_cli.specs.declared.refusal.Refusal.TheVariants as refused
use Rattle.hypercube_cli.specs.declared.refusal.RefusalFields.{RefusalFields}

-- the place of a plan or a fleet that is refused, 2 for a recorded day, and 0 for what stands at no place
abbrev pub fields_of : Refusal → RefusalFields
fields_of (refused.Plan place r) = record { place = place; code = plan.code_of r }
fields_of (refused.Study r) = record { place = 0; code = study.code_of r }
fields_of (refused.Make r) = record { place = 0; code = maker.code_of r }
fields_of (refused.Finite r) = record { place = 1; code = finite.code_of r }
fields_of (refused.Pair r) = record { place = 1; code = pair.code_of r }
fields_of (refused.Sweep r) = record { place = 1; code = sweep.code_of r }
fields_of (refused.Day r) = record { place = 2; code = day.code_of r }
fields_of (refused.Fleet r) = record { place = 1; code = fleet.code_of r }

-- it holds that there was no memory
abbrev pub WantsMemory : Refusal → Type 0
WantsMemory (refused.Plan place r) = r ≡ plan_refusal.NoMemory
WantsMemory (refused.Study r) = r ≡ study_refusal.NoMemory
WantsMemory (refused.Make r) = r ≡ maker_refusal.NoMemory
WantsMemory (refused.Finite r) = ⊥
WantsMemory (refused.Pair r) = ⊥
WantsMemory (refused.Sweep r) = ⊥
WantsMemory (refused.Day r) = r ≡ day_refusal.NoMemory
WantsMemory (refused.Fleet r) = r ≡ fleet_refusal.NoMemory
