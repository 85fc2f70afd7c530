-- What a fleet may have in all.
use Rattle.std.specs.Prelude.{if◌then◌else◌, nat_lt, Option, Some}
use Rattle.std.specs.Option.{option_map}
use Rattle.hyper_model.specs.Plans.{all_calls}
use Rattle.hyper_model.specs.declared.TheConstants.{MOST_RATE}
use Rattle.crew_stations.specs.Stations.{StationPlan, all_crews, fleet_service, states}
use Rattle.crew_stations.specs.declared.TheConstants.{MOST_CREWS, MOST_STATES}
use Rattle.plan_reader.specs.PlanOf.{stable_refusal}
use Rattle.plan_reader.specs.FleetRefusals.{of_plan}
use Rattle.plan_reader.specs.declared.fleet_refusal.FleetRefusal.{FleetRefusal}
use Rattle.plan_reader.specs.declared.fleet_refusal.FleetRefusal.TheVariants.{CrewService, TooManyCrews, TooManyStates}

-- neither crews nor states nor service may be too many, and calls that wait have to be fewer than all crews can serve
abbrev pub limits_refusal : StationPlan → Option FleetRefusal
limits_refusal s =
    if nat_lt MOST_CREWS (all_crews s) then Some (TooManyCrews (all_crews s))
    else if nat_lt MOST_STATES (states s) then Some (TooManyStates (states s))
    else if nat_lt MOST_RATE (fleet_service s) then Some (CrewService (fleet_service s))
    else option_map of_plan (stable_refusal s.parts.line (all_calls s.parts) (fleet_service s))
