-- The exact ends of the shares, in millionths, made of the parts of a plan's weights. The plan is the timely one: its mean
-- travel times, in thousandths of a second, are the shares in millionths.
use Rattle.std.specs.Prelude.{◌-◌, ◌*◌, ◌^◌, None, Some}
use Rattle.fixed_interval.specs.Ends.{Ends, between, exact_ends, outward_ends, quotient_ends, times_part_ends}
use Rattle.hyper_model.specs.declared.kinds.Line.{Line}
use Rattle.hyper_model.specs.declared.kinds.Line.TheVariants as line
use Rattle.hyper_model.specs.declared.parts.PlanParts.{PlanParts}
use Rattle.hyper_model.specs.Plans.{all_calls, district_calls}
use Rattle.dispatch_fractions.specs.PartLists.{PartList}
use Rattle.travel_measures.specs.TravelEnds.{all_trip_ends, atom_ends, mean_ends, unit_ends}
use Rattle.timely_reach.specs.declared.kinds.ReachMeasure.{ReachMeasure}
use Rattle.timely_reach.specs.declared.kinds.ReachMeasure.TheVariants as measure

-- the part of the states in which a call that comes is answered: all, but the full word if calls are lost
abbrev pub answered_part : Line → Ends → Ends
answered_part line.Zero full = between (2 ^ 62 - full.hi) (2 ^ 62 - full.lo)
answered_part line.Infinite full = exact_ends (2 ^ 62)

-- the part of the answered calls that a free unit reaches in time
abbrev pub prompt_part : PlanParts → PartList → Ends
prompt_part q parts = quotient_ends (all_trip_ends q parts None) (exact_ends (1000000 * all_calls q)) (2 ^ 62)

-- the share of all calls that a free unit reaches in time
abbrev pub at_once_ends : PlanParts → PartList → Ends
at_once_ends q parts = outward_ends 1000000 (times_part_ends (prompt_part q parts) (answered_part q.line parts.full))

abbrev pub region_share_ends : PlanParts → PartList → Ends
region_share_ends q parts = mean_ends q parts None (all_calls q)

-- the share of all calls that are reached in time: if calls are lost nobody waits, and if they wait all are answered
abbrev pub all_ends_on : Line → PlanParts → PartList → Ends
all_ends_on line.Zero q parts = at_once_ends q parts
all_ends_on line.Infinite q parts = region_share_ends q parts

abbrev pub share_ends_of : PlanParts → PartList → ReachMeasure → Ends
share_ends_of q parts measure.Region = region_share_ends q parts
share_ends_of q parts measure.All = all_ends_on q.line q parts
share_ends_of q parts measure.AtOnce = at_once_ends q parts
share_ends_of q parts (measure.Atom j) = atom_ends q parts j
share_ends_of q parts (measure.Unit n) = unit_ends q parts n
share_ends_of q parts (measure.District n) = mean_ends q parts (Some n) (district_calls q n)
