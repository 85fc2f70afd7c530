-- The exact ends of the measures of calls and of units, from the weights of a plan. Each measure is one part of the
-- weights times a fraction, and is rounded outward a single time.
use Rattle.std.specs.Prelude.{ℕ, ◌-◌, ◌*◌, ◌^◌, List, [], ◌∷◌, ◌++◌, map}
use Rattle.std.specs.List.{range_with_len}
use Rattle.fixed_interval.specs.Ends.{Ends, outward_ends, ratio_ends}
use Rattle.fixed_interval.specs.WeightList.{ends_at}
use Rattle.hyper_model.specs.declared.kinds.Line.{Line}
use Rattle.hyper_model.specs.declared.kinds.Line.TheVariants as line
use Rattle.hyper_model.specs.declared.kinds.Measure.{Measure}
use Rattle.hyper_model.specs.declared.kinds.Measure.TheVariants as measure
use Rattle.hyper_model.specs.declared.kinds.Enclosed.{Enclosed}
use Rattle.hyper_model.specs.declared.parts.PlanParts.{PlanParts}
use Rattle.hyper_model.specs.Plans.{units, all_calls, all_service}
use Rattle.busy_words.specs.Order.{WordOrder}
use Rattle.busy_words.specs.WeightParts.{busy_part, full_part, tail_part}
use Rattle.busy_words.specs.MeasureEnds.{measure_ends}

-- a call that finds all units busy is lost, or it waits
abbrev pub loss_or_delay_on : Line → Measure
loss_or_delay_on line.Zero = measure.Loss
loss_or_delay_on line.Infinite = measure.Delay

-- the part of the states in which all units are busy, in millionths
abbrev pub loss_ends : PlanParts → List Ends → Ends
loss_ends p items = outward_ends 1000000 (full_part p (ends_at items))

-- the calls that wait, in millionths of a call: the part of the states in which a call waits, times all service
-- over the service that the calls leave
abbrev pub queue_ends : PlanParts → List Ends → Ends
queue_ends p items =
    ratio_ends (tail_part p (ends_at items)) (1000000 * all_service p) (2 ^ 62 * (all_service p - all_calls p))

-- the mean time that a call waits, in thousandths of a second: the calls that wait over those that come in a
-- second (Little's law)
abbrev pub wait_ends : PlanParts → List Ends → Ends
wait_ends p items =
    ratio_ends (tail_part p (ends_at items)) (1000 * p.period * all_service p)
    (2 ^ 62 * ((all_service p - all_calls p) * all_calls p))

-- of the calls that find all units busy
abbrev pub line_measures : Line → PlanParts → List Ends → List Enclosed
line_measures line.Zero p items = measure_ends measure.Loss (loss_ends p items) ∷ []
line_measures line.Infinite p items =
    measure_ends measure.Delay (loss_ends p items)
    ∷ measure_ends measure.Queue (queue_ends p items)
    ∷ measure_ends measure.Wait (wait_ends p items)
    ∷ []

-- the part of the states in which unit n is busy, in millionths
abbrev pub workload_ends : PlanParts → WordOrder → List Ends → ℕ → Ends
workload_ends p order items n = outward_ends 1000000 (busy_part p order (ends_at items) n)

abbrev pub workload_of : PlanParts → WordOrder → List Ends → ℕ → Enclosed
workload_of p order items n = measure_ends (measure.Workload n) (workload_ends p order items n)

-- one for each unit
abbrev pub workloads_of : PlanParts → WordOrder → List Ends → List Enclosed
workloads_of p order items = map (workload_of p order items) (range_with_len 0 (units p))

-- all measures of calls and of units, in the order in which a report prints them
abbrev pub loads_of : PlanParts → WordOrder → List Ends → List Enclosed
loads_of p order items = line_measures p.line p items ++ workloads_of p order items
