use Rattle.std.proofs.Common.{arith}
use Rattle.station_flows.proofs.rates.leaving.Goals as goal

pub overflow_add-sum-in-loop-station : goal.overflow_add-sum-in-loop-station
overflow_add-sum-in-loop-station c =
    omega (arith, c.loop-station.invariant.most, c.from.ensures, c.sent_from.ensures.most, c.ended_from.ensures.most)
