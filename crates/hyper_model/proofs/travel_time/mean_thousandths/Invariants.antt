use Rattle.hyper_model.proofs.TravelTimes.{IsTotal}
use Rattle.hyper_model.proofs.travel_time.mean_thousandths.Given as goal

abbrev pub invariant-loop-k : goal.invariant-loop-k
invariant-loop-k l = IsTotal l.located l.travel l.unit l.atom l.k l.total
