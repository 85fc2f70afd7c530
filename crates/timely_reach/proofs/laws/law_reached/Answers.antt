use Rattle.std.proofs.Common.{subst}
use Rattle.hyper_model.specs.Grid.{IsSized}
use Rattle.timely_reach.proofs.ReachLaws.{none_reached, reach_grows, reach_positive, whole_reached}
use Rattle.timely_reach.proofs.TimelyTimes.{timely_times}
use Rattle.timely_reach.proofs.laws.law_reached.Goals as goal

pub returns : goal.returns
returns c =
    let p = c.args.plan.now in
    let sized : IsSized p.travel = subst IsSized c.travel_table.ensures c.cols-places.ensures.sized in
    record {
      times = timely_times p c.law_accepted.ensures sized;
      grows = λ x z limit more le. reach_grows p limit more le x z;
      whole = λ xs z s limit most. whole_reached p c.law_accepted.ensures limit most xs z s;
      none = λ x z limit none. none_reached p limit none x z;
      positive = reach_positive p c.law_accepted.ensures;
    }
