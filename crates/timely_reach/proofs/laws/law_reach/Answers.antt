use Rattle.std.proofs.Common.{subst}
use Rattle.hyper_model.specs.Grid.{IsSized}
use Rattle.timely_reach.proofs.ReachRows.{one_reach, reach_contains, reach_in_range}
use Rattle.timely_reach.proofs.laws.law_reach.Goals as goal

pub returns : goal.returns
returns c =
    let p = c.args.plan.now in
    let sized : IsSized p.travel = subst IsSized c.travel_table.ensures c.cols-places.ensures.sized in
    record {
      alone = one_reach p;
      contains = reach_contains p c.calls-calls.ensures.accepted sized;
      in_range = reach_in_range p c.calls-calls.ensures.accepted sized c.law_existence.ensures;
    }
