use Rattle.std.proofs.Common.{◌∙◌, ◌∷◌, [], List, length, sym, ap, subst, arith, length-append}
use Rattle.hyper_model.specs.declared.values.Value.{Value}
use Rattle.dispatch_fractions.specs.PartLists.{AreSizedFor}
use Rattle.timely_reach.specs.Reach.{IsReachInRange, has_no_calls}
use Rattle.timely_reach.specs.ReachRows.{share_in}
use Rattle.timely_reach.proofs.ReachRows.{mapped_next}
use Rattle.timely_reach.proofs.TimelyPlans.{timely_at, timely_called, timely_range, timely_sized}
use Rattle.timely_reach.proofs.rows.push_shares.Goals as goal

pub share_of-requires-clause-sized : goal.share_of-requires-clause-sized
share_of-requires-clause-sized c =
    let p = c.args.plan.now in
    let at = timely_at p c.args.parts.now c.args.timely.now c.requires.ready c.loop-place.place c.get.result.now c.get.ensures in
    subst (λ t. AreSizedFor t c.args.parts.now) (sym at.1) (timely_sized p at.0 c.args.parts.now c.requires.ready.sized)

pub share_of-requires-clause-in_range : goal.share_of-requires-clause-in_range
share_of-requires-clause-in_range c =
    let p = c.args.plan.now in
    let at = timely_at p c.args.parts.now c.args.timely.now c.requires.ready c.loop-place.place c.get.result.now c.get.ensures in
    subst (λ t. IsReachInRange t c.args.measure) (sym at.1) (timely_range p at.0 c.args.measure c.requires.in_range)

pub share_of-requires-clause-called : goal.share_of-requires-clause-called
share_of-requires-clause-called c =
    let p = c.args.plan.now in
    let at = timely_at p c.args.parts.now c.args.timely.now c.requires.ready c.loop-place.place c.get.result.now c.get.ensures in
    ap (λ t. has_no_calls t c.args.measure) at.1 ∙ timely_called p at.0 c.args.measure ∙ c.requires.called

pub loop-place-preserved : goal.loop-place-preserved
loop-place-preserved c = record {
  ends = mapped_next (share_in c.args.parts.now c.args.measure) c.args.timely.now c.loop-place.place c.get.result.now
      c.loop-place.ends c.push.new.self c.share_of.result c.get.ensures c.loop-place.invariant.ends c.share_of.ensures c.push.ensures;
  count = omega (
    arith,
    ap (λ (l : List Value). length l) c.push.ensures,
    length-append c.loop-place.ends (c.share_of.result ∷ []),
    c.loop-place.invariant.count,
  );
}
