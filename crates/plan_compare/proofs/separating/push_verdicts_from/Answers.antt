use Rattle.std.proofs.Common.{◌∙◌, ap, arith}
use Rattle.plan_compare.specs.Values.{value_at}
use Rattle.plan_compare.specs.Verdicts.{verdict_of, verdict_on}
use Rattle.plan_compare.proofs.Pairs.{pairs_next}
use Rattle.plan_compare.proofs.separating.push_verdicts_from.Goals as goal

pub loop-b-preserved : goal.loop-b-preserved
loop-b-preserved c =
    let found = c.args.found.now in
    let m = c.args.measure in
    record {
      items = pairs_next (verdict_of found) m c.args.a c.loop-b.b c.args.out.now.items c.loop-b.out.items c.push.new.self.items
          c.verdict_on.result (omega arith) c.loop-b.invariant.items c.push.ensures.items
          (c.verdict_on.ensures
          ∙ ap (λ v. verdict_on v c.value_at.result) c.value_at-first.ensures.value
          ∙ ap (verdict_on (value_at found m c.args.a)) c.value_at.ensures.value);
      spare = omega arith;
    }
