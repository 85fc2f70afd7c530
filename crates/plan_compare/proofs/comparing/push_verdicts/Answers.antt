use Rattle.std.proofs.Common.{◌≡◌, ◌-◌, ◌++◌, ◌∙◌, sym, ap, take, arith}
use Rattle.std.proofs.lemmas.List.{take-append-drop}
use Rattle.plan_compare.proofs.Pairs.{pairs_left-length}
use Rattle.plan_compare.proofs.VerdictRows.{rows_next}
use Rattle.plan_compare.proofs.comparing.push_verdicts.Goals as goal

pub split_at-requires : goal.split_at-requires
split_at-requires c =
    omega (arith, pairs_left-length c.args.plans c.args.measure c.loop-a.a c.loop-a-test.true, c.loop-a.invariant.number)

pub loop-a-preserved : goal.loop-a-preserved
loop-a-preserved c =
    let rest = c.loop-a.rest.now in
    let here = c.split_at.result.0.now in
    let later = c.split_at.result.1.now in
    let a = c.loop-a.a in
    let n = c.args.plans in
    let both : rest ≡ here ++ later =
    sym (ap (λ vs. vs ++ later) c.split_at.ensures.front ∙ ap (λ vs. take (n - 1 - a) rest ++ vs) c.split_at.ensures.back ∙ take-append-drop (n - 1 - a) rest) in
    record {
      number = omega (arith, pairs_left-length n c.args.measure a c.loop-a-test.true, c.loop-a.invariant.number, c.split_at.ensures.back_len);
      text = rows_next n c.args.measure a rest here later c.loop-a.text.items c.push_verdicts_from.new.text.items _ c.loop-a-test.true
          (c.split_at.ensures.front_len ∙ omega arith) both c.in_ok-push_verdicts_from.ensures c.loop-a.invariant.text;
    }
