use Rattle.std.proofs.Common.{◌+◌, ◌∙◌, sym, ap, length, take}
use Rattle.std.specs.List.{flat_map}
use Rattle.plan_compare.specs.Comparisons.{measure_rows}
use Rattle.plan_compare.specs.Verdicts.{pairs_of, verdict_of}
use Rattle.plan_compare.proofs.MeasureRows.{verdicts_fit, verdicts_here, verdicts_later}
use Rattle.text_lines.proofs.Pieces.{one_gained, piece_next}
use Rattle.plan_compare.proofs.comparing.push_measures.Goals as goal

pub split_at-requires : goal.split_at-requires
split_at-requires c =
    let found = c.args.found.now in
    let m = c.measure-measure.result in
    verdicts_fit (verdict_of found) (length found) c.args.study.now.measures c.loop-k.k m c.measure-measure.ensures.measure c.loop-k.rest.now
    c.loop-k.invariant.rest c.pair_count-count.result
    (c.pair_count-count.ensures.pairs m ∙ ap (λ n. length (pairs_of n m)) (c.plans.ensures.number ∙ sym c.requires.one_each))

pub push_measure-requires-clause-verdicts : goal.push_measure-requires-clause-verdicts
push_measure-requires-clause-verdicts c =
    let found = c.args.found.now in
    let m = c.measure-measure.result in
    c.split_at.ensures.front
    ∙ verdicts_here (verdict_of found) (length found) c.args.study.now.measures c.loop-k.k m c.measure-measure.ensures.measure c.loop-k.rest.now
    c.loop-k.invariant.rest c.pair_count-count.result
    (c.pair_count-count.ensures.pairs m ∙ ap (λ n. length (pairs_of n m)) (c.plans.ensures.number ∙ sym c.requires.one_each))

pub loop-k-preserved : goal.loop-k-preserved
loop-k-preserved c =
    let found = c.args.found.now in
    let measures = c.args.study.now.measures in
    let k = c.loop-k.k in
    let m = c.measure-measure.result in
    let rows = measure_rows found in
    record {
      rest = c.split_at.ensures.back
          ∙ verdicts_later (verdict_of found) (length found) measures k m c.measure-measure.ensures.measure c.loop-k.rest.now
          c.loop-k.invariant.rest c.pair_count-count.result
          (c.pair_count-count.ensures.pairs m ∙ ap (λ n. length (pairs_of n m)) (c.plans.ensures.number ∙ sym c.requires.one_each));
      text = one_gained c.args.text.now.items c.loop-k.text.items (flat_map rows (take k measures)) (rows m)
          (flat_map rows (take (k + 1) measures)) c.push_measure.new.text.items c.loop-k.invariant.text c.in_ok-push_measure.ensures
          (piece_next rows measures k m c.measure-measure.ensures.measure);
    }
