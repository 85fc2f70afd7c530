use Rattle.std.proofs.Common.{◌+◌, ◌∙◌, ap, length, map, arith, length-append}
use Rattle.std.specs.List.{flat_map, range_with_len}
use Rattle.std.proofs.lemmas.List.{map-append}
use Rattle.plan_compare.specs.Verdicts.{pairs_from, verdict_of}
use Rattle.plan_compare.proofs.Pairs.{pairs_from-length}
use Rattle.text_lines.proofs.Pieces.{one_gained, numbers_next}
use Rattle.plan_compare.proofs.Pieces.{range_fits}
use Rattle.plan_compare.proofs.separating.push_verdicts.Goals as goal

pub push_verdicts_from-requires-clause-room : goal.push_verdicts_from-requires-clause-room
push_verdicts_from-requires-clause-room c =
    let n = length c.args.found.now in
    omega (
      arith,
      range_fits (pairs_from n c.args.measure) n c.loop-a.a c.loop-a-test.true,
      pairs_from-length n c.args.measure c.loop-a.a,
      c.loop-a.invariant.spare,
      c.requires,
    )

pub loop-a-preserved : goal.loop-a-preserved
loop-a-preserved c =
    let n = length c.args.found.now in
    let a = c.loop-a.a in
    let pairs = pairs_from n c.args.measure in
    let tell = verdict_of c.args.found.now in
    let done = flat_map pairs (range_with_len 0 a) in
    let next = numbers_next pairs a in
    record {
      items = one_gained c.args.out.now.items c.loop-a.out.items (map tell done) (map tell (pairs a))
          (map tell (flat_map pairs (range_with_len 0 (a + 1)))) c.push_verdicts_from.new.out.items c.loop-a.invariant.items
          c.push_verdicts_from.ensures.items (ap (map tell) next ∙ map-append tell done (pairs a));
      spare = omega (
        arith,
        ap length next,
        length-append done (pairs a),
        pairs_from-length n c.args.measure a,
        c.loop-a.invariant.spare,
        c.push_verdicts_from.ensures.spare,
      );
    }
