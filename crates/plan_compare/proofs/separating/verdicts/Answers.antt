use Rattle.std.proofs.Common.{◌≡◌, ◌++◌, ◌∙◌, ap, sym, length, map, take, arith, length-append}
use Rattle.std.specs.List.{flat_map}
use Rattle.std.proofs.lemmas.List.{map-append, take_all}
use Rattle.plan_compare.specs.Verdicts.{pairs_of, verdict_of}
use Rattle.text_lines.proofs.Pieces.{piece_next}
use Rattle.plan_compare.proofs.Pieces.{piece_fits}
use Rattle.plan_compare.proofs.TrueVerdicts.{all_contained, all_true}
use Rattle.plan_compare.proofs.separating.verdicts.Goals as goal

pub push_verdicts-requires : goal.push_verdicts-requires
push_verdicts-requires c =
    let pairs = pairs_of (length c.args.found.now) in
    let room = rw (← c.requires.one_each) at c.requires.room in
    omega (arith, piece_fits pairs c.args.study.now.measures c.loop-k.k c.measure.result c.measure.ensures.measure, c.loop-k.invariant.spare, room)

pub loop-k-preserved : goal.loop-k-preserved
loop-k-preserved c =
    let pairs = pairs_of (length c.args.found.now) in
    let tell = verdict_of c.args.found.now in
    let measures = c.args.study.now.measures in
    let done = flat_map pairs (take c.loop-k.k measures) in
    let next = piece_next pairs measures c.loop-k.k c.measure.result c.measure.ensures.measure in
    record {
      items = c.push_verdicts.ensures.items
          ∙ ap (λ ys. ys ++ map tell (pairs c.measure.result)) c.loop-k.invariant.items
          ∙ sym (ap (map tell) next ∙ map-append tell done (pairs c.measure.result));
      spare = omega (arith, ap length next, length-append done (pairs c.measure.result), c.loop-k.invariant.spare, c.push_verdicts.ensures.spare);
    }

pub returns-clause-proved : goal.returns-clause-proved
returns-clause-proved c =
    let found = c.args.found.now in
    let measures = c.args.study.now.measures in
    let tell = verdict_of found in
    let all : take c.loop-k.k measures ≡ measures = take_all c.loop-k.k measures (omega (arith, c.measures-k-end.ensures.number)) in
    all_true c.args.study.now found c.loop-k.out.items c.measures-k-end.ensures.region
    (c.loop-k.invariant.items
    ∙ ap (λ ms. map tell (flat_map (pairs_of (length found)) ms)) all
    ∙ ap (λ n. map tell (flat_map (pairs_of n) measures)) c.requires.one_each)

pub returns-clause-contained : goal.returns-clause-contained
returns-clause-contained c = all_contained c.args.study.now c.args.found.now c.measures-k-end.ensures.region
