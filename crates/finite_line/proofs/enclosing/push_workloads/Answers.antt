use Rattle.std.proofs.Common.{◌∷◌, [], List, length, ap, arith, length-append}
use Rattle.hyper_model.proofs.Ranges.{map_more}
use Rattle.finite_line.specs.declared.kinds.FiniteEnds.{FiniteEnds}
use Rattle.finite_line.specs.declared.kinds.FiniteMeasure.TheVariants as measure
use Rattle.finite_line.specs.PrintedEnds.{item_of}
use Rattle.finite_line.proofs.enclosing.push_workloads.Goals as goal

pub loop-unit-preserved : goal.loop-unit-preserved
loop-unit-preserved c = record {
  items = map_more
      (λ n. item_of c.args.plan.now c.args.places c.args.weighed.now.order c.args.weighed.now.weights.items (measure.Workload n))
      c.args.found.now c.loop-unit.found c.push.new.self c.loop-unit.unit c.found_of.result c.loop-unit.invariant.items
      c.found_of.ensures c.push.ensures;
  count = omega (
    arith,
    ap (λ (l : List FiniteEnds). length l) c.push.ensures,
    length-append c.loop-unit.found (c.found_of.result ∷ []),
    c.loop-unit.invariant.count,
  );
}
