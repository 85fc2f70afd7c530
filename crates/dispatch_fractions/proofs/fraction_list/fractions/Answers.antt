use Rattle.std.proofs.Common.{◌≡◌, ap, ◌∙◌, arith}
use Rattle.std.specs.List.{flat_map, range_with_len}
use Rattle.hyper_model.specs.Plans.{units}
use Rattle.dispatch_fractions.specs.Fractions.{unit_fractions}
use Rattle.hyper_model.proofs.Ranges.{flat_more}
use Rattle.dispatch_fractions.proofs.fraction_list.fractions.Goals as goal

pub loop-unit-preserved : goal.loop-unit-preserved
loop-unit-preserved c = record {
  exact = flat_more (unit_fractions c.args.plan.now c.args.parts.now) c.loop-unit.found.items c.push_unit.new.found.items
      c.loop-unit.unit c.loop-unit.invariant.exact c.in_ok-push_unit.ensures.exact;
  ordered = c.in_ok-push_unit.ensures.ordered;
}

pub returns-clause-exact : goal.returns-clause-exact
returns-clause-exact c =
    let end : c.loop-unit.unit ≡ units c.args.plan.now = omega (arith, c.units-unit-end.ensures.units) in
    c.loop-unit.invariant.exact
    ∙ ap (λ n. flat_map (unit_fractions c.args.plan.now c.args.parts.now) (range_with_len 0 n)) end
