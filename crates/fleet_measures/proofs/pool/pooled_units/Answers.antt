use Rattle.std.proofs.Common.{◌≡◌, List, length, map, ap, ◌∙◌, arith}
use Rattle.std.specs.List.{range_with_len}
use Rattle.std.proofs.lemmas.List.FromFn.{length-map-range_with_len}
use Rattle.hyper_model.specs.declared.parts.Unit as declared_unit
use Rattle.hyper_model.proofs.Ranges.{list_more}
use Rattle.crew_stations.specs.Stations.{stations}
use Rattle.fleet_measures.specs.Pooled.{pooled_unit}
use Rattle.fleet_measures.proofs.pool.pooled_units.Goals as goal

pub push-requires : goal.push-requires
push-requires c =
    omega (
      arith,
      ap (λ (units : List declared_unit.Unit). length units) c.loop-k.invariant,
      length-map-range_with_len (pooled_unit c.args.fleet.now) 0 c.loop-k.k,
      c.stations-k-end.ensures.most,
    )

pub loop-k-preserved : goal.loop-k-preserved
loop-k-preserved c =
    list_more (pooled_unit c.args.fleet.now) c.loop-k.units c.push.new.self c.loop-k.k c.in_ok-pooled_unit.field-0
    c.loop-k.invariant c.in_ok-pooled_unit.ensures c.push.ensures

pub returns : goal.returns
returns c =
    let end : c.loop-k.k ≡ stations c.args.fleet.now = omega (arith, c.stations-k-end.ensures.stations) in
    c.loop-k.invariant ∙ ap (λ n. map (pooled_unit c.args.fleet.now) (range_with_len 0 n)) end
