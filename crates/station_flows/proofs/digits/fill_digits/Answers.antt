use Rattle.std.proofs.Common.{◌*◌, ◌<◌, ap₂, ◌∙◌, arith}
use Rattle.std.proofs.lemmas.Nat.{div-mul-add, mod-mul-add}
use Rattle.crew_stations.specs.Stations.{busy_in, stations, states}
use Rattle.station_flows.specs.StateRates.{place_of}
use Rattle.station_flows.proofs.StateRates.{place_inside}
use Rattle.station_flows.proofs.digits.fill_digits.Goals as goal

pub returns : goal.returns
returns c =
    let s = c.args.fleet.now in
    record {
      one_each = omega arith;
      each = λ a k l h.
          c.loop-place.invariant (place_of s a k) (omega (arith, place_inside s a k l h))
          ∙ ap₂ (λ x y. busy_in s x y) (div-mul-add a (stations s) k h) (mod-mul-add a (stations s) k h);
    }
