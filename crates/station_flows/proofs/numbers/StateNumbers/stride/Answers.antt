use Rattle.std.proofs.Common.{◌≡◌, ◌<◌, length, ◌∙◌, sym, subst, arith}
use Rattle.std.proofs.lemmas.Grind.{get_or_default_zero}
use Rattle.crew_stations.specs.Stations.{stations, crews_at, stride_of}
use Rattle.crew_stations.proofs.Fleets.{stride_small}
use Rattle.crew_stations.proofs.Radix.{stride_positive}
use Rattle.station_flows.proofs.numbers.StateNumbers.stride.Goals as goal

pub returns-clause-least : goal.returns-clause-least
returns-clause-least c =
    let s = c.self.inside.fleet.now in
    let unit : c.args.station < stations s = subst (λ v. c.args.station < stations v) (sym c.self.view_is) c.requires in
    let inside : c.args.station < length c.self.inside.strides.items = omega (arith, unit, c.self.invariant.forward.one_each) in
    let read : c.index.result.now ≡ stride_of s c.args.station =
    c.index.ensures ∙ get_or_default_zero c.self.inside.strides.items c.args.station c.index.result.now inside
    ∙ c.self.invariant.forward.each c.args.station unit in
    omega (arith, read, stride_positive (crews_at s) c.args.station)

pub returns-clause-most : goal.returns-clause-most
returns-clause-most c =
    let s = c.self.inside.fleet.now in
    let unit : c.args.station < stations s = subst (λ v. c.args.station < stations v) (sym c.self.view_is) c.requires in
    let inside : c.args.station < length c.self.inside.strides.items = omega (arith, unit, c.self.invariant.forward.one_each) in
    let read : c.index.result.now ≡ stride_of s c.args.station =
    c.index.ensures ∙ get_or_default_zero c.self.inside.strides.items c.args.station c.index.result.now inside
    ∙ c.self.invariant.forward.each c.args.station unit in
    omega (arith, read, stride_small s c.law_fleet.ensures c.args.station (omega (arith, unit)))
