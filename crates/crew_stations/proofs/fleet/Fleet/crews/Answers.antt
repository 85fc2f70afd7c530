use Rattle.std.proofs.Common.{◌≡◌, ◌<◌, sym, subst, arith}
use Rattle.std.proofs.lemmas.Option.{get_or_from_slice_get}
use Rattle.crew_stations.specs.Stations.{StationPlan, stations, crews_at}
use Rattle.crew_stations.proofs.Fleets.{crews_small}
use Rattle.crew_stations.proofs.fleet.Fleet.crews.Goals as goal

pub returns-clause-most : goal.returns-clause-most
returns-clause-most c =
    let s : StationPlan = record { parts = c.self.inside.parts; crews = c.self.inside.crews } in
    let here : crews_at s c.args.k ≡ c.get.result.now =
    get_or_from_slice_get s.crews c.args.k c.get.result.now 0 c.get.ensures in
    let inside : c.args.k < stations s = subst (λ v. c.args.k < stations v) (sym c.self.view_is) c.requires in
    omega (arith, here, crews_small s c.self.invariant c.args.k inside)
