use Rattle.std.proofs.Common.{◌≡◌, ◌<◌, length, get_or, ap, subst, ◌∙◌, arith}
use Rattle.hyper_model.specs.Groups.{member_at, IsRegular}
use Rattle.hyper_model.specs.Plans.{atoms}
use Rattle.crew_stations.specs.Stations.{order_of}
use Rattle.station_flows.proofs.StateRates.{list_length, station_listed}
use Rattle.station_flows.proofs.numbers.StateNumbers.first_with_room.Goals as goal

pub has_room-requires-clause-station : goal.has_room-requires-clause-station
has_room-requires-clause-station c =
    let s = c.args.self.now in
    let same : c.parts.result.now ≡ s.parts = c.parts.ensures.parts ∙ ap (λ f. f.parts) c.fleet.ensures.fleet in
    let regular : IsRegular s.parts.lists = subst (λ p. IsRegular p.lists) same c.units-place-end.ensures.regular in
    let rows : length s.parts.lists.rows ≡ atoms s.parts = c.fleet.ensures.within.accepted.lists.one_each in
    let width : c.units-place-end.result ≡ s.parts.lists.units = c.units-place-end.ensures.units ∙ ap (λ p. p.lists.units) same in
    let reaches : c.loop-place.place < length (order_of s c.args.atom) =
    omega (arith, list_length s regular c.args.atom (omega (arith, rows, c.requires.atom)), width) in
    let member : c.unit.result ≡ get_or (order_of s c.args.atom) c.loop-place.place 0 =
    c.unit.ensures ∙ ap (λ p. member_at p.lists c.args.atom c.loop-place.place) same in
    omega (arith, c.from-station.ensures, member, station_listed s c.fleet.ensures.within c.args.atom c.loop-place.place c.requires.atom reaches)
