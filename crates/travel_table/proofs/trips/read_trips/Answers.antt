use Rattle.std.proofs.Common.{◌<◌, inr, length, sym, arith}
use Rattle.std.proofs.lemmas.Result.{err_from_is_err_and}
use Rattle.atom_table.proofs.PairSteps.{pair-more, pair-refused}
use Rattle.travel_table.specs.Travel.{trip_in}
use Rattle.travel_table.specs.declared.refusal.TravelRefusal.TheVariants.{DuplicateTravel}
use Rattle.travel_table.proofs.TravelSteps.{trip_in-inside}
use Rattle.travel_table.proofs.trips.read_trips.Goals as goal

pub returns-in_err-take_trip-clause-refusal : goal.returns-in_err-take_trip-clause-refusal
returns-in_err-take_trip-clause-refusal c =
    let inv = c.loop-item.invariant in
    let lt : c.loop-item.item-index < length c.args.records.now = omega arith in
    let p = err_from_is_err_and c.from_residual-in_err-take_trip.result c.from_residual-in_err-take_trip.ensures.1 in
    rw (p.1, p.2) (inr (pair-refused DuplicateTravel (trip_in c.args.names.now) _ _ c.args.records.now c.loop-item.item-index c.loop-item.trips
    inv.read c.item-item.result lt (sym c.item-item.is) (trip_in-inside c.args.names.now c.item-item.result inv.some)
    c.in_err-take_trip.field-0.0 c.in_err-take_trip.ensures.refusal))

pub loop-item-preserved : goal.loop-item-preserved
loop-item-preserved c =
    let inv = c.loop-item.invariant in
    let lt : c.loop-item.item-index < length c.args.records.now = omega arith in
    record {
      some = inv.some;
      read = pair-more DuplicateTravel (trip_in c.args.names.now) _ _ c.args.records.now c.loop-item.item-index c.loop-item.trips inv.read
          c.item-item.result lt (sym c.item-item.is) (trip_in-inside c.args.names.now c.item-item.result inv.some)
          _ c.in_ok-take_trip.ensures.refusal c.in_ok-take_trip.ensures.taken;
    }
