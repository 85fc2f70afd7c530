use Rattle.std.proofs.Common.{◌<◌, ◌≤◌, arith}
use Rattle.hyper_model.specs.Plans.{atoms}
use Rattle.travel_measures.proofs.Sums.{calls_next, calls_so_far}
use Rattle.travel_measures.proofs.trips.unit_trips.Goals as goal

pub plus-total-requires : goal.plus-total-requires
plus-total-requires c =
    let inside : c.loop-atom.atom < atoms c.args.plan.now = omega (arith, c.atoms-atom-end.ensures.atoms) in
    omega (
      arith,
      c.loop-atom.invariant.most,
      c.trips_where.ensures.most,
      calls_next c.args.plan.now c.requires.accepted c.loop-atom.atom inside,
    )

pub returns-clause-most : goal.returns-clause-most
returns-clause-most c =
    let within : c.loop-atom.atom ≤ atoms c.args.plan.now = omega (arith, c.atoms-atom-end.ensures.atoms) in
    omega (
      arith,
      c.loop-atom.invariant.most,
      calls_so_far c.args.plan.now c.loop-atom.atom within,
      c.requires.accepted.atoms.calls.high,
    )
