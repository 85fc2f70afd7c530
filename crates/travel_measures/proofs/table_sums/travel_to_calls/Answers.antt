use Rattle.std.proofs.Common.{◌≡◌, suc, ◌+◌, ◌*◌, ◌^◌, ◌<◌, ◌≤◌, refl, arith}
use Rattle.std.proofs.lemmas.Nat.{mul-le}
use Rattle.hyper_model.specs.Sums.{sum_below}
use Rattle.hyper_model.specs.Plans.{atoms, calls_of, all_calls}
use Rattle.travel_measures.proofs.Sums.{calls_next, rates_more}
use Rattle.travel_measures.proofs.table_sums.travel_to_calls.Goals as goal

pub overflow_add-total : goal.overflow_add-total
overflow_add-total c =
    let p = c.args.plan.now in
    let inside : c.loop-atom.atom < atoms p = omega (arith, c.atoms-atom-end.ensures.atoms) in
    let each : all_calls p * 100000 ≤ 100000000000 = omega (arith, c.requires.atoms.calls.high) in
    let room = mul-le (sum_below c.loop-atom.atom (calls_of p) + calls_of p c.loop-atom.atom) (all_calls p * 100000) 1000000
    100000000000 (calls_next p c.requires c.loop-atom.atom inside) each in
    let below : c.loop-atom.total + c.travel_where-total.result < 2 ^ 64 =
    omega (arith, c.loop-atom.invariant.most, c.travel_where-total.ensures.most, room) in
    omega arith

pub loop-atom-preserved : goal.loop-atom-preserved
loop-atom-preserved c =
    let p = c.args.plan.now in
    let next : c.loop-atom.atom + 1 ≡ suc c.loop-atom.atom = omega arith in
    record {
      travel = rw next (omega (arith, c.loop-atom.invariant.travel, c.travel_where-total.ensures.travel));
      most = rates_more (calls_of p) c.loop-atom.atom (c.loop-atom.atom + 1) (all_calls p * 100000) c.loop-atom.total
          c.travel_where-total.result (c.loop-atom.total + c.travel_where-total.result) next c.loop-atom.invariant.most
          c.travel_where-total.ensures.most refl;
    }
