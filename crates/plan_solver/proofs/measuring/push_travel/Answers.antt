use Rattle.std.proofs.Common.{◌∙◌, arith}
use Rattle.plan_solver.proofs.AllMeasures.{atom_times_fit, district_times_fit, read_fits, unit_times_fit}
use Rattle.plan_solver.proofs.measuring.push_travel.Goals as goal

pub push_all-requires-clause-room : goal.push_all-requires-clause-room
push_all-requires-clause-room c =
    omega (
      arith,
      c.requires.room,
      c.push.ensures.spare,
      read_fits _ _ _ (c.deref.ensures.value ∙ c.in_ok-atom_times.ensures.exact) (atom_times_fit c.args.plan.now c.law_accepted.ensures c.args.parts.now),
    )

pub push_all-requires-2-clause-room : goal.push_all-requires-2-clause-room
push_all-requires-2-clause-room c =
    omega (
      arith,
      c.requires.room,
      c.push.ensures.spare,
      c.push_all.ensures.room,
      read_fits _ _ _ (c.deref.ensures.value ∙ c.in_ok-atom_times.ensures.exact) (atom_times_fit c.args.plan.now c.law_accepted.ensures c.args.parts.now),
      read_fits _ _ _ (c.deref-2.ensures.value ∙ c.in_ok-unit_times.ensures.exact) (unit_times_fit c.args.plan.now c.law_accepted.ensures c.args.parts.now),
    )

pub push_all-requires-3-clause-room : goal.push_all-requires-3-clause-room
push_all-requires-3-clause-room c =
    omega (
      arith,
      c.requires.room,
      c.push.ensures.spare,
      c.push_all.ensures.room,
      c.push_all-2.ensures.room,
      read_fits _ _ _ (c.deref.ensures.value ∙ c.in_ok-atom_times.ensures.exact) (atom_times_fit c.args.plan.now c.law_accepted.ensures c.args.parts.now),
      read_fits _ _ _ (c.deref-2.ensures.value ∙ c.in_ok-unit_times.ensures.exact) (unit_times_fit c.args.plan.now c.law_accepted.ensures c.args.parts.now),
      read_fits _ _ _ (c.deref-3.ensures.value ∙ c.in_ok-district_times.ensures.exact) (district_times_fit c.args.plan.now c.law_accepted.ensures c.args.parts.now),
    )
