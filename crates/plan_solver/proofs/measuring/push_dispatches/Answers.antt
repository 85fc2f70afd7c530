use Rattle.std.proofs.Common.{◌∙◌, arith}
use Rattle.plan_solver.proofs.AllMeasures.{fractions_fit, read_fits, shares_fit}
use Rattle.plan_solver.proofs.measuring.push_dispatches.Goals as goal

pub push_all-requires-clause-room : goal.push_all-requires-clause-room
push_all-requires-clause-room c =
    omega (
      arith,
      c.requires.room,
      read_fits _ _ _ (c.deref.ensures.value ∙ c.in_ok-fractions.ensures.exact) (fractions_fit c.args.plan.now c.law_accepted.ensures c.args.parts.now),
    )

pub push_all-requires-2-clause-room : goal.push_all-requires-2-clause-room
push_all-requires-2-clause-room c =
    omega (
      arith,
      c.requires.room,
      c.push_all.ensures.room,
      read_fits _ _ _ (c.deref.ensures.value ∙ c.in_ok-fractions.ensures.exact) (fractions_fit c.args.plan.now c.law_accepted.ensures c.args.parts.now),
      read_fits _ _ _ (c.deref-2.ensures.value ∙ c.in_ok-interdistrict.ensures.exact) (shares_fit c.args.plan.now c.law_accepted.ensures c.args.parts.now),
    )

pub returns-clause-room : goal.returns-clause-room
returns-clause-room c =
    omega (
      arith,
      c.push_all.ensures.room,
      c.push_all-2.ensures.room,
      read_fits _ _ _ (c.deref.ensures.value ∙ c.in_ok-fractions.ensures.exact) (fractions_fit c.args.plan.now c.law_accepted.ensures c.args.parts.now),
      read_fits _ _ _ (c.deref-2.ensures.value ∙ c.in_ok-interdistrict.ensures.exact) (shares_fit c.args.plan.now c.law_accepted.ensures c.args.parts.now),
    )
