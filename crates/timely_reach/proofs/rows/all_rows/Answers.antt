use Rattle.std.proofs.Common.{List, length, ap, arith}
use Rattle.timely_reach.specs.declared.kinds.ReachMeasure.TheVariants as measure
use Rattle.timely_reach.specs.declared.kinds.ReachRow.{ReachRow}
use Rattle.timely_reach.specs.ReachRows.{row_of}
use Rattle.hyper_model.specs.Plans.{atoms, units}
use Rattle.timely_reach.proofs.ReachRows.{gained_each, gained_one}
use Rattle.timely_reach.proofs.rows.all_rows.Goals as goal

pub push_units-requires-clause-room : goal.push_units-requires-clause-room
push_units-requires-clause-room c =
    let p = c.args.plan.now in
    omega (
      arith,
      ap (λ (l : List ReachRow). length l) c.in_ok-rows.ensures,
      gained_one c.in_ok-rows.rows c.push.new.self c.in_ok-row_of.field-0 c.push.ensures,
      gained_one c.push.new.self c.push-2.new.self c.in_ok-row_of-2.field-0 c.push-2.ensures,
      gained_one c.push-2.new.self c.push-3.new.self c.in_ok-row_of-3.field-0 c.push-3.ensures,
      gained_each (λ j. row_of p c.args.timely.now c.args.parts.now (measure.Atom j)) c.push-3.new.self c.push_atoms.new.rows (atoms p)
          c.in_ok-push_atoms.ensures,
      c.law_accepted.ensures.atoms.number.high,
    )

pub push_districts-requires-clause-room : goal.push_districts-requires-clause-room
push_districts-requires-clause-room c =
    let p = c.args.plan.now in
    omega (
      arith,
      ap (λ (l : List ReachRow). length l) c.in_ok-rows.ensures,
      gained_one c.in_ok-rows.rows c.push.new.self c.in_ok-row_of.field-0 c.push.ensures,
      gained_one c.push.new.self c.push-2.new.self c.in_ok-row_of-2.field-0 c.push-2.ensures,
      gained_one c.push-2.new.self c.push-3.new.self c.in_ok-row_of-3.field-0 c.push-3.ensures,
      gained_each (λ j. row_of p c.args.timely.now c.args.parts.now (measure.Atom j)) c.push-3.new.self c.push_atoms.new.rows (atoms p)
          c.in_ok-push_atoms.ensures,
      c.law_accepted.ensures.atoms.number.high,
      gained_each (λ n. row_of p c.args.timely.now c.args.parts.now (measure.Unit n)) c.push_atoms.new.rows c.push_units.new.rows
          (units p) c.in_ok-push_units.ensures,
      c.law_accepted.ensures.units.number.high,
    )
