use Rattle.std.proofs.Common.{◌<◌, List, length, sym, arith}
use Rattle.std.specs.Prelude.{Option}
use Rattle.std.proofs.lemmas.Result.{err_from_is_err_and}
use Rattle.plan_text.specs.declared.record.Record.{Record}
use Rattle.plan_text.proofs.Over.{kept-more, over-end, over-more}
use Rattle.atom_table.specs.Entries.{unit_in, units_in}
use Rattle.atom_table.specs.Refusals.{unit_records_refusal, unit_refusal}
use Rattle.atom_table.specs.declared.refusal.AtomRefusal.{AtomRefusal}
use Rattle.atom_table.specs.declared.refusal.AtomRefusal.TheVariants.{NoMemory}
use Rattle.atom_table.proofs.unit_step.read_units.Goals as goal

abbrev test : List Record → Record → Option AtomRefusal
test before = unit_refusal (units_in before)

pub returns-in_err-take_unit-clause-refusal : goal.returns-in_err-take_unit-clause-refusal
returns-in_err-take_unit-clause-refusal c =
    let lt : c.loop-item.item-index < length c.args.records.now = omega arith in
    let p = err_from_is_err_and c.from_residual-in_err-take_unit.result c.from_residual-in_err-take_unit.ensures.1 in
    rw (p.1, p.2) (over-end test c.args.records.now c.loop-item.item-index c.item-item.result
    (unit_records_refusal c.args.records.now) c.in_err-take_unit.field-0.0 NoMemory lt (sym c.item-item.is)
    (rw c.loop-item.invariant.units at c.in_err-take_unit.ensures.refusal) c.loop-item.invariant.so_far)

pub loop-item-preserved : goal.loop-item-preserved
loop-item-preserved c =
    let lt : c.loop-item.item-index < length c.args.records.now = omega arith in
    record {
      units = rw (c.in_ok-take_unit.ensures.taken, c.loop-item.invariant.units)
          (sym (kept-more unit_in c.args.records.now c.loop-item.item-index c.item-item.result lt (sym c.item-item.is)));
      so_far = over-more test c.args.records.now c.loop-item.item-index c.item-item.result
          (unit_records_refusal c.args.records.now) lt (sym c.item-item.is)
          (rw c.loop-item.invariant.units at c.in_ok-take_unit.ensures.refusal) c.loop-item.invariant.so_far;
    }
