use Rattle.std.proofs.Common.{◌<◌, List, length, sym, arith}
use Rattle.std.specs.Prelude.{Option}
use Rattle.std.proofs.lemmas.Result.{err_from_is_err_and}
use Rattle.hyper_model.specs.declared.parts.Unit as declared_unit
use Rattle.plan_text.specs.declared.record.Record.{Record}
use Rattle.plan_text.proofs.Over.{kept-more, over-end, over-more}
use Rattle.atom_table.specs.Entries.{atom_in, atoms_in}
use Rattle.atom_table.specs.Refusals.{atom_records_refusal, atom_refusal}
use Rattle.atom_table.specs.declared.refusal.AtomRefusal.{AtomRefusal}
use Rattle.atom_table.specs.declared.refusal.AtomRefusal.TheVariants.{NoMemory}
use Rattle.atom_table.proofs.atom_step.read_atoms.Goals as goal

abbrev test : List declared_unit.Unit → List Record → Record → Option AtomRefusal
test units before = atom_refusal (atoms_in units before)

pub returns-in_err-take_atom-clause-refusal : goal.returns-in_err-take_atom-clause-refusal
returns-in_err-take_atom-clause-refusal c =
    let lt : c.loop-item.item-index < length c.args.records.now = omega arith in
    let p = err_from_is_err_and c.from_residual-in_err-take_atom.result c.from_residual-in_err-take_atom.ensures.1 in
    rw (p.1, p.2) (over-end (test c.args.units.now) c.args.records.now c.loop-item.item-index c.item-item.result
    (atom_records_refusal c.args.units.now c.args.records.now) c.in_err-take_atom.field-0.0 NoMemory lt (sym c.item-item.is)
    (rw c.loop-item.invariant.atoms at c.in_err-take_atom.ensures.refusal) c.loop-item.invariant.so_far)

pub loop-item-preserved : goal.loop-item-preserved
loop-item-preserved c =
    let lt : c.loop-item.item-index < length c.args.records.now = omega arith in
    record {
      atoms = rw (c.in_ok-take_atom.ensures.taken, c.loop-item.invariant.atoms)
          (sym (kept-more (atom_in c.args.units.now) c.args.records.now c.loop-item.item-index c.item-item.result lt (sym c.item-item.is)));
      so_far = over-more (test c.args.units.now) c.args.records.now c.loop-item.item-index c.item-item.result
          (atom_records_refusal c.args.units.now c.args.records.now) lt (sym c.item-item.is)
          (rw c.loop-item.invariant.atoms at c.in_ok-take_atom.ensures.refusal) c.loop-item.invariant.so_far;
    }
