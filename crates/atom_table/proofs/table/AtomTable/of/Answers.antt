use Rattle.std.proofs.Common.{inr, sym, subst}
use Rattle.std.proofs.lemmas.Result.{err_from_is_err_and}
use Rattle.atom_table.specs.Entries.{HasEntries, entries_in}
use Rattle.atom_table.proofs.AcceptedEntries.{has_entries}
use Rattle.atom_table.proofs.StepByStep.{are_entries, are_read, entries_of-atom, entries_of-checks, entries_of-read, entries_of-unit, entries_refusal-none, passes_from, unless_wanting}
use Rattle.atom_table.proofs.table.AtomTable.of.Goals as goal

pub returns-in_err-units : goal.returns-in_err-units
returns-in_err-units c =
    let p = err_from_is_err_and c.from_residual.result c.from_residual.ensures.1 in
    rw (p.1, p.2) (unless_wanting (entries_of-unit c.args.records.now c.in_err-units.field-0.0) c.in_err-units.ensures.refusal)

pub returns-in_err-atoms : goal.returns-in_err-atoms
returns-in_err-atoms c =
    let p = err_from_is_err_and c.from_residual-in_err-atoms.result c.from_residual-in_err-atoms.ensures.1 in
    rw (p.1, p.2) (unless_wanting
    (entries_of-atom c.args.records.now c.in_ok-units.units c.in_err-atoms.field-0.0 c.in_ok-units.ensures.units c.in_ok-units.ensures.refusal)
    c.in_err-atoms.ensures.refusal)

pub returns-in_err-check_entries : goal.returns-in_err-check_entries
returns-in_err-check_entries c =
    let p = err_from_is_err_and c.from_residual-in_err-check_entries.result c.from_residual-in_err-check_entries.ensures.1 in
    let read = are_read c.args.records.now c.in_ok-units.units c.in_ok-atoms.atoms c.in_ok-units.ensures.units
    c.in_ok-atoms.ensures.atoms c.in_ok-units.ensures.refusal c.in_ok-atoms.ensures.refusal in
    rw (p.1, p.2) (inr (entries_of-checks c.args.records.now c.in_ok-units.units c.in_ok-atoms.atoms read
    c.in_err-check_entries.field-0.0 c.in_err-check_entries.ensures))

pub invariant_of-result : goal.invariant_of-result
invariant_of-result c =
    let read = are_read c.args.records.now c.in_ok-units.units c.in_ok-atoms.atoms c.in_ok-units.ensures.units
    c.in_ok-atoms.ensures.atoms c.in_ok-units.ensures.refusal c.in_ok-atoms.ensures.refusal in
    let none = entries_refusal-none c.args.records.now c.in_ok-units.units c.in_ok-atoms.atoms read c.in_ok-check_entries.ensures in
    subst HasEntries (sym (are_entries c.args.records.now c.in_ok-units.units c.in_ok-atoms.atoms read))
    (has_entries c.args.records.now (passes_from c.args.records.now (entries_in c.args.records.now) none))

pub returns : goal.returns
returns c =
    let read = are_read c.args.records.now c.in_ok-units.units c.in_ok-atoms.atoms c.in_ok-units.ensures.units
    c.in_ok-atoms.ensures.atoms c.in_ok-units.ensures.refusal c.in_ok-atoms.ensures.refusal in
    entries_of-read c.args.records.now c.in_ok-units.units c.in_ok-atoms.atoms read c.in_ok-check_entries.ensures
