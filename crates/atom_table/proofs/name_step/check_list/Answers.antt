use Rattle.std.proofs.Common.{◌∙◌, sym}
use Rattle.std.proofs.lemmas.Result.{err_from_is_err_and}
use Rattle.atom_table.proofs.NameLists.{unknown_from-more, unknown_from-refused}
use Rattle.atom_table.proofs.name_step.check_list.Goals as goal

pub returns-in_err-check_name : goal.returns-in_err-check_name
returns-in_err-check_name c =
    let p = err_from_is_err_and c.from_residual.result c.from_residual.ensures.1 in
    rw (p.1, p.2) (sym c.loop-place.invariant
    ∙ unknown_from-refused c.args.units.now c.args.at c.loop-place.place c.args.list.now c.get.result.now c.in_err-check_name.field-0.0
    c.get.ensures c.in_err-check_name.ensures)

pub loop-place-preserved : goal.loop-place-preserved
loop-place-preserved c =
    sym (unknown_from-more c.args.units.now c.args.at c.loop-place.place c.args.list.now c.get.result.now c.get.ensures
    c.in_ok-check_name.ensures) ∙ c.loop-place.invariant
