use Rattle.std.proofs.Common.{◌∙◌, ◌<◌, ◌-◌, [], ◌∷◌, length, sym, arith}
use Rattle.std.proofs.lemmas.List.{length-append}
use Rattle.std.proofs.lemmas.Result.{err_from_is_err_and}
use Rattle.plan_text.specs.Fields.{name_at}
use Rattle.plan_text.specs.Reading.{names_at}
use Rattle.plan_text.specs.declared.refusal.TextRefusal.TheVariants.{NoMemory}
use Rattle.plan_text.proofs.Front.{gives-err, names_at-done, names_at-more, names_at-refused}
use Rattle.plan_text.proofs.reading.names_of.Goals as goal

pub returns-in_err-name : goal.returns-in_err-name
returns-in_err-name c =
    let lt : c.loop-place.place < length c.args.row.now = omega (arith, c.loop-place-test.true, c.len-place-end.ensures) in
    let p = err_from_is_err_and c.from_residual.result c.from_residual.ensures.1 in
    rw (p.1, p.2) (gives-err NoMemory c.in_err-name.field-0.0
    (name_at c.args.at c.args.row.now c.loop-place.place) (names_at (length c.args.row.now - 2) c.args.at c.args.row.now 2)
    (λ h. sym c.loop-place.invariant.read ∙ names_at-refused c.args.at c.args.row.now c.loop-place.place c.loop-place.names c.in_err-name.field-0.0 lt h)
    c.in_err-name.ensures)

pub loop-place-preserved : goal.loop-place-preserved
loop-place-preserved c =
    let lt : c.loop-place.place < length c.args.row.now = omega (arith, c.loop-place-test.true, c.len-place-end.ensures) in
    let more = names_at-more c.args.at c.args.row.now c.loop-place.place c.loop-place.names c.in_ok-name.name lt c.in_ok-name.ensures in
    record {
      size = rw c.push.ensures (omega (arith, length-append c.loop-place.names (c.in_ok-name.name ∷ []), c.loop-place.invariant.size));
      read = rw c.push.ensures (sym more ∙ c.loop-place.invariant.read);
    }

pub returns : goal.returns
returns c =
    sym c.loop-place.invariant.read
    ∙ names_at-done c.args.at c.args.row.now c.loop-place.place c.loop-place.names (omega (arith, c.loop-place-test.false, c.len-place-end.ensures))
