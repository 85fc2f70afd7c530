use Rattle.std.proofs.Common.{◌≡◌, ◌∙◌, ◌+◌, [], drop, slice_index_or, sym, ap}
use Rattle.std.proofs.lemmas.Result.{err_from_is_err_and}
use Rattle.plan_text.specs.Kinds.{says_version, added_version}
use Rattle.plan_text.specs.Reading.{reading_of, records_after}
use Rattle.plan_text.specs.Rows.{rows_of}
use Rattle.plan_text.specs.declared.refusal.TextRefusal.TheVariants.{NoMemory}
use Rattle.plan_text.proofs.Front.{gives-err}
use Rattle.plan_text.proofs.InForm.{records_after-form}
use Rattle.plan_text.proofs.RowByRow.{any-more, reading-at, records_after-done, records_after-more, records_after-refused}
use Rattle.plan_text.proofs.RowsLeft.{gives-more, gives-none}
use Rattle.plan_text.proofs.record_list.read_rows.Goals as goal

pub returns-then-not-more-clause-records : goal.returns-then-not-more-clause-records
returns-then-not-more-clause-records c =
    let inv = c.rows.invariant in
    let taken = rw c.if-not-more.true at (c.in-Ok.ensures.reads inv.left.trim inv.left.ready) in
    let none = gives-none c.rows.reader c.read_byte_record.new.self _ (drop c.rows.number (rows_of c.args.bytes.now)) inv.left taken in
    sym inv.read ∙ records_after-done c.args.added (rows_of c.args.bytes.now) c.rows.number c.rows.found.items none

pub returns-then-not-more-clause-form : goal.returns-then-not-more-clause-form
returns-then-not-more-clause-form c =
    let inv = c.rows.invariant in
    let taken = rw c.if-not-more.true at (c.in-Ok.ensures.reads inv.left.trim inv.left.ready) in
    let none = gives-none c.rows.reader c.read_byte_record.new.self _ (drop c.rows.number (rows_of c.args.bytes.now)) inv.left taken in
    records_after-form c.args.added (rows_of c.args.bytes.now) c.rows.found.items
    (sym inv.read ∙ records_after-done c.args.added (rows_of c.args.bytes.now) c.rows.number c.rows.found.items none)

pub returns-in_err-read-clause-records : goal.returns-in_err-read-clause-records
returns-in_err-read-clause-records c =
    let inv = c.rows.invariant in
    let rows = rows_of c.args.bytes.now in
    let taken = rw c.if-not-more.false at (c.in-Ok.ensures.reads inv.left.trim inv.left.ready) in
    let given = gives-more c.rows.reader c.read_byte_record.new.self _ rows c.rows.number inv.left taken (c.in-Ok.ensures.ready inv.left.trim) in
    let at = reading-at c.args.added rows c.rows.number c.rows.is_added c.then_some.result c.of-row.result given.0 inv.added c.then_some.ensures (c.of-row.ensures ∙ given.1) in
    let p = err_from_is_err_and c.from_residual.result c.from_residual.ensures.1 in
    rw (p.1, p.2) (gives-err NoMemory c.in_err-read.field-0.0
    (reading_of (c.rows.number + 1) c.then_some.result c.of-row.result) (records_after c.args.added [] rows)
    (λ h. sym inv.read ∙ records_after-refused c.args.added rows c.rows.number c.rows.found.items c.in_err-read.field-0.0 given.0 (at ∙ h))
    c.in_err-read.ensures.reading)

pub rows-preserved : goal.rows-preserved
rows-preserved c =
    let inv = c.rows.invariant in
    let rows = rows_of c.args.bytes.now in
    let taken = rw c.if-not-more.false at (c.in-Ok.ensures.reads inv.left.trim inv.left.ready) in
    let given = gives-more c.rows.reader c.read_byte_record.new.self _ rows c.rows.number inv.left taken (c.in-Ok.ensures.ready inv.left.trim) in
    let is = c.of-row.ensures ∙ given.1 in
    let at = reading-at c.args.added rows c.rows.number c.rows.is_added c.then_some.result c.of-row.result given.0 inv.added c.then_some.ensures is in
    let said : c.is_version-is_added.result ≡ says_version (added_version c.args.added) (slice_index_or rows c.rows.number []) =
    rw c.version.ensures at c.is_version-is_added.ensures ∙ ap (says_version (added_version c.args.added)) is in
    record {
      few = c.in_ok-read.ensures.few;
      left = given.2;
      added = rw (said, inv.added) (sym (any-more (says_version (added_version c.args.added)) rows c.rows.number given.0));
      read = rw c.in_ok-keep.ensures.kept
          (sym (records_after-more c.args.added rows c.rows.number c.rows.found.items c.in_ok-read.read given.0 (at ∙ c.in_ok-read.ensures.reading)) ∙ inv.read);
    }
