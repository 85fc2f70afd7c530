use Rattle.std.proofs.Common.{◌≡◌, ◌∙◌, ◌⊎◌, ◌+◌, List, [], ◌++◌, drop, take, slice_index_or, sym, ap, subst, arith}
use Rattle.std.specs.Prelude.{Option, Some}
use Rattle.std.specs.List.{filter_map, range_with_len}
use Rattle.std.specs.Option.{option_to_list}
use Rattle.std.proofs.lemmas.List.{get_or_default}
use Rattle.std.proofs.lemmas.Result.{err_from_is_err_and}
use Rattle.plan_text.specs.Rows.{rows_of}
use Rattle.plan_text.specs.Steps.{first_over}
use Rattle.plan_text.proofs.Over.{over-end, over-more}
use Rattle.plan_text.proofs.RowsLeft.{gives-more, gives-none}
use Rattle.day_replay.specs.DayRows.{record_in, row_refusal}
use Rattle.day_replay.specs.declared.day_list.DayRecord.{DayRecord}
use Rattle.day_replay.specs.declared.day_refusal.DayRefusal.{DayRefusal}
use Rattle.day_replay.specs.declared.day_refusal.DayRefusal.TheVariants.{NoMemory}
use Rattle.day_replay.proofs.DayForm.{all_read, day_formed, records_more, row_at, row_follows, rows_done}
use Rattle.day_replay.proofs.day_rows.read_rows.Goals as goal

pub returns-then-not-more-clause-refusal : goal.returns-then-not-more-clause-refusal
returns-then-not-more-clause-refusal c =
    let inv = c.rows.invariant in
    let rows = rows_of c.args.bytes.now in
    let taken = rw c.if-not-more.true at (c.in-Ok.ensures.reads inv.left.trim inv.left.ready) in
    let none = gives-none c.rows.reader c.read_byte_record.new.self _ (drop c.rows.number rows) inv.left taken in
    rows_done c.args.names.now rows c.rows.number (first_over (row_refusal c.args.names.now) [] rows) none inv.so_far

pub returns-then-not-more-clause-records : goal.returns-then-not-more-clause-records
returns-then-not-more-clause-records c =
    let inv = c.rows.invariant in
    let rows = rows_of c.args.bytes.now in
    let taken = rw c.if-not-more.true at (c.in-Ok.ensures.reads inv.left.trim inv.left.ready) in
    let none = gives-none c.rows.reader c.read_byte_record.new.self _ (drop c.rows.number rows) inv.left taken in
    inv.records
    ∙ ap (λ n. filter_map (record_in c.args.names.now rows) (range_with_len 0 n)) (all_read rows c.rows.number none inv.within)

pub returns-then-not-more-clause-form : goal.returns-then-not-more-clause-form
returns-then-not-more-clause-form c = λ p is.
    day_formed p c.args.names.now c.rows.day c.rows.number c.rows.latest is c.rows.invariant.few c.rows.invariant.formed

pub returns-in_err-read-clause-refusal : goal.returns-in_err-read-clause-refusal
returns-in_err-read-clause-refusal c =
    let inv = c.rows.invariant in
    let rows = rows_of c.args.bytes.now in
    let names = c.args.names.now in
    let taken = rw c.if-not-more.false at (c.in-Ok.ensures.reads inv.left.trim inv.left.ready) in
    let given = gives-more c.rows.reader c.read_byte_record.new.self _ rows c.rows.number inv.left taken (c.in-Ok.ensures.ready inv.left.trim) in
    let row = slice_index_or rows c.rows.number [] in
    let at = row_at names rows c.rows.number c.rows.latest c.of-row.result given.0 inv.latest (c.of-row.ensures ∙ given.1) in
    let e = c.in_err-read.field-0.0 in
    let refused : (e ≡ NoMemory) ⊎ (row_refusal names (take c.rows.number rows) row ≡ Some e) =
    subst (λ (o : Option DayRefusal). (e ≡ NoMemory) ⊎ (o ≡ Some e)) (sym at) c.in_err-read.ensures.refusal in
    let p = err_from_is_err_and c.from_residual.result c.from_residual.ensures.1 in
    rw (p.1, p.2) (over-end (row_refusal names) rows c.rows.number row (first_over (row_refusal names) [] rows) e NoMemory given.0
    (get_or_default rows c.rows.number row [] given.0) refused inv.so_far)

pub rows-preserved : goal.rows-preserved
rows-preserved c =
    let inv = c.rows.invariant in
    let rows = rows_of c.args.bytes.now in
    let names = c.args.names.now in
    let n = c.rows.number in
    let taken = rw c.if-not-more.false at (c.in-Ok.ensures.reads inv.left.trim inv.left.ready) in
    let given = gives-more c.rows.reader c.read_byte_record.new.self _ rows n inv.left taken (c.in-Ok.ensures.ready inv.left.trim) in
    let is = c.of-row.ensures ∙ given.1 in
    let row = slice_index_or rows n [] in
    let at = row_at names rows n c.rows.latest c.of-row.result given.0 inv.latest is in
    let read = c.in_ok-read.read in
    let follows = row_follows names rows n c.rows.latest c.of-row.result c.rows.day read given.0 c.in_ok-read.ensures.few inv.latest is
    c.in_ok-read.ensures.refusal c.in_ok-read.ensures.said inv.formed in
    record {
      few = c.in_ok-read.ensures.few;
      within = omega (arith, given.0);
      left = given.2;
      latest = c.second_after-latest.ensures ∙ follows.latest;
      so_far = over-more (row_refusal names) rows n row (first_over (row_refusal names) [] rows) given.0
          (get_or_default rows n row [] given.0) (at ∙ c.in_ok-read.ensures.refusal) inv.so_far;
      records =
          c.in_ok-keep.ensures ∙ ap (λ (day : List DayRecord). day ++ option_to_list read) inv.records
          ∙ ap (λ (o : Option DayRecord). filter_map (record_in names rows) (range_with_len 0 n) ++ option_to_list o) c.in_ok-read.ensures.said
          ∙ sym (records_more names rows n c.of-row.result is);
      formed = rw (c.in_ok-keep.ensures, c.second_after-latest.ensures) follows.formed;
    }
