use Rattle.std.proofs.Common.{◌≡◌, ◌≤◌, ◌-◌, [], take, drop}
use Rattle.std.specs.List.{list_any}
use Rattle.plan_text.specs.Kinds.{says_version, added_version}
use Rattle.plan_text.specs.Reading.{records_after}
use Rattle.plan_text.specs.Rows.{rows_of}
use Rattle.plan_text.specs.declared.TheConstants.{MOST_RECORDS}
use Rattle.plan_text.proofs.Front.{with_front}
use Rattle.plan_text.proofs.RowsLeft.{GivesRows}
use Rattle.plan_text.proofs.record_list.read_rows.Given as goal

abbrev pub invariant-rows : goal.invariant-rows
invariant-rows l = record {
  few : l.number ≤ MOST_RECORDS;
  left : GivesRows l.reader (drop l.number (rows_of l.bytes));
  added : l.is_added ≡ list_any (says_version (added_version l.added)) (take l.number (rows_of l.bytes));
  read : with_front l.found.items (records_after l.added (take l.number (rows_of l.bytes)) (drop l.number (rows_of l.bytes)))
      ≡ records_after l.added [] (rows_of l.bytes);
}

abbrev pub decreases-rows : goal.decreases-rows
decreases-rows l = MOST_RECORDS - l.number
