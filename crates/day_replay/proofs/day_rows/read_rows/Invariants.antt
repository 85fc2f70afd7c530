use Rattle.std.proofs.Common.{◌≡◌, ◌≤◌, ◌-◌, [], length, take, drop}
use Rattle.std.specs.List.{filter_map, range_with_len}
use Rattle.plan_text.specs.Rows.{rows_of}
use Rattle.plan_text.specs.Steps.{first_over}
use Rattle.plan_text.specs.declared.TheConstants.{MOST_RECORDS}
use Rattle.plan_text.proofs.RowsLeft.{GivesRows}
use Rattle.day_replay.specs.DayRows.{latest_in, record_in, row_refusal}
use Rattle.day_replay.proofs.DayForm.{IsFormed}
use Rattle.day_replay.proofs.day_rows.read_rows.Given as goal

abbrev pub invariant-rows : goal.invariant-rows
invariant-rows l = record {
  few : l.number ≤ MOST_RECORDS;
  within : l.number ≤ length (rows_of l.bytes);
  left : GivesRows l.reader (drop l.number (rows_of l.bytes));
  latest : l.latest ≡ latest_in (take l.number (rows_of l.bytes));
  so_far : first_over (row_refusal l.names) (take l.number (rows_of l.bytes)) (drop l.number (rows_of l.bytes))
      ≡ first_over (row_refusal l.names) [] (rows_of l.bytes);
  records : l.day ≡ filter_map (record_in l.names (rows_of l.bytes)) (range_with_len 0 l.number);
  formed : IsFormed l.names l.day l.number l.latest;
}

abbrev pub decreases-rows : goal.decreases-rows
decreases-rows l = MOST_RECORDS - l.number
