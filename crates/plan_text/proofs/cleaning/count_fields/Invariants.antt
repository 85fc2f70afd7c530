use Rattle.std.proofs.Common.{◌≡◌, ◌≤◌, length, map, take}
use Rattle.csv.specs.Records.{fields_of}
use Rattle.plan_text.specs.Rows.{clean_row, drop_last_while, is_empty_field, without_blanks}
use Rattle.plan_text.proofs.cleaning.count_fields.Given as goal

abbrev pub invariant-loop-count : goal.invariant-loop-count
invariant-loop-count l = record {
  few : l.count ≤ length (fields_of l.source);
  same : clean_row (fields_of l.source) ≡ drop_last_while is_empty_field (take l.count (map without_blanks (fields_of l.source)));
}

abbrev pub decreases-loop-count : goal.decreases-loop-count
decreases-loop-count l = l.count
