-- What a row says as a record, and what a text says as a list of records.
use Rattle.std.specs.Prelude.{ℕ, zero, suc, ◌+◌, ◌-◌, if◌then◌else◌, nat_lt, List, [], ◌∷◌, ◌++◌, length, Option, Some, None, Result, Ok, Err}
use Rattle.std.specs.Bool.{then_some}
use Rattle.std.specs.List.{list_any}
use Rattle.std.specs.Option.{option_to_list}
use Rattle.plan_text.specs.Fields.{field, line_at, name_at, number_at, rule_at}
use Rattle.plan_text.specs.Kinds.{has_field_count, is_passed_over, added_version, kind_of, says_version}
use Rattle.plan_text.specs.Rows.{Fields, rows_of}
use Rattle.plan_text.specs.Steps.{◌>>=◌}
use Rattle.plan_text.specs.declared.TheConstants.{MOST_RECORDS, MOST_TEXT_BYTES}
use Rattle.plan_text.specs.declared.kind.AddedKind.{AddedKind}
use Rattle.plan_text.specs.declared.kind.AddedKind.TheVariants as added
use Rattle.plan_text.specs.declared.kind.Kind.{Kind}
use Rattle.plan_text.specs.declared.kind.Kind.TheVariants as kind
use Rattle.plan_text.specs.declared.record.Record.{Record}
use Rattle.plan_text.specs.declared.record.Record.TheVariants as rec
use Rattle.plan_text.specs.declared.refusal.TextRefusal.{TextRefusal}
use Rattle.plan_text.specs.declared.refusal.TextRefusal.TheVariants.{FieldCount, TooLong, TooManyRecords, UnknownKind}

unfoldable pub version_of : ℕ → Fields → Result Record TextRefusal
version_of at row = do
  number ← number_at 0 999999999 at row 1
  Ok (rec.Version at number)

unfoldable pub line_of : ℕ → Fields → Result Record TextRefusal
line_of at row = do
  line ← line_at at row 1
  Ok (rec.LineIs at line)

unfoldable pub rule_of : ℕ → Fields → Result Record TextRefusal
rule_of at row = do
  rule ← rule_at at row 1
  Ok (rec.RuleIs at rule)

unfoldable pub period_of : ℕ → Fields → Result Record TextRefusal
period_of at row = do
  seconds ← number_at 1 100000000 at row 1
  Ok (rec.Period at seconds)

unfoldable pub unit_of : ℕ → Fields → Result Record TextRefusal
unit_of at row = do
  name ← name_at at row 1
  rate ← number_at 1 1000000 at row 2
  Ok (rec.UnitIs at name rate)

unfoldable pub atom_of : ℕ → Fields → Result Record TextRefusal
atom_of at row = do
  name ← name_at at row 1
  rate ← number_at 0 1000000 at row 2
  x ← number_at 0 1000000 at row 3
  y ← number_at 0 1000000 at row 4
  unit ← name_at at row 5
  Ok (rec.AtomIs at name rate x y unit)

unfoldable pub travel_of : ℕ → Fields → Result Record TextRefusal
travel_of at row = do
  origin ← name_at at row 1
  target ← name_at at row 2
  seconds ← number_at 0 100000 at row 3
  Ok (rec.Travel at origin target seconds)

unfoldable pub located_of : ℕ → Fields → Result Record TextRefusal
located_of at row = do
  unit ← name_at at row 1
  atom ← name_at at row 2
  thousandths ← number_at 1 1000 at row 3
  Ok (rec.Located at unit atom thousandths)

-- the names that so many fields say, from a place on
unfoldable pub names_at : ℕ → ℕ → Fields → ℕ → Result (List (List ℕ)) TextRefusal
names_at zero at row place = Ok []
names_at (suc count) at row place = do
  name ← name_at at row place
  names ← names_at count at row (place + 1)
  Ok (name ∷ names)

unfoldable pub prefer_of : ℕ → Fields → Result Record TextRefusal
prefer_of at row = do
  atom ← name_at at row 1
  units ← names_at (length row - 2) at row 2
  Ok (rec.Prefer at atom units)

unfoldable pub group_of : ℕ → Fields → Result Record TextRefusal
group_of at row = do
  atom ← name_at at row 1
  units ← names_at (length row - 2) at row 2
  Ok (rec.Group at atom units)

unfoldable pub crews_of : ℕ → Fields → Result Record TextRefusal
crews_of at row = do
  unit ← name_at at row 1
  count ← number_at 1 200 at row 2
  Ok (rec.Crews at unit count)

abbrev pub record_of : Kind → ℕ → Fields → Result Record TextRefusal
record_of kind.Version = version_of
record_of kind.Line = line_of
record_of kind.Rule = rule_of
record_of kind.Period = period_of
record_of kind.Unit = unit_of
record_of kind.Atom = atom_of
record_of kind.Travel = travel_of
record_of kind.Located = located_of
record_of kind.Prefer = prefer_of
record_of kind.Group = group_of
record_of kind.Crews = crews_of

-- a row of this kind, if it is of one
abbrev pub record_of_kind : Option Kind → ℕ → Fields → Result Record TextRefusal
record_of_kind None at row = Err (UnknownKind at)
record_of_kind (Some k) at row = if has_field_count k (length row) then record_of k at row else Err (FieldCount at)

-- the record, if there is one, that a row with this number says
unfoldable pub reading_of : ℕ → Option AddedKind → Fields → Result (Option Record) TextRefusal
reading_of number more row =
    if nat_lt MOST_RECORDS number then Err (TooManyRecords number)
    else if is_passed_over row then Ok None
    else (record_of_kind (kind_of more (field row 0)) number row >>= λ found. Ok (Some found))

-- a kind that can be added is, after a row that says its version
abbrev pub added_after : AddedKind → List Fields → Option AddedKind
added_after more before = then_some (list_any (says_version (added_version more)) before) more

-- what a row says that stands after others, which number it
abbrev pub row_reading : AddedKind → List Fields → Fields → Result (Option Record) TextRefusal
row_reading more before row = reading_of (length before + 1) (added_after more before) row

-- the records that rows say, after others
unfoldable pub records_after : AddedKind → List Fields → List Fields → Result (List Record) TextRefusal
records_after more before [] = Ok []
records_after more before (row ∷ rows) = do
  read ← row_reading more before row
  others ← records_after more (before ++ row ∷ []) rows
  Ok (option_to_list read ++ others)

-- the records of a text to which this kind can be added
unfoldable pub records_with : AddedKind → List ℕ → Result (List Record) TextRefusal
records_with more bytes =
    if nat_lt MOST_TEXT_BYTES (length bytes) then Err (TooLong (length bytes)) else records_after more [] (rows_of bytes)

-- the records of a plan's text, and of a fleet's
abbrev pub records_of : List ℕ → Result (List Record) TextRefusal
records_of bytes = records_with added.Group bytes

abbrev pub fleet_records_of : List ℕ → Result (List Record) TextRefusal
fleet_records_of bytes = records_with added.Crews bytes
