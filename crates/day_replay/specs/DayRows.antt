-- What the rows of a text say as a day of a plan, and why they give no day.
use Rattle.std.specs.Prelude.{ℕ, ◌+◌, ◌==◌, Bool, ◌&&◌, ◌||◌, if◌then◌else◌, nat_lt, max, List, [], ◌∷◌, length, map, slice_index_or, Option, Some, None, Result, Ok, Err, codes, is_ok, is_some, option_and_then, unwrap_or}
use Rattle.std.specs.List.{filter_map, range_with_len}
use Rattle.std.specs.Option.{option_or}
use Rattle.std.specs.Result.{result_ok}
use Rattle.std.specs.Str.{bytes_eq}
use Rattle.hyper_model.specs.declared.parts.PlanParts.{PlanParts}
use Rattle.atom_table.specs.Entries.{atom_names, unit_names}
use Rattle.atom_table.specs.Names.{place_of}
use Rattle.plan_text.specs.Fields.{field, name_in, number_at}
use Rattle.plan_text.specs.Kinds.{is_passed_over}
use Rattle.plan_text.specs.Rows.{Fields, rows_of}
use Rattle.plan_text.specs.Steps.{◌>>=◌, first_over, unless_refused}
use Rattle.plan_text.specs.declared.TheConstants.{MOST_RECORDS, MOST_TEXT_BYTES}
use Rattle.plan_text.specs.declared.refusal.TextRefusal.{TextRefusal}
use Rattle.day_replay.specs.declared.TheConstants.{MOST_SECOND}
use Rattle.day_replay.specs.declared.day_list.DayRecord.{DayRecord}
use Rattle.day_replay.specs.declared.day_refusal.DayRefusal.{DayRefusal}
use Rattle.day_replay.specs.declared.day_refusal.DayRefusal.TheVariants as refusal

-- the names of a plan's units and of its atoms
pub record FleetNames : Type 0 where
  pub units : List (List ℕ)
  pub atoms : List (List ℕ)

abbrev pub names_of : PlanParts → FleetNames
names_of p = record { units = unit_names p.units; atoms = atom_names p.atoms }

-- a row of a call, and of a unit that is free again
abbrev pub is_call_row : Fields → Bool
is_call_row row = bytes_eq (field row 0) (codes "call")

abbrev pub is_free_row : Fields → Bool
is_free_row row = bytes_eq (field row 0) (codes "free")

-- the second that the row says: one to nine digits
abbrev pub second_in : Fields → Result ℕ TextRefusal
second_in row = number_at 0 MOST_SECOND 0 row 1

abbrev pub second_of : Fields → ℕ
second_of row = unwrap_or (result_ok (second_in row)) 0

-- the unit or the atom, by its place, that has the name in the last field
abbrev pub place_named : FleetNames → Bool → List ℕ → Option ℕ
place_named names free name = option_and_then (place_of (if free then names.units else names.atoms)) (name_in name)

abbrev pub who_in : FleetNames → Fields → Option ℕ
who_in names row = place_named names (is_free_row row) (field row 2)

-- the kind, the number of fields and the second
abbrev pub has_form : Fields → Bool
has_form row = (is_call_row row || is_free_row row) && (length row == 3) && is_ok (second_in row)

abbrev pub form_refusal : ℕ → Fields → Option DayRefusal
form_refusal number row = if has_form row then None else Some (refusal.DayRecord number)

abbrev pub name_refusal : FleetNames → ℕ → Fields → Option DayRefusal
name_refusal names number row = if is_some (who_in names row) then None else Some (refusal.DayName number)

-- the latest second of the records before
abbrev pub order_refusal : ℕ → ℕ → Fields → Option DayRefusal
order_refusal latest number row = if nat_lt (second_of row) latest then Some (refusal.DayOrder number) else None

-- of a row with this number, after records of which the latest is at this second
abbrev pub numbered_refusal : FleetNames → ℕ → ℕ → Fields → Option DayRefusal
numbered_refusal names latest number row =
    if nat_lt MOST_RECORDS number then Some (refusal.DayTooMany number)
    else if is_passed_over row then None
    else option_or (option_or (form_refusal number row) (name_refusal names number row)) (order_refusal latest number row)

-- the latest second of the records among rows, and 0 if there is none
abbrev pub latest_in : List Fields → ℕ
latest_in [] = 0
latest_in (row ∷ rows) = if is_passed_over row then latest_in rows else max (second_of row) (latest_in rows)

-- the refusal of a row after others
abbrev pub row_refusal : FleetNames → List Fields → Fields → Option DayRefusal
row_refusal names before row = numbered_refusal names (latest_in before) (length before + 1) row

-- the record, if there is one, that a row with this number says
abbrev pub said_record : FleetNames → ℕ → Fields → DayRecord
said_record names number row = record {
  at = number;
  second = second_of row;
  free = is_free_row row;
  who = unwrap_or (who_in names row) 0;
}

abbrev pub record_of : FleetNames → ℕ → Fields → Option DayRecord
record_of names number row = if is_passed_over row then None else Some (said_record names number row)

abbrev pub record_in : FleetNames → List Fields → ℕ → Option DayRecord
record_in names rows place = record_of names (place + 1) (slice_index_or rows place [])

-- those of all rows, in order
abbrev pub records_in : FleetNames → List Fields → List DayRecord
records_in names rows = filter_map (record_in names rows) (range_with_len 0 (length rows))

-- the day of a text, or its refusal: that of the first row that is refused
unfoldable pub day_of : PlanParts → List ℕ → Result (List DayRecord) DayRefusal
day_of p bytes =
    if nat_lt MOST_TEXT_BYTES (length bytes) then Err (refusal.DayTooLong (length bytes))
    else (unless_refused (first_over (row_refusal (names_of p)) [] (rows_of bytes)) >>= λ _.
    Ok (records_in (names_of p) (rows_of bytes)))
