-- What is counted of a day and its sends.
use Rattle.std.specs.Prelude.{ℕ, ◌-◌, ◌==◌, Bool, not, ◌&&◌, if◌then◌else◌, List, length, count_by}
use Rattle.std.specs.List.{list_any}
use Rattle.hyper_model.specs.Sums.{sum_below}
use Rattle.day_replay.specs.Days.{record_at}
use Rattle.day_replay.specs.Sends.{is_busy_before}
use Rattle.day_replay.specs.declared.day_list.DayRecord.{DayRecord}
use Rattle.day_replay.specs.declared.played_list.Send.{Send}

abbrev pub call_count : List DayRecord → ℕ
call_count day = count_by (λ r. not r.free) day

-- the calls without a send
abbrev pub is_unanswered : List Send → DayRecord → Bool
is_unanswered sends r = not r.free && not (list_any (λ s. s.call == r.at) sends)

abbrev pub unanswered_count : List DayRecord → List Send → ℕ
unanswered_count day sends = count_by (is_unanswered sends) day

-- the record with this number is a call of atom j
abbrev pub is_call_of : List DayRecord → ℕ → ℕ → Bool
is_call_of day number j = list_any (λ r. (r.at == number) && (not r.free && (r.who == j))) day

-- the sends of unit n to calls of atom j
abbrev pub dispatch_count : List DayRecord → List Send → ℕ → ℕ → ℕ
dispatch_count day sends n j = count_by (λ s. (s.unit == n) && is_call_of day s.call j) sends

-- the seconds from the record before to the one at a place: none to the first
abbrev pub seconds_before : List DayRecord → ℕ → ℕ
seconds_before day place = (record_at day place).second - (record_at day (place - 1)).second

-- the seconds between each record and the next in which unit n is busy
abbrev pub busy_seconds : List DayRecord → List Send → ℕ → ℕ
busy_seconds day sends n =
    sum_below (length day) (λ place.
    if is_busy_before day sends (record_at day place).at n then seconds_before day place else 0)
