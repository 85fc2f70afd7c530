-- Which unit is sent to which call of a recorded day. Each rule looks only at records and sends that stand earlier.
use Rattle.std.specs.Prelude.{◌≡◌, ℕ, ◌==◌, Bool, not, ◌&&◌, if◌then◌else◌, nat_lt, List, [], map, find, count_by, Option, option_map}
use Rattle.std.specs.List.{flat_map, list_any}
use Rattle.std.specs.Option.{option_to_list}
use Rattle.hyper_model.specs.Groups.{list_of}
use Rattle.hyper_model.specs.declared.kinds.Line.{Line}
use Rattle.hyper_model.specs.declared.kinds.Line.TheVariants as line
use Rattle.hyper_model.specs.declared.parts.PlanParts.{PlanParts}
use Rattle.day_replay.specs.declared.day_list.DayRecord.{DayRecord}
use Rattle.day_replay.specs.declared.played_list.Send.{Send}
use Rattle.day_replay.specs.declared.replaying.ReplayEnd.{ReplayEnd}
use Rattle.day_replay.specs.declared.replaying.ReplayEnd.TheVariants as end

-- how many sends to unit n stand at records before the one with this number
abbrev pub sends_before : List Send → ℕ → ℕ → ℕ
sends_before sends at n = count_by (λ s. nat_lt s.at at && (s.unit == n)) sends

-- how many records before it say that unit n is free again
abbrev pub frees_before : List DayRecord → ℕ → ℕ → ℕ
frees_before day at n = count_by (λ r. nat_lt r.at at && (r.free && (r.who == n))) day

-- unit n is busy before the record
abbrev pub is_busy_before : List DayRecord → List Send → ℕ → ℕ → Bool
is_busy_before day sends at n = nat_lt (frees_before day at n) (sends_before sends at n)

-- of an atom's list, the first unit that is free before the record
abbrev pub first_free_before : PlanParts → List DayRecord → List Send → ℕ → ℕ → Option ℕ
first_free_before p day sends at j = find (λ n. not (is_busy_before day sends at n)) (list_of p.lists j)

-- a unit was sent to the call before the record
abbrev pub is_answered_before : List Send → ℕ → DayRecord → Bool
is_answered_before sends at call = list_any (λ s. nat_lt s.at at && (s.call == call.at)) sends

-- a call that waits before the record: it is earlier, and has no earlier send
abbrev pub waits_before : List Send → ℕ → DayRecord → Bool
waits_before sends at r = not r.free && (nat_lt r.at at && not (is_answered_before sends at r))

abbrev pub send : ℕ → ℕ → ℕ → Send
send at call unit = record { at = at; call = call; unit = unit }

-- at a call: of its atom's list the first unit that is free is sent, if any is free
abbrev pub sends_at_call : PlanParts → List DayRecord → List Send → DayRecord → List Send
sends_at_call p day sends r = map (send r.at r.at) (option_to_list (first_free_before p day sends r.at r.who))

-- where a busy unit is free again: if calls wait, it is sent to the earliest that does
abbrev pub sends_at_free : Line → List DayRecord → List Send → DayRecord → List Send
sends_at_free line.Zero day sends r = []
sends_at_free line.Infinite day sends r =
    map (λ (call : DayRecord). send r.at call.at r.who) (option_to_list (find (waits_before sends r.at) day))

-- the sends that stand at a record
abbrev pub sends_at : PlanParts → List DayRecord → List Send → DayRecord → List Send
sends_at p day sends r =
    if r.free then (if is_busy_before day sends r.at r.who then sends_at_free p.line day sends r else [])
    else sends_at_call p day sends r

-- The list has, record by record, exactly the sends of these rules. There is one such list for each day.
abbrev pub StandsForDay : PlanParts → List DayRecord → List Send → Type 0
StandsForDay p day sends = sends ≡ flat_map (sends_at p day sends) day

pub record HasSends (p : PlanParts) (day : List DayRecord) : Type 0 where
  pub sends : List Send
  pub stand : StandsForDay p day sends

-- a unit is said to be free again that is free before the record
abbrev pub frees_free_unit : List DayRecord → List Send → DayRecord → Bool
frees_free_unit day sends r = r.free && not (is_busy_before day sends r.at r.who)

-- the number of the first such record, if there is one
abbrev pub first_not_busy : List DayRecord → List Send → Option ℕ
first_not_busy day sends = option_map (λ (r : DayRecord). r.at) (find (frees_free_unit day sends) day)

abbrev pub not_busy_end : List DayRecord → List Send → Option ReplayEnd
not_busy_end day sends = option_map end.NotBusy (first_not_busy day sends)
