-- The fleet during a day, as the replay keeps it: which units are busy, which calls wait, and which were answered.
use Rattle.std.specs.Prelude.{◌≡◌, ℕ, Bool, ◌<◌, ◌==◌, ◌&&◌, if◌then◌else◌, count_by, List, [], ◌∷◌, ◌++◌, length, map, slice_index, All, Option, Some, None, filter}
use Rattle.hyper_model.specs.Plans.{atoms, units}
use Rattle.hyper_model.specs.Words.{first_free, is_busy, is_free, turned_word}
use Rattle.hyper_model.specs.declared.kinds.Line.{Line}
use Rattle.hyper_model.specs.declared.kinds.Line.TheVariants as line
use Rattle.hyper_model.specs.declared.parts.PlanParts.{PlanParts}
use Rattle.hyper_model.specs.Sums.{sum_below}
use Rattle.day_replay.specs.Counts.{is_call_of, is_unanswered, seconds_before}
use Rattle.day_replay.specs.Days.{record_at}
use Rattle.day_replay.specs.Sends.{StandsForDay, is_busy_before, not_busy_end, send}
use Rattle.day_replay.specs.declared.day_list.DayRecord.{DayRecord}
use Rattle.day_replay.specs.declared.played_list.Send.{Send}
use Rattle.day_replay.specs.declared.played_list.AnsweredCall.{AnsweredCall}

pub record Fleet : Type 0 where
  -- the word of the busy units
  pub word : ℕ
  -- the calls that no unit was sent to, the earliest first
  pub waiting : List DayRecord
  pub answers : List AnsweredCall

-- a unit is sent to a call at the record with this number
abbrev pub answer : ℕ → ℕ → DayRecord → AnsweredCall
answer at unit call = record { send = send at call.at unit; atom = call.who }

abbrev pub sends_of : List AnsweredCall → List Send
sends_of answers = map (λ (a : AnsweredCall). a.send) answers

-- after a call, to which this unit is sent, if any is free
abbrev pub after_call : Option ℕ → DayRecord → Fleet → Fleet
after_call None call fleet = record fleet { waiting = fleet.waiting ++ call ∷ [] }
after_call (Some unit) call fleet = record fleet {
  word = turned_word fleet.word unit;
  answers = fleet.answers ++ answer call.at unit call ∷ [];
}

-- the call that a unit which is free again is sent to, and those that are left
pub record NextCall : Type 0 where
  pub call : Option DayRecord
  pub left : List DayRecord

abbrev pub first_call : List DayRecord → NextCall
first_call [] = record { call = None; left = [] }
first_call (call ∷ calls) = record { call = Some call; left = calls }

abbrev pub next_call : Line → List DayRecord → NextCall
next_call line.Zero calls = record { call = None; left = calls }
next_call line.Infinite calls = first_call calls

-- after a unit is free again, which is sent to this call, if there is one
abbrev pub with_next : Option DayRecord → DayRecord → Fleet → Fleet
with_next None freed fleet = record fleet { word = turned_word fleet.word freed.who }
with_next (Some call) freed fleet = record fleet { answers = fleet.answers ++ answer freed.at freed.who call ∷ [] }

abbrev pub after_free : Line → DayRecord → Fleet → Fleet
after_free l freed fleet =
    with_next (next_call l fleet.waiting).call freed (record fleet { waiting = (next_call l fleet.waiting).left })

-- after a record
abbrev pub after_record : PlanParts → DayRecord → Fleet → Fleet
after_record p r fleet =
    if r.free then after_free p.line r fleet else after_call (first_free p.lists r.who fleet.word) r fleet

-- a unit is said to be free again that is free in the word
abbrev pub is_idle_free : DayRecord → ℕ → Bool
is_idle_free r word = r.free && is_free word r.who

-- of these answered calls, those of atom j that unit n was sent to
abbrev pub answer_count : List AnsweredCall → ℕ → ℕ → ℕ
answer_count answers n j = count_by (λ a. (a.send.unit == n) && (a.atom == j)) answers

-- the seconds before those records before which unit n is busy, by the word before each
abbrev pub busy_time : List DayRecord → List ℕ → ℕ → ℕ
busy_time day words n =
    sum_below (length day) (λ place. if is_busy (slice_index words place) n then seconds_before day place else 0)

-- the word of the busy units before each record
pub record TellsBusy (p : PlanParts) (day : List DayRecord) (sends : List Send) (words : List ℕ) : Type 0 where
  pub one_each : length words ≡ length day
  pub busy : (place n : ℕ) → place < length day → n < units p
      → is_busy (slice_index words place) n ≡ is_busy_before day sends (record_at day place).at n

-- the unit and the atom are of the plan
pub record IsWithin (p : PlanParts) (a : AnsweredCall) : Type 0 where
  pub unit : a.send.unit < units p
  pub atom : a.atom < atoms p

-- the call is of the atom that was kept with it
abbrev pub IsAnswerOf : List DayRecord → AnsweredCall → Type 0
IsAnswerOf day a = (j : ℕ) → is_call_of day a.send.call j ≡ (a.atom == j)

-- the sends of a whole day, the calls that were not answered, and the words
pub record IsFleetOf (p : PlanParts) (day : List DayRecord) (fleet : Fleet) (words : List ℕ) : Type 0 where
  pub stand : StandsForDay p day (sends_of fleet.answers)
  pub none_free : not_busy_end day (sends_of fleet.answers) ≡ None
  pub waiting : fleet.waiting ≡ filter (is_unanswered (sends_of fleet.answers)) day
  pub within : All (IsWithin p) fleet.answers
  pub answers : All (IsAnswerOf day) fleet.answers
  pub tells : TellsBusy p day (sends_of fleet.answers) words
