-- What contracts see of a day that was replayed: its sends, and what is counted of them.
use Rattle.std.specs.Prelude.{◌≡◌, ℕ, ◌<◌, List, length, slice_index, All}
use Rattle.hyper_model.specs.Grid.{Grid, cell}
use Rattle.hyper_model.specs.Plans.{atoms, units}
use Rattle.hyper_model.specs.declared.parts.PlanParts.{PlanParts}
use Rattle.day_replay.specs.Counts.{busy_seconds, call_count, dispatch_count, unanswered_count}
use Rattle.day_replay.specs.Days.{IsDayOf}
use Rattle.day_replay.specs.Sends.{StandsForDay}
use Rattle.day_replay.specs.declared.day_list.DayRecord.{DayRecord}
use Rattle.day_replay.specs.declared.played_list.Send.{Send}

pub record PlayedDay : Type 0 where
  pub sends : List Send
  pub calls : ℕ
  pub unanswered : ℕ
  -- a row for each unit, a column for each atom
  pub dispatched : Grid
  -- for each unit
  pub busy : List ℕ

-- a place for each unit and atom, and no unit that the plan does not have
pub record IsSizedFor (p : PlanParts) (played : PlayedDay) : Type 0 where
  pub rows : played.dispatched.rows ≡ units p
  pub cols : played.dispatched.cols ≡ atoms p
  pub one_each : length played.busy ≡ units p
  pub known : All (λ s. s.unit < units p) played.sends

-- the sends are those that the rules give, and each count is of these
pub record IsPlayed (p : PlanParts) (day : List DayRecord) (played : PlayedDay) : Type 0 where
  pub stand : StandsForDay p day played.sends
  pub calls : played.calls ≡ call_count day
  pub unanswered : played.unanswered ≡ unanswered_count day played.sends
  pub dispatched : (n j : ℕ) → n < units p → j < atoms p
      → cell played.dispatched n j ≡ dispatch_count day played.sends n j
  pub busy : (n : ℕ) → n < units p → slice_index played.busy n ≡ busy_seconds day played.sends n
  pub sized : IsSizedFor p played

-- so they are for some day of the plan
pub record IsReplayOf (p : PlanParts) (played : PlayedDay) : Type 0 where
  pub day : List DayRecord
  pub form : IsDayOf p day
  pub counted : IsPlayed p day played
