-- A recorded day of a plan's fleet: calls that came, and units that were free again, each at a second.
use Rattle.std.specs.Prelude.{ℕ, ◌<◌, ◌≤◌, if◌then◌else◌, false, List, slice_index_or, All, AllPairs}
use Rattle.hyper_model.specs.Plans.{atoms, units}
use Rattle.hyper_model.specs.declared.parts.PlanParts.{PlanParts}
use Rattle.plan_text.specs.declared.TheConstants.{MOST_RECORDS}
use Rattle.day_replay.specs.declared.TheConstants.{MOST_SECOND}
use Rattle.day_replay.specs.declared.day_list.DayRecord.{DayRecord}

-- what stands past the last record
abbrev pub no_record : DayRecord
no_record = record { at = 0; second = 0; free = false; who = 0 }

abbrev pub record_at : List DayRecord → ℕ → DayRecord
record_at day place = slice_index_or day place no_record

-- it is of a unit of the plan that is free again, or of a call of an atom of the plan
abbrev pub IsKnown : PlanParts → DayRecord → Type 0
IsKnown p r = r.who < (if r.free then units p else atoms p)

-- the records' numbers rise, and their seconds never fall
pub record IsDayOf (p : PlanParts) (day : List DayRecord) : Type 0 where
  pub known : All (IsKnown p) day
  pub rising : AllPairs (λ earlier later. earlier.at < later.at) day
  pub numbers : All (λ r. r.at ≤ MOST_RECORDS) day
  pub ordered : AllPairs (λ earlier later. earlier.second ≤ later.second) day
  pub seconds : All (λ r. r.second ≤ MOST_SECOND) day
