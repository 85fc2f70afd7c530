-- What it means to replay a recorded day: its text, or why there is no day of the plan.
use Rattle.std.specs.Prelude.{◌≡◌, ◌⊎◌, ℕ, true, List, Option, Some, None, Result, Ok}
use Rattle.hyper_model.specs.declared.kinds.Enclosed.{Enclosed}
use Rattle.hyper_model.specs.declared.parts.PlanParts.{PlanParts}
use Rattle.hyper_model.specs.Laws.{HavePositiveDenominators}
use Rattle.hyper_model.specs.Measures.{ContainsSolutions}
use Rattle.hyper_model.specs.Plans.{IsAccepted}
use Rattle.hyper_model.specs.Solutions.{HasSolution}
use Rattle.outer_world.specs.declared.named_text.NamedText.{NamedText}
use Rattle.plan_solver.specs.Enclosures.{IsEnclosureOf}
use Rattle.day_replay.specs.DayRows.{day_of}
use Rattle.day_replay.specs.Days.{IsDayOf}
use Rattle.day_replay.specs.Played.{IsPlayed, PlayedDay}
use Rattle.day_replay.specs.Sends.{StandsForDay, first_not_busy}
use Rattle.day_replay.specs.Texts.{printed_items, replay_bytes}
use Rattle.day_replay.specs.declared.day_list.DayRecord.{DayRecord}
use Rattle.day_replay.specs.declared.day_refusal.DayRefusal.TheVariants as day_refusal
use Rattle.day_replay.specs.declared.played_list.Send.{Send}
use Rattle.hypercube_cli.specs.declared.refusal.Refusal.TheVariants as refused
use Rattle.hypercube_cli.specs.Endings.{Ending, EndsFrom, done_ending, refused_ending}
use Rattle.hypercube_cli.specs.Meanings.{Meaning}
use Rattle.hypercube_cli.specs.Readings.{content_at, plan_at, unless_refused}

abbrev pub day_in : PlanParts → List ℕ → Result (List DayRecord) Ending
day_in p text = unless_refused refused.Day (day_of p text)

-- the day of the plan in the text of this name
abbrev pub day_at : List NamedText → PlanParts → List ℕ → Result (List DayRecord) Ending
day_at texts p name = content_at 2 (day_in p) texts name

-- the text of a replayed day, beside the plan's measures with the ends of the method
pub record IsTextOfPlayed (p : PlanParts) (played : PlayedDay) (text : List ℕ) : Type 0 where
  pub items : List Enclosed
  pub enclosed : IsEnclosureOf p items
  pub written : text ≡ replay_bytes p played items

-- it is the text of this day
pub record IsReplayText (p : PlanParts) (day : List DayRecord) (text : List ℕ) : Type 0 where
  pub played : PlayedDay
  pub counted : IsPlayed p day played
  pub beside : IsTextOfPlayed p played text

pub record EndsWithText (p : PlanParts) (day : List DayRecord) (ending : Ending) : Type 0 where
  pub text : List ℕ
  pub replayed : IsReplayText p day text
  pub ends : ending ≡ done_ending text

-- the ending, if this is the number of the first record that frees a unit that is not busy
abbrev pub EndsAfter : PlanParts → List DayRecord → Option ℕ → Ending → Type 0
EndsAfter p day (Some number) ending = ending ≡ refused_ending (refused.Day (day_refusal.NotBusy number))
EndsAfter p day None ending = EndsWithText p day ending

-- the ending for a day of a plan, by the sends that the rules give
pub record IsReplayed (p : PlanParts) (day : List DayRecord) (ending : Ending) : Type 0 where
  pub sends : List Send
  pub stand : StandsForDay p day sends
  pub ends : EndsAfter p day (first_not_busy day sends) ending

-- The text is that of a day of this plan. The rules give this list of sends and no other, and each count is of this list.
-- There is one list of measures with the ends of the method, and for each solution of the plan the ends that are printed
-- contain what Larson's formulas give.
pub record IsTrueReplay (texts : List NamedText) (p : PlanParts) (day_name text : List ℕ) : Type 0 where
  pub day : List DayRecord
  pub played : PlayedDay
  pub items : List Enclosed
  pub day_read : day_at texts p day_name ≡ Ok day
  pub form : IsDayOf p day
  pub counted : IsPlayed p day played
  pub sends_alone : (others : List Send) → StandsForDay p day others → others ≡ played.sends
  pub enclosed : IsEnclosureOf p items
  pub alone : (others : List Enclosed) → IsEnclosureOf p others → others ≡ items
  pub written : text ≡ replay_bytes p played items
  pub contains : ContainsSolutions p (printed_items p items)

-- So it is for the plan that was read, which is accepted. Its balance equations have a solution, and each measure is a
-- ratio whose denominator is positive.
pub record IsProvedReplay (texts : List NamedText) (file day_name text : List ℕ) : Type 0 where
  pub plan : PlanParts
  pub read : plan_at texts 1 file ≡ Ok plan
  pub accepted : IsAccepted plan
  pub solvable : HasSolution plan
  pub positive : HavePositiveDenominators plan
  pub replayed : IsTrueReplay texts plan day_name text

-- the name is that of the plan, or of the day
abbrev pub IsOneOf : List ℕ → List ℕ → Option (List ℕ) → Type 0
IsOneOf file day_name (Some name) = (name ≡ file) ⊎ (name ≡ day_name)
IsOneOf file day_name None = ⊥

abbrev pub replay_meaning : List ℕ → List ℕ → Meaning
replay_meaning file day_name = record {
  ends = λ texts. EndsFrom (plan_at texts 1 file) (λ plan. EndsFrom (day_at texts plan day_name) (IsReplayed plan));
  proves = λ texts. IsProvedReplay texts file day_name;
  asks = λ told fault. IsOneOf file day_name fault;
  reads = true;
}
