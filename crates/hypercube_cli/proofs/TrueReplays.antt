-- What is proved of a day that was replayed, and of the plan and the day that its command reads.
use Rattle.std.proofs.Common.{◌≡◌, ◌∙◌, ◌⊎◌, inl, inr, ℕ, List, ap, sym, refl}
use Rattle.std.specs.Prelude.{Option, Some, None, Result, Ok, Err, IfOk, IfSome, option_map}
use Rattle.hyper_model.specs.Plans.{IsAccepted}
use Rattle.hyper_model.specs.declared.kinds.Enclosed.{Enclosed}
use Rattle.hyper_model.specs.declared.parts.PlanParts.{PlanParts}
use Rattle.hyper_model.proofs.Denominators.{denominator_positive}
use Rattle.hyper_model.proofs.PlanLaws.{has_solution}
use Rattle.outer_world.specs.declared.named_text.NamedText.{NamedText}
use Rattle.plan_solver.proofs.AllMeasures.{one_enclosure}
use Rattle.day_replay.specs.Days.{IsDayOf}
use Rattle.day_replay.specs.Played.{IsPlayed, PlayedDay}
use Rattle.day_replay.specs.Sends.{HasSends, StandsForDay, first_not_busy, not_busy_end}
use Rattle.day_replay.specs.declared.day_list.DayRecord.{DayRecord}
use Rattle.day_replay.specs.declared.day_refusal.DayRefusal.TheVariants as day_refusal
use Rattle.day_replay.specs.declared.played_list.Send.{Send}
use Rattle.day_replay.specs.declared.replaying.ReplayEnd.{ReplayEnd}
use Rattle.day_replay.specs.declared.replaying.ReplayEnd.TheVariants as end
use Rattle.day_replay.proofs.ModelEnds.{printed_contained}
use Rattle.day_replay.proofs.OneList.{has_sends, only_sends}
use Rattle.hypercube_cli.specs.declared.outcome.Outcome.TheVariants as outcome
use Rattle.hypercube_cli.specs.declared.refusal.Refusal.TheVariants as refused
use Rattle.hypercube_cli.specs.declared.stop.Stop.{Stop}
use Rattle.hypercube_cli.specs.Endings.{Ending, EndsFrom, done_ending, refused_ending}
use Rattle.hypercube_cli.specs.Readings.{plan_at}
use Rattle.hypercube_cli.specs.Runs.{Answers}
use Rattle.hypercube_cli.specs.Tasks.ReplayedDays.{EndsAfter, IsProvedReplay, IsReplayed, IsReplayText, IsTextOfPlayed, IsTrueReplay, day_at}

-- no unit is freed that is not busy
pub none_busy : (day : List DayRecord) (sends : List Send) → not_busy_end day sends ≡ None → first_not_busy day sends ≡ None
none_busy day sends none = by (first_not_busy day sends) none
  where
    by : (o : Option ℕ) → option_map end.NotBusy o ≡ None → o ≡ None
    by None h = refl
    by (Some number) h = absurd (cc)

-- a unit is
pub one_busy : (p : PlanParts) (day : List DayRecord) (number told : ℕ) (stop : ReplayEnd) → stop ≡ end.NotBusy told
    → number ≡ told → IsDayOf p day
    → ((sends : List Send) → StandsForDay p day sends → (stop ≡ end.NoMemory) ⊎ (not_busy_end day sends ≡ Some stop))
    → IsReplayed p day (refused_ending (refused.Day (day_refusal.NotBusy number)))
one_busy p day number told stop is same form ended =
    let has : HasSends p day = has_sends p day form.rising in
    record {
      sends = has.sends;
      stand = has.stand;
      ends = by (first_not_busy day has.sends) (ended has.sends has.stand);
    }
  where
    by : (o : Option ℕ) → (stop ≡ end.NoMemory) ⊎ (option_map end.NotBusy o ≡ Some stop)
        → EndsAfter p day o (refused_ending (refused.Day (day_refusal.NotBusy number)))
    by o (inl memory) = absurd (cc)
    by None (inr ends) = absurd (cc)
    by (Some k) (inr ends) =
        let first : number ≡ k = cc in ap (λ n. refused_ending (refused.Day (day_refusal.NotBusy n))) first

-- a day whose text was written
pub text_replayed : (p : PlanParts) (day : List DayRecord) (played : PlayedDay) (ending : Ending) (text : List ℕ)
    → IsPlayed p day played → ((sends : List Send) → StandsForDay p day sends → not_busy_end day sends ≡ None)
    → IsTextOfPlayed p played text → ending ≡ done_ending text → IsReplayed p day ending
text_replayed p day played ending text counted none beside is = record {
  sends = played.sends;
  stand = counted.stand;
  ends = rw (none_busy day played.sends (none played.sends counted.stand)) (record {
    text = text;
    replayed = record { played = played; counted = counted; beside = beside };
    ends = is;
  });
}

-- what is answered for the day that was read is an ending of the plan
pub day_ends : (told : Option (List NamedText)) (p : PlanParts) (name : List ℕ) (day : List DayRecord) (result : Result Ending Stop)
    → IfSome told (λ texts. day_at texts p name ≡ Ok day) → Answers (IsReplayed p day) result
    → IfSome told (λ texts. Answers (EndsFrom (day_at texts p name) (IsReplayed p)) result)
day_ends None p name day result read is = tt
day_ends (Some texts) p name day result read is = rw read is

pub true_replay : (texts : List NamedText) (p : PlanParts) (name : List ℕ) (day : List DayRecord) (text : List ℕ)
    → day_at texts p name ≡ Ok day → IsAccepted p → IsDayOf p day → IsReplayText p day text → IsTrueReplay texts p name text
true_replay texts p name day text read accepted form replayed = record {
  day = day;
  played = replayed.played;
  items = replayed.beside.items;
  day_read = read;
  form = form;
  counted = replayed.counted;
  sends_alone = λ (others : List Send) stand.
      only_sends p day others form.rising stand ∙ sym (only_sends p day replayed.played.sends form.rising replayed.counted.stand);
  enclosed = replayed.beside.enclosed;
  alone = λ (others : List Enclosed). one_enclosure p replayed.beside.items others replayed.beside.enclosed;
  written = replayed.beside.written;
  contains = printed_contained p accepted replayed.beside.items replayed.beside.enclosed;
}

pub day_proved : (told : Option (List NamedText)) (p : PlanParts) (name : List ℕ) (day : List DayRecord) (result : Result Ending Stop)
    → IfSome told (λ texts. day_at texts p name ≡ Ok day) → IsAccepted p → IsDayOf p day
    → IfOk result (λ ending. IsReplayText p day ending.text)
    → IfSome told (λ texts. IfOk result (λ ending. IsTrueReplay texts p name ending.text))
day_proved None p name day result read accepted form proved = tt
day_proved (Some texts) p name day (Ok ending) read accepted form proved =
    true_replay texts p name day ending.text read accepted form proved
day_proved (Some texts) p name day (Err stop) read accepted form proved = tt

-- what is answered for the plan that was read is an ending of the command
pub replay_ends : (told : Option (List NamedText)) (file name : List ℕ) (p : PlanParts) (result : Result Ending Stop)
    → IfSome told (λ texts. plan_at texts 1 file ≡ Ok p)
    → IfSome told (λ texts. Answers (EndsFrom (day_at texts p name) (IsReplayed p)) result)
    → IfSome told (λ texts. Answers (EndsFrom (plan_at texts 1 file) (λ plan. EndsFrom (day_at texts plan name) (IsReplayed plan)))
    result)
replay_ends None file name p result read is = tt
replay_ends (Some texts) file name p result read is = rw read is

pub replay_proved : (told : Option (List NamedText)) (file name : List ℕ) (p : PlanParts) (result : Result Ending Stop)
    → IfSome told (λ texts. plan_at texts 1 file ≡ Ok p) → IsAccepted p
    → IfSome told (λ texts. IfOk result (λ ending. IsTrueReplay texts p name ending.text))
    → IfSome told (λ texts. IfOk result (λ ending. ending.outcome ≡ outcome.Done → IsProvedReplay texts file name ending.text))
replay_proved None file name p result read accepted proved = tt
replay_proved (Some texts) file name p (Ok ending) read accepted proved = λ done. record {
  plan = p;
  read = read;
  accepted = accepted;
  solvable = has_solution p accepted;
  positive = denominator_positive p accepted;
  replayed = proved;
}
replay_proved (Some texts) file name p (Err stop) read accepted proved = tt
