-- Days of a fleet of two units, A and B, with opposite lists at two atoms, P and Q, computed.
use Rattle.std.proofs.Common.{◌≡◌, ℕ, List, [], ◌∷◌, true, false, refl}
use Rattle.std.specs.Prelude.{Option, Some, None, codes}
use Rattle.hyper_model.specs.declared.kinds.Line.{Line}
use Rattle.hyper_model.specs.declared.kinds.Line.TheVariants as line
use Rattle.hyper_model.specs.declared.kinds.Rule.TheVariants as rule
use Rattle.hyper_model.specs.declared.parts.PlanParts.{PlanParts}
use Rattle.hyper_model.proofs.Worked.{row_of_units}
use Rattle.day_replay.specs.Counts.{busy_seconds, call_count, dispatch_count, unanswered_count}
use Rattle.day_replay.specs.Sends.{StandsForDay, first_not_busy, send}
use Rattle.day_replay.specs.declared.day_list.DayRecord.{DayRecord}
use Rattle.day_replay.specs.declared.played_list.Send.{Send}

abbrev two_units : Line → PlanParts
two_units l = record {
  line = l;
  rule = rule.Given;
  period = 3600;
  units = record { name = codes "A"; rate = 3 } ∷ record { name = codes "B"; rate = 3 } ∷ [];
  atoms =
      record { name = codes "P"; rate = 1; x = 0; y = 0; district = 0 }
      ∷ record { name = codes "Q"; rate = 1; x = 9; y = 0; district = 1 }
      ∷ [];
  lists = record {
    units = 2;
    rows = row_of_units (0 ∷ 1 ∷ []) (true ∷ true ∷ []) ∷ row_of_units (1 ∷ 0 ∷ []) (true ∷ true ∷ []) ∷ [];
  };
  located = record { rows = 2; cols = 2; cells = 1000 ∷ 0 ∷ 0 ∷ 1000 ∷ [] };
  travel = record { rows = 2; cols = 2; cells = 60 ∷ 300 ∷ 300 ∷ 60 ∷ [] };
}

abbrev call : ℕ → ℕ → ℕ → DayRecord
call at second atom = record { at = at; second = second; free = false; who = atom }

abbrev freed : ℕ → ℕ → ℕ → DayRecord
freed at second unit = record { at = at; second = second; free = true; who = unit }

-- the third call finds both units busy, and the fifth record comes when A is free again
abbrev busy_day : List DayRecord
busy_day = call 1 0 0 ∷ call 2 10 0 ∷ call 3 20 1 ∷ freed 4 30 0 ∷ call 5 40 1 ∷ freed 6 50 1 ∷ []

abbrev sends_if_lost : List Send
sends_if_lost = send 1 1 0 ∷ send 2 2 1 ∷ send 5 5 0 ∷ []

third_call_lost : StandsForDay (two_units line.Zero) busy_day sends_if_lost
third_call_lost = refl

-- A is sent to the third call, and then the fifth call has to wait for B
abbrev sends_if_waiting : List Send
sends_if_waiting = send 1 1 0 ∷ send 2 2 1 ∷ send 4 3 0 ∷ send 6 5 1 ∷ []

third_call_waits : StandsForDay (two_units line.Infinite) busy_day sends_if_waiting
third_call_waits = refl

no_free_unit_freed : first_not_busy busy_day sends_if_lost ≡ None
no_free_unit_freed = refl

calls_counted : call_count busy_day ≡ 4
calls_counted = refl

one_unanswered : unanswered_count busy_day sends_if_lost ≡ 1
one_unanswered = refl

none_unanswered : unanswered_count busy_day sends_if_waiting ≡ 0
none_unanswered = refl

sent_to_its_own_atom : dispatch_count busy_day sends_if_lost 0 0 ≡ 1
sent_to_its_own_atom = refl

not_sent_to_its_own_atom : dispatch_count busy_day sends_if_lost 1 1 ≡ 0
not_sent_to_its_own_atom = refl

-- until it is free again, and from the fifth record on
seconds_of_the_first_unit : busy_seconds busy_day sends_if_lost 0 ≡ 40
seconds_of_the_first_unit = refl

seconds_of_the_second_unit : busy_seconds busy_day sends_if_lost 1 ≡ 40
seconds_of_the_second_unit = refl

-- a unit that was never sent
freed_first : first_not_busy (freed 1 5 0 ∷ []) [] ≡ Some 1
freed_first = refl

-- calls in the second in which a unit is free again: the records stand in order, so the unit is busy before the first
abbrev same_second : List DayRecord
same_second = call 1 0 0 ∷ call 2 0 0 ∷ call 3 7 0 ∷ freed 4 7 0 ∷ []

busy_until_its_record : StandsForDay (two_units line.Zero) same_second (send 1 1 0 ∷ send 2 2 1 ∷ [])
busy_until_its_record = refl
