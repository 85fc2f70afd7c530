-- What is counted of a day: how many records it has, and the counts of its sends.
use Rattle.std.proofs.Common.{◌≡◌, ◌≢◌, ◌∙◌, ◌⊎◌, inl, inr, ℕ, zero, suc, ◌+◌, ◌<◌, ◌≤◌, Bool, true, false, ◌&&◌, eqb, List, [], ◌∷◌, ◌++◌, length, map, take, get_or, refl, sym, ap, arith}
use Rattle.std.specs.Prelude.{All, Option, Some, None, if◌then◌else◌, filter, find, count_by, slice_index}
use Rattle.std.specs.List.{flat_map, range_with_len}
use Rattle.std.specs.Option.{option_to_list}
use Rattle.std.proofs.lemmas.Bool.{cases_eq}
use Rattle.std.proofs.lemmas.Bool.Decides.{nat_tests}
use Rattle.std.proofs.lemmas.List.{length-append, length-map}
use Rattle.std.proofs.lemmas.List.Elements.{All-head, All-map, All-tail, All-weaker}
use Rattle.std.proofs.lemmas.List.FromFn.{length-map-range_with_len}
use Rattle.std.proofs.lemmas.List.Sums.{count_by-le-length, length-filter, sum_by-append, sum_by-cons}
use Rattle.hyper_model.specs.Grid.{Grid, SetsCell, cell}
use Rattle.hyper_model.specs.Plans.{atoms, units}
use Rattle.hyper_model.specs.Words.{is_busy}
use Rattle.hyper_model.specs.declared.kinds.Line.{Line}
use Rattle.hyper_model.specs.declared.kinds.Line.TheVariants as line
use Rattle.hyper_model.specs.declared.parts.PlanParts.{PlanParts}
use Rattle.hyper_model.proofs.ListPlaces.{listed_at, taken_at}
use Rattle.hyper_model.proofs.Sums.{sum-same}
use Rattle.plan_text.specs.declared.TheConstants.{MOST_RECORDS}
use Rattle.day_replay.specs.Counts.{busy_seconds, call_count, dispatch_count, is_call_of, is_unanswered, seconds_before, unanswered_count}
use Rattle.day_replay.specs.Days.{IsDayOf, no_record, record_at}
use Rattle.day_replay.specs.Fleets.{Fleet, IsAnswerOf, IsFleetOf, IsWithin, TellsBusy, answer_count, busy_time, sends_of}
use Rattle.day_replay.specs.Played.{IsPlayed}
use Rattle.day_replay.specs.Sends.{first_free_before, is_busy_before, send, sends_at, sends_at_call, sends_at_free, waits_before}
use Rattle.day_replay.specs.declared.day_list.DayRecord.{DayRecord}
use Rattle.day_replay.specs.declared.played_list.AnsweredCall.{AnsweredCall}
use Rattle.day_replay.specs.declared.played_list.Send.{Send}

-- the numbers rise, so each is at least its place
place_least : (p : PlanParts) (day : List DayRecord) → IsDayOf p day → (k : ℕ) → k < length day → k ≤ (record_at day k).at
place_least p day form zero lt = omega arith
place_least p day form (suc k) lt =
    let before = place_least p day form k (omega arith) in
    let h : (record_at day k).at < (record_at day (suc k)).at = form.rising k (suc k) no_record (omega arith) lt in
    omega (arith, before, h)

pub day_short : (p : PlanParts) (day : List DayRecord) → IsDayOf p day → length day ≤ MOST_RECORDS + 1
day_short p day form = by (length day) refl
  where
    by : (n : ℕ) → length day ≡ n → n ≤ MOST_RECORDS + 1
    by zero e = omega arith
    by (suc m) e =
        let least = place_least p day form m (omega arith) in
        let most : (record_at day m).at ≤ MOST_RECORDS = form.numbers m no_record (omega arith) in
        omega (arith, least, most)

-- at most one send stands at a record
one_listed : {A : Type 0} (f : A → Send) (o : Option A) → length (map f (option_to_list o)) ≤ 1
one_listed f None = omega arith
one_listed f (Some x) = omega arith

freed_one : (l : Line) (day : List DayRecord) (sends : List Send) (r : DayRecord) → length (sends_at_free l day sends r) ≤ 1
freed_one line.Zero day sends r = omega arith
freed_one line.Infinite day sends r =
    one_listed (λ (c : DayRecord). send r.at c.at r.who) (find (waits_before sends r.at) day)

at_most_one : (p : PlanParts) (day : List DayRecord) (sends : List Send) (r : DayRecord) → length (sends_at p day sends r) ≤ 1
at_most_one p day sends r = by r.free (is_busy_before day sends r.at r.who)
  where
    by : (free busy : Bool)
        → length (if free then (if busy then sends_at_free p.line day sends r else []) else sends_at_call p day sends r) ≤ 1
    by true true = freed_one p.line day sends r
    by true false = omega arith
    by false busy = one_listed (send r.at r.at) (first_free_before p day sends r.at r.who)

sends_few : (p : PlanParts) (day : List DayRecord) (sends : List Send) (rs : List DayRecord)
    → length (flat_map (sends_at p day sends) rs) ≤ length rs
sends_few p day sends [] = omega arith
sends_few p day sends (r ∷ rs) =
    omega (
      arith,
      length-append (sends_at p day sends r) (flat_map (sends_at p day sends) rs),
      at_most_one p day sends r,
      sends_few p day sends rs,
    )

-- so there are no more sends than records
pub answers_few : (p : PlanParts) (day : List DayRecord) (fleet : Fleet) (words : List ℕ) → IsFleetOf p day fleet words
    → length fleet.answers ≤ length day
answers_few p day fleet words is =
    omega (
      arith,
      length-map fleet.answers (λ (a : AnsweredCall). a.send),
      ap length is.stand,
      sends_few p day (sends_of fleet.answers) day,
    )

pub waiting_few : (p : PlanParts) (day : List DayRecord) (fleet : Fleet) (words : List ℕ) → IsFleetOf p day fleet words
    → length fleet.waiting ≤ length day
waiting_few p day fleet words is =
    omega (
      arith,
      ap length is.waiting,
      length-filter (is_unanswered (sends_of fleet.answers)) day,
      count_by-le-length (is_unanswered (sends_of fleet.answers)) day,
    )

pub waiting_counted : (p : PlanParts) (day : List DayRecord) (fleet : Fleet) (words : List ℕ) → IsFleetOf p day fleet words
    → length fleet.waiting ≡ unanswered_count day (sends_of fleet.answers)
waiting_counted p day fleet words is = ap length is.waiting ∙ length-filter (is_unanswered (sends_of fleet.answers)) day

-- the sends of a unit to calls of an atom, by the atom that was kept with each
pub answers_counted : (day : List DayRecord) (answers : List AnsweredCall) (n j : ℕ) → All (IsAnswerOf day) answers
    → answer_count answers n j ≡ dispatch_count day (sends_of answers) n j
answers_counted day [] n j are = refl
answers_counted day (a ∷ answers) n j are =
    sum_by-cons (λ (x : AnsweredCall). if (eqb x.send.unit n && eqb x.atom j) then 1 else 0) a answers
    ∙ ap (λ b. (if (eqb a.send.unit n && b) then 1 else 0) + answer_count answers n j) (sym (All-head (IsAnswerOf day) a answers are j))
    ∙ ap (λ m. (if (eqb a.send.unit n && is_call_of day a.send.call j) then 1 else 0) + m)
    (answers_counted day answers n j (All-tail (IsAnswerOf day) a answers are))
    ∙ sym (sum_by-cons (λ (s : Send). if (eqb s.unit n && is_call_of day s.call j) then 1 else 0) a.send (sends_of answers))

pub answers_next : (answers : List AnsweredCall) (i n j : ℕ) (a : AnsweredCall) → i < length answers → get_or answers i a ≡ a
    → answer_count (take (i + 1) answers) n j
    ≡ answer_count (take i answers) n j + (if (eqb a.send.unit n && eqb a.atom j) then 1 else 0)
answers_next answers i n j a lt is =
    let more : answer_count (take (i + 1) answers) n j
    ≡ answer_count (take i answers) n j + (0 + (if (eqb a.send.unit n && eqb a.atom j) then 1 else 0)) =
    ap (λ list. answer_count list n j) (taken_at answers i a lt is)
    ∙ sum_by-append (λ (x : AnsweredCall). if (eqb x.send.unit n && eqb x.atom j) then 1 else 0) (take i answers) (a ∷ []) in
    omega (arith, more)

pub answers_below : (answers : List AnsweredCall) (i n j : ℕ) → answer_count (take i answers) n j ≤ length (take i answers)
answers_below answers i n j = count_by-le-length (λ (x : AnsweredCall). eqb x.send.unit n && eqb x.atom j) (take i answers)

-- a cell that was raised by 1
pub cell_next : (old new : Grid) (u a n j : ℕ) → SetsCell old new u a (cell old u a + 1) → n < old.rows → j < old.cols
    → cell new n j ≡ cell old n j + (if (eqb u n && eqb a j) then 1 else 0)
cell_next old new u a n j sets row col = elim (cases_eq n u) [
  | inl n_is ↦ elim (cases_eq j a) [
    | inl j_is ↦
        let first : eqb u n ≡ true = grind (arith, nat_tests) in
        let second : eqb a j ≡ true = grind (arith, nat_tests) in
        rw (first, second) (ap (λ m. cell new m j) n_is ∙ ap (cell new u) j_is ∙ sets.there
        ∙ ap (λ m. cell old m a + 1) (sym n_is) ∙ ap (λ m. cell old n m + 1) (sym j_is))
    | inr j_not ↦
        let second : eqb a j ≡ false = grind (arith, nat_tests) in
        rw second (kept (eqb u n) (sets.others n j row col (inr j_not)))
  ]
  | inr n_not ↦
      let first : eqb u n ≡ false = grind (arith, nat_tests) in
      rw first (kept_first (sets.others n j row col (inl n_not)))
]
  where
    kept : (b : Bool) → cell new n j ≡ cell old n j → cell new n j ≡ cell old n j + (if (b && false) then 1 else 0)
    kept true e = omega (arith, e)
    kept false e = omega (arith, e)

    kept_first : cell new n j ≡ cell old n j → cell new n j ≡ cell old n j + 0
    kept_first e = omega (arith, e)

-- the seconds of a unit, by the word before each record
pub busy_counted : (p : PlanParts) (day : List DayRecord) (sends : List Send) (words : List ℕ) → TellsBusy p day sends words
    → (n : ℕ) → n < units p
    → slice_index (map (busy_time day words) (range_with_len 0 (units p))) n ≡ busy_seconds day sends n
busy_counted p day sends words tells n lt =
    listed_at (busy_time day words) (units p) n 0 lt
    ∙ sum-same (length day)
    (λ place. if is_busy (slice_index words place) n then seconds_before day place else 0)
    (λ place. if is_busy_before day sends (record_at day place).at n then seconds_before day place else 0)
    (λ place inside. ap (λ b. if b then seconds_before day place else 0) (tells.busy place n inside lt))

-- the whole of what is counted, as it was found
pub is_replayed : (p : PlanParts) (day : List DayRecord) (fleet : Fleet) (words seen : List ℕ) (answers taken : List AnsweredCall)
    (calls unanswered : ℕ) (table : Grid) (times : List ℕ) → IsFleetOf p day fleet words → answers ≡ fleet.answers → taken ≡ answers
    → seen ≡ words → calls ≡ call_count day → unanswered ≡ length fleet.waiting → table.rows ≡ units p → table.cols ≡ atoms p
    → ((n j : ℕ) → n < units p → j < atoms p → cell table n j ≡ answer_count taken n j)
    → times ≡ map (busy_time day seen) (range_with_len 0 (units p))
    → IsPlayed p day (record { sends = sends_of answers; calls = calls; unanswered = unanswered; dispatched = table; busy = times })
is_replayed p day fleet words seen answers taken calls unanswered table times is answers_are taken_are seen_are calls_are
    unanswered_are rows cols counts times_are =
    let same : sends_of answers ≡ sends_of fleet.answers = ap sends_of answers_are in
    record {
      stand = rw same is.stand;
      calls = calls_are;
      unanswered = unanswered_are ∙ waiting_counted p day fleet words is ∙ ap (unanswered_count day) (sym same);
      dispatched = λ n j n_in j_in.
          counts n j n_in j_in ∙ ap (λ list. answer_count list n j) (taken_are ∙ answers_are)
          ∙ answers_counted day fleet.answers n j is.answers ∙ ap (λ ss. dispatch_count day ss n j) (sym same);
      busy = λ n n_in.
          ap (λ list. slice_index list n) (times_are ∙ ap (λ list. map (busy_time day list) (range_with_len 0 (units p))) seen_are)
          ∙ busy_counted p day (sends_of fleet.answers) words is.tells n n_in
          ∙ ap (λ ss. busy_seconds day ss n) (sym same);
      sized = record {
        rows = rows;
        cols = cols;
        one_each = ap length times_are ∙ length-map-range_with_len (busy_time day seen) 0 (units p);
        known = rw answers_are (All-map (λ (s : Send). s.unit < units p) (λ (a : AnsweredCall). a.send) fleet.answers
            (All-weaker (IsWithin p) (λ (a : AnsweredCall). a.send.unit < units p) (λ a within. within.unit) fleet.answers is.within));
      };
    }
