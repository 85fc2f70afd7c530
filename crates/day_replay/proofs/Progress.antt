-- The fleet after the first records of a day is what the rules of sending say of them.
use Rattle.std.proofs.Common.{◌≡◌, ◌≢◌, ◌∙◌, ◌⊎◌, inl, inr, ℕ, zero, suc, ◌+◌, ◌^◌, ◌<◌, ◌≤◌, Bool, true, false, not, ◌&&◌, ◌||◌, eqb, List, [], ◌∷◌, ◌++◌, length, map, take, drop, get_or, refl, sym, ap, subst, arith, append-nil, pow_pos}
use Rattle.std.specs.Prelude.{All, AllPairs, Option, Some, None, if◌then◌else◌, nat_lt, filter, find, count_by, option_map, slice_index, slice_index_or, IfSome}
use Rattle.std.specs.Int.{bit_at}
use Rattle.std.specs.List.{flat_map, list_any}
use Rattle.std.specs.Option.{option_or, option_to_list}
use Rattle.std.proofs.lemmas.Bool.{cases_eq, eqb-false}
use Rattle.std.proofs.lemmas.Bool.Decides.{nat_tests}
use Rattle.std.proofs.lemmas.Grind.{flat_map-append}
use Rattle.std.proofs.lemmas.List.{drop_more, get_or-drop, get_or-take, get_or_default, length-drop, length-take-le, take_more, take-append-drop, take_all, length_push, get_or_push, get_or_append_left, map-append}
use Rattle.std.proofs.lemmas.List.Elements.{All-append, All-cons, All-filter, All-head, All-nil, All-tail, All-take, All-weaker, filter-append, filter_passes}
use Rattle.std.proofs.lemmas.List.Kept.{AllPairs-filter}
use Rattle.std.proofs.lemmas.List.Folds.{find-append, list_any-append, list_any_none}
use Rattle.std.proofs.lemmas.List.Sums.{sum_by-append}
use Rattle.std.proofs.lemmas.Nat.Bits.{bit_at-lt, bit_at-zero}
use Rattle.hyper_model.specs.Groups.{GroupLists, list_of}
use Rattle.hyper_model.specs.Plans.{IsAccepted, atoms, units}
use Rattle.hyper_model.specs.Words.{first_free, is_busy, is_free, turned_word}
use Rattle.hyper_model.specs.declared.kinds.Line.{Line}
use Rattle.hyper_model.specs.declared.kinds.Line.TheVariants as line
use Rattle.hyper_model.specs.declared.parts.PlanParts.{PlanParts}
use Rattle.hyper_model.proofs.Bits.{busy_bit, busy_turned, busy_turned_other, free_bit, turned_lt, turned_twice}
use Rattle.report_text.proofs.PlanLists.{members_within}
use Rattle.day_replay.specs.Counts.{is_call_of, is_unanswered}
use Rattle.day_replay.specs.Days.{IsDayOf, IsKnown, no_record, record_at}
use Rattle.day_replay.specs.Fleets.{Fleet, IsAnswerOf, IsFleetOf, IsWithin, after_call, after_free, after_record, answer, first_call, is_idle_free, next_call, sends_of, with_next}
use Rattle.day_replay.specs.Sends.{first_free_before, frees_before, frees_free_unit, is_answered_before, is_busy_before, StandsForDay, not_busy_end, send, sends_at, sends_at_call, sends_at_free, sends_before, waits_before}
use Rattle.day_replay.specs.declared.day_list.DayRecord.{DayRecord}
use Rattle.day_replay.specs.declared.played_list.AnsweredCall.{AnsweredCall}
use Rattle.day_replay.specs.declared.played_list.Send.{Send}
use Rattle.day_replay.specs.declared.replaying.ReplayEnd.{ReplayEnd}
use Rattle.day_replay.specs.declared.replaying.ReplayEnd.TheVariants as end
use Rattle.day_replay.proofs.Agreement.{any_same, count_none, count_same, filter_all, filter_both, filter_same, find_none, find_same, one_if}
use Rattle.day_replay.proofs.OneList.{StandFrom, all_sends, all_stand, answered_unseen, only_sends, sends_unseen, stand_at, stand_from}

-- all sends to unit n, and all records that say that it is free again
abbrev pub sends_to : List Send → ℕ → ℕ
sends_to sends n = count_by (λ s. eqb s.unit n) sends

abbrev pub frees_of : List DayRecord → ℕ → ℕ
frees_of day n = count_by (λ r. r.free && eqb r.who n) day

-- the fleet and the words after the first i records
pub record HasReached (p : PlanParts) (day : List DayRecord) (i : ℕ) (fleet : Fleet) (words : List ℕ) : Type 0 where
  pub sends : sends_of fleet.answers ≡ flat_map (sends_at p day (all_sends p day)) (take i day)
  pub bits : (n : ℕ) → n < units p → sends_to (sends_of fleet.answers) n ≡ frees_of (take i day) n + bit_at fleet.word n
  pub word : fleet.word < 2 ^ units p
  pub waiting : fleet.waiting ≡ filter (is_unanswered (sends_of fleet.answers)) (take i day)
  pub within : All (IsWithin p) fleet.answers
  pub answers : All (IsAnswerOf day) fleet.answers
  pub one_each : length words ≡ i
  pub busy : (k n : ℕ) → k < i → n < units p
      → is_busy (slice_index words k) n ≡ is_busy_before day (all_sends p day) (record_at day k).at n
  pub none_free : find (frees_free_unit day (all_sends p day)) (take i day) ≡ None

-- the records before a place have smaller numbers, and those from it on have not
pub before_at : (day : List DayRecord) (i : ℕ) → AllPairs (λ earlier later. earlier.at < later.at) day → i < length day
    → All (λ r. r.at < (record_at day i).at) (take i day)
before_at day i rising inside k d lt =
    let early : k < i = omega (arith, length-take-le i day (omega arith), lt) in
    let here : get_or (take i day) k d ≡ get_or day k no_record =
    get_or-take i day k d early ∙ get_or_default day k d no_record (omega arith) in
    rw here (rising k i no_record early inside)

pub from_at : (day : List DayRecord) (i : ℕ) → AllPairs (λ earlier later. earlier.at < later.at) day → i < length day
    → All (λ r. (record_at day i).at ≤ r.at) (drop i day)
from_at day i rising inside k d lt =
    let within : i + k < length day = omega (arith, length-drop i day, lt) in
    let here : get_or (drop i day) k d ≡ get_or day (i + k) no_record =
    get_or-drop i day k d ∙ get_or_default day (i + k) d no_record within in
    rw here (later k within)
  where
    later : (k : ℕ) → i + k < length day → (record_at day i).at ≤ (record_at day (i + k)).at
    later zero within = let same : i + 0 ≡ i = omega arith in rw same (omega arith)
    later (suc k) within =
        let h : (get_or day i no_record).at < (get_or day (i + suc k) no_record).at =
        rising i (i + suc k) no_record (omega arith) within in omega (arith, h)

earlier_true : (at number : ℕ) → number < at → nat_lt number at ≡ true
earlier_true at number lt = grind (arith, nat_tests)

later_false : (at number : ℕ) → at ≤ number → nat_lt number at ≡ false
later_false at number le = grind (arith, nat_tests)

-- the sends of earlier records stand earlier
stand_before : (p : PlanParts) (day : List DayRecord) (sends : List Send) (at : ℕ) (done : List DayRecord)
    → All (λ r. r.at < at) done → All (λ s. s.at < at) (flat_map (sends_at p day sends) done)
stand_before p day sends at [] earlier = All-nil (λ (s : Send). s.at < at)
stand_before p day sends at (r ∷ rs) earlier =
    All-append (λ (s : Send). s.at < at) (sends_at p day sends r) (flat_map (sends_at p day sends) rs)
    (All-weaker (λ (s : Send). s.at ≡ r.at) (λ (s : Send). s.at < at)
    (λ s is. omega (arith, is, All-head (λ (x : DayRecord). x.at < at) r rs earlier)) (sends_at p day sends r) (stand_at p day sends r))
    (stand_before p day sends at rs (All-tail (λ (x : DayRecord). x.at < at) r rs earlier))

pub found_passes : {X : Type 0} (test : X → Bool) (xs : List X) (x : X) → find test xs ≡ Some x → test x ≡ true
found_passes test [] x found = absurd (cc)
found_passes {X} test (y ∷ ys) x found = by (test y) refl found (found_passes test ys x)
  where
    by : (b : Bool) → test y ≡ b → (if b then Some y else find test ys) ≡ Some x → (find test ys ≡ Some x → test x ≡ true)
        → test x ≡ true
    by true t h rest = let same : y ≡ x = cc in rw same at t
    by false t h rest = rest h

-- what holds of all items holds of one that is found
pub found_holds : {X : Type 0} (P : X → Type 0) (test : X → Bool) (xs : List X) (x : X) → All P xs → find test xs ≡ Some x → P x
found_holds P test [] x all found = absurd (cc)
found_holds {X} P test (y ∷ ys) x all found = by (test y) found (found_holds P test ys x (All-tail P y ys all))
  where
    by : (b : Bool) → (if b then Some y else find test ys) ≡ Some x → (find test ys ≡ Some x → P x) → P x
    by true h rest = let same : y ≡ x = cc in subst P same (All-head P y ys all)
    by false h rest = rest h

-- a call is never sent to before it comes
waiting_earlier : (sends : List Send) (at : ℕ) (c : DayRecord) → waits_before sends at c ≡ true → c.at < at
waiting_earlier sends at c waits = by c.free (nat_lt c.at at) refl waits
  where
    by : (free early : Bool) → nat_lt c.at at ≡ early → (not free && (early && not (is_answered_before sends at c))) ≡ true → c.at < at
    by true early e h = absurd (cc)
    by false true e h = grind (arith, nat_tests)
    by false false e h = absurd (cc)

freed_calls : (l : Line) (day : List DayRecord) (sends : List Send) (r : DayRecord)
    → All (λ s. s.call ≤ r.at) (sends_at_free l day sends r)
freed_calls line.Zero day sends r = All-nil (λ (s : Send). s.call ≤ r.at)
freed_calls line.Infinite day sends r = by (find (waits_before sends r.at) day) refl
  where
    by : (o : Option DayRecord) → find (waits_before sends r.at) day ≡ o
        → All (λ s. s.call ≤ r.at) (map (λ (call : DayRecord). send r.at call.at r.who) (option_to_list o))
    by None e = All-nil (λ (s : Send). s.call ≤ r.at)
    by (Some c) e =
        let early = waiting_earlier sends r.at c (found_passes (waits_before sends r.at) day c e) in
        All-cons (λ (s : Send). s.call ≤ r.at) (send r.at c.at r.who) [] (omega (arith, early)) (All-nil (λ (s : Send). s.call ≤ r.at))

calls_by : (p : PlanParts) (day : List DayRecord) (sends : List Send) (r : DayRecord)
    → All (λ s. s.call ≤ r.at) (sends_at p day sends r)
calls_by p day sends r = by r.free (is_busy_before day sends r.at r.who)
  where
    at_call : (o : Option ℕ) → All (λ s. s.call ≤ r.at) (map (send r.at r.at) (option_to_list o))
    at_call None = All-nil (λ (s : Send). s.call ≤ r.at)
    at_call (Some n) =
        All-cons (λ (s : Send). s.call ≤ r.at) (send r.at r.at n) [] (omega arith) (All-nil (λ (s : Send). s.call ≤ r.at))

    by : (free busy : Bool) → All (λ s. s.call ≤ r.at)
        (if free then (if busy then sends_at_free p.line day sends r else []) else sends_at_call p day sends r)
    by true true = freed_calls p.line day sends r
    by true false = All-nil (λ (s : Send). s.call ≤ r.at)
    by false busy = at_call (first_free_before p day sends r.at r.who)

calls_before : (p : PlanParts) (day : List DayRecord) (sends : List Send) (at : ℕ) (done : List DayRecord)
    → All (λ r. r.at < at) done → All (λ s. s.call < at) (flat_map (sends_at p day sends) done)
calls_before p day sends at [] earlier = All-nil (λ (s : Send). s.call < at)
calls_before p day sends at (r ∷ rs) earlier =
    All-append (λ (s : Send). s.call < at) (sends_at p day sends r) (flat_map (sends_at p day sends) rs)
    (All-weaker (λ (s : Send). s.call ≤ r.at) (λ (s : Send). s.call < at)
    (λ s le. omega (arith, le, All-head (λ (x : DayRecord). x.at < at) r rs earlier)) (sends_at p day sends r) (calls_by p day sends r))
    (calls_before p day sends at rs (All-tail (λ (x : DayRecord). x.at < at) r rs earlier))

bit_tells : (f b : ℕ) → b < 2 → nat_lt f (f + b) ≡ eqb b 1
bit_tells f zero lt = grind (arith, nat_tests)
bit_tells f (suc zero) lt = grind (arith, nat_tests)
bit_tells f (suc (suc b)) lt = absurd (omega arith)

-- the first of those that a test keeps
first_kept : (test : DayRecord → Bool) (xs : List DayRecord) → find test xs ≡ (first_call (filter test xs)).call
first_kept test [] = refl
first_kept test (x ∷ xs) = by (test x) (first_kept test xs)
  where
    by : (b : Bool) → find test xs ≡ (first_call (filter test xs)).call
        → (if b then Some x else find test xs) ≡ (first_call (if b then x ∷ filter test xs else filter test xs)).call
    by true rest = refl
    by false rest = rest

-- what is left of the calls that wait
none_next : (l : Line) (calls : List DayRecord) → (next_call l calls).call ≡ None → (next_call l calls).left ≡ calls
none_next line.Zero calls none = refl
none_next line.Infinite [] none = refl
none_next line.Infinite (c ∷ calls) none = absurd (cc)

some_next : (l : Line) (calls : List DayRecord) (c : DayRecord) → (next_call l calls).call ≡ Some c
    → calls ≡ c ∷ (next_call l calls).left
some_next line.Zero calls c some = absurd (cc)
some_next line.Infinite [] c some = absurd (cc)
some_next line.Infinite (x ∷ calls) c some = let same : x ≡ c = cc in ap (λ y. y ∷ calls) same

-- what the rules see before the record at a place
module _ (p : PlanParts) (day : List DayRecord) (i : ℕ) (fleet : Fleet) (words : List ℕ) (form : IsDayOf p day)
    (inside : i < length day) (reached : HasReached p day i fleet words) where
  abbrev whole : List Send
  whole = all_sends p day

  abbrev so_far : List Send
  so_far = sends_of fleet.answers

  abbrev later : List Send
  later = flat_map (sends_at p day whole) (drop i day)

  abbrev r : DayRecord
  r = record_at day i

  whole_is : whole ≡ so_far ++ later
  whole_is =
      all_stand p day form.rising
      ∙ ap (λ rs. flat_map (sends_at p day whole) rs) (sym (take-append-drop i day))
      ∙ flat_map-append (sends_at p day whole) (take i day) (drop i day)
      ∙ ap (λ ss. ss ++ later) (sym reached.sends)

  later_stand : StandFrom r.at later
  later_stand = stand_from p day whole r.at (drop i day) (from_at day i form.rising inside)

  earlier_stand : All (λ s. s.at < r.at) so_far
  earlier_stand = rw reached.sends (stand_before p day whole r.at (take i day) (before_at day i form.rising inside))

  pub earlier_calls : All (λ s. s.call < r.at) so_far
  earlier_calls = rw reached.sends (calls_before p day whole r.at (take i day) (before_at day i form.rising inside))

  sends_seen : (n : ℕ) → sends_before whole r.at n ≡ sends_to so_far n
  sends_seen n =
      ap (λ ss. sends_before ss r.at n) whole_is ∙ sends_unseen so_far later r.at n later_stand
      ∙ count_same (λ (s : Send). nat_lt s.at r.at && eqb s.unit n) (λ (s : Send). eqb s.unit n) so_far
      (All-weaker (λ (s : Send). s.at < r.at) (λ (s : Send). (nat_lt s.at r.at && eqb s.unit n) ≡ eqb s.unit n)
      (λ s lt. ap (λ b. b && eqb s.unit n) (earlier_true r.at s.at lt)) so_far earlier_stand)

  frees_seen : (n : ℕ) → frees_before day r.at n ≡ frees_of (take i day) n
  frees_seen n =
      let test = λ (x : DayRecord). nat_lt x.at r.at && (x.free && eqb x.who n) in
      let front : count_by test (take i day) ≡ frees_of (take i day) n =
      count_same test (λ (x : DayRecord). x.free && eqb x.who n) (take i day)
      (All-weaker (λ (x : DayRecord). x.at < r.at) (λ (x : DayRecord). test x ≡ (x.free && eqb x.who n))
      (λ x lt. ap (λ b. b && (x.free && eqb x.who n)) (earlier_true r.at x.at lt)) (take i day) (before_at day i form.rising inside)) in
      let back : count_by test (drop i day) ≡ 0 =
      count_none test (drop i day)
      (All-weaker (λ (x : DayRecord). r.at ≤ x.at) (λ (x : DayRecord). test x ≡ false)
      (λ x le. ap (λ b. b && (x.free && eqb x.who n)) (later_false r.at x.at le)) (drop i day) (from_at day i form.rising inside)) in
      ap (count_by test) (sym (take-append-drop i day))
      ∙ sum_by-append (λ (x : DayRecord). if test x then 1 else 0) (take i day) (drop i day)
      ∙ (let sum : count_by test (take i day) + count_by test (drop i day) ≡ frees_of (take i day) n = omega (arith, front, back) in sum)

  -- the word has the busy units
  pub busy_now : (n : ℕ) → n < units p → is_busy_before day whole r.at n ≡ is_busy fleet.word n
  busy_now n lt =
      ap (λ f. nat_lt f (sends_before whole r.at n)) (frees_seen n)
      ∙ ap (nat_lt (frees_of (take i day) n)) (sends_seen n ∙ reached.bits n lt)
      ∙ bit_tells (frees_of (take i day) n) (bit_at fleet.word n) (bit_at-lt fleet.word n)

  pub first_now : IsAccepted p → r.who < atoms p → first_free_before p day whole r.at r.who ≡ first_free p.lists r.who fleet.word
  first_now accepted known =
      find_same (λ n. not (is_busy_before day whole r.at n)) (is_free fleet.word) (list_of p.lists r.who)
      (All-weaker (λ n. n < units p) (λ n. not (is_busy_before day whole r.at n) ≡ is_free fleet.word n)
      (λ n lt. ap not (busy_now n lt)) (list_of p.lists r.who) (members_within p r.who accepted known))

  answered_seen : (c : DayRecord) → is_answered_before whole r.at c ≡ list_any (λ s. eqb s.call c.at) so_far
  answered_seen c =
      ap (λ ss. is_answered_before ss r.at c) whole_is ∙ answered_unseen so_far later r.at c later_stand
      ∙ any_same (λ (s : Send). nat_lt s.at r.at && eqb s.call c.at) (λ (s : Send). eqb s.call c.at) so_far
      (All-weaker (λ (s : Send). s.at < r.at) (λ (s : Send). (nat_lt s.at r.at && eqb s.call c.at) ≡ eqb s.call c.at)
      (λ s lt. ap (λ b. b && eqb s.call c.at) (earlier_true r.at s.at lt)) so_far earlier_stand)

  -- the calls that wait are those that were not answered
  pub waits_now : find (waits_before whole r.at) day ≡ find (is_unanswered so_far) (take i day)
  waits_now =
      let front : find (waits_before whole r.at) (take i day) ≡ find (is_unanswered so_far) (take i day) =
      find_same (waits_before whole r.at) (is_unanswered so_far) (take i day)
      (All-weaker (λ (c : DayRecord). c.at < r.at) (λ (c : DayRecord). waits_before whole r.at c ≡ is_unanswered so_far c)
      (λ c lt. ap (λ b. not c.free && (b && not (is_answered_before whole r.at c))) (earlier_true r.at c.at lt)
      ∙ ap (λ b. not c.free && not b) (answered_seen c)) (take i day) (before_at day i form.rising inside)) in
      let back : find (waits_before whole r.at) (drop i day) ≡ None =
      find_none (waits_before whole r.at) (drop i day)
      (All-weaker (λ (c : DayRecord). r.at ≤ c.at) (λ (c : DayRecord). waits_before whole r.at c ≡ false)
      (λ c le. ap (λ b. not c.free && (b && not (is_answered_before whole r.at c))) (later_false r.at c.at le) ∙ and_false (not c.free))
      (drop i day) (from_at day i form.rising inside)) in
      ap (find (waits_before whole r.at)) (sym (take-append-drop i day))
      ∙ find-append (waits_before whole r.at) (take i day) (drop i day)
      ∙ both front back
    where
      and_false : (b : Bool) → (b && false) ≡ false
      and_false true = refl
      and_false false = refl

      none_right : (o : Option DayRecord) → option_or o None ≡ o
      none_right None = refl
      none_right (Some x) = refl

      both : find (waits_before whole r.at) (take i day) ≡ find (is_unanswered so_far) (take i day)
          → find (waits_before whole r.at) (drop i day) ≡ None
          → option_or (find (waits_before whole r.at) (take i day)) (find (waits_before whole r.at) (drop i day))
          ≡ find (is_unanswered so_far) (take i day)
      both front back =
          ap (λ o. option_or o (find (waits_before whole r.at) (drop i day))) front
          ∙ ap (option_or (find (is_unanswered so_far) (take i day))) back
          ∙ none_right (find (is_unanswered so_far) (take i day))

  -- a unit that the record frees is free before it, by the rules as by the word
  pub idle_now : IsKnown p r → frees_free_unit day whole r ≡ is_idle_free r fleet.word
  idle_now known = by r.free refl known
    where
      by : (free : Bool) → r.free ≡ free → (r.who < (if free then units p else atoms p))
          → (free && not (is_busy_before day whole r.at r.who)) ≡ (free && is_free fleet.word r.who)
      by true e lt = ap not (busy_now r.who lt)
      by false e lt = refl

  taken_more : take (i + 1) day ≡ take i day ++ r ∷ []
  taken_more = take_more day i no_record inside

  -- one record more, which these answers are given at
  next_reached : (after : Fleet) (new : List AnsweredCall) → IsKnown p r → is_idle_free r fleet.word ≡ false
      → after.answers ≡ fleet.answers ++ new → sends_of new ≡ sends_at p day whole r
      → ((n : ℕ) → n < units p → sends_to (sends_of new) n + bit_at fleet.word n
      ≡ (if (r.free && eqb r.who n) then 1 else 0) + bit_at after.word n)
      → after.word < 2 ^ units p
      → after.waiting ≡ filter (is_unanswered (sends_of after.answers)) (take i day ++ r ∷ [])
      → All (IsWithin p) new → All (IsAnswerOf day) new
      → HasReached p day (i + 1) after (words ++ fleet.word ∷ [])
  next_reached after new known idle answers sends bits word waiting within are = record {
    sends =
        ap sends_of answers ∙ map-append (λ (a : AnsweredCall). a.send) fleet.answers new
        ∙ ap (λ ss. so_far ++ ss) sends ∙ ap (λ ss. ss ++ sends_at p day whole r) reached.sends
        ∙ ap (λ ss. flat_map (sends_at p day whole) (take i day) ++ ss) (sym (append-nil (sends_at p day whole r)))
        ∙ sym (flat_map-append (sends_at p day whole) (take i day) (r ∷ []))
        ∙ ap (flat_map (sends_at p day whole)) (sym taken_more);
    bits = λ n lt. more_bits n lt;
    word = word;
    waiting = rw taken_more waiting;
    within = rw answers (All-append (IsWithin p) fleet.answers new reached.within within);
    answers = rw answers (All-append (IsAnswerOf day) fleet.answers new reached.answers are);
    one_each = omega (arith, length_push words fleet.word, reached.one_each);
    busy = λ k n lt known_unit. more_busy k n lt known_unit;
    none_free =
        ap (find (frees_free_unit day whole)) taken_more
        ∙ find-append (frees_free_unit day whole) (take i day) (r ∷ [])
        ∙ ap (λ o. option_or o (find (frees_free_unit day whole) (r ∷ []))) reached.none_free
        ∙ ap (λ b. if b then Some r else None) (idle_now known ∙ idle);
  }
    where
      more_bits : (n : ℕ) → n < units p
          → sends_to (sends_of after.answers) n ≡ frees_of (take (i + 1) day) n + bit_at after.word n
      more_bits n lt =
          let sent : sends_to (sends_of after.answers) n ≡ sends_to so_far n + sends_to (sends_of new) n =
          ap (λ list. sends_to (sends_of list) n) answers
          ∙ ap (λ ss. sends_to ss n) (map-append (λ (a : AnsweredCall). a.send) fleet.answers new)
          ∙ sum_by-append (λ (s : Send). if eqb s.unit n then 1 else 0) so_far (sends_of new) in
          let freed : frees_of (take (i + 1) day) n ≡ frees_of (take i day) n + (0 + (if (r.free && eqb r.who n) then 1 else 0)) =
          ap (λ rs. frees_of rs n) taken_more
          ∙ sum_by-append (λ (x : DayRecord). if (x.free && eqb x.who n) then 1 else 0) (take i day) (r ∷ []) in
          omega (arith, sent, freed, bits n lt, reached.bits n lt)

      more_busy : (k n : ℕ) → k < i + 1 → n < units p
          → is_busy (slice_index (words ++ fleet.word ∷ []) k) n ≡ is_busy_before day whole (record_at day k).at n
      more_busy k n lt known_unit = elim (cases_eq k i) [
        | inl last ↦
            ap (λ w. is_busy w n) (get_or_push words fleet.word 0 k (omega (arith, reached.one_each, last)))
            ∙ sym (busy_now n known_unit) ∙ ap (λ k2. is_busy_before day whole (record_at day k2).at n) (sym last)
        | inr other ↦
            let early : k < i = omega arith in
            ap (λ w. is_busy w n) (get_or_append_left words (fleet.word ∷ []) 0 k (omega (arith, reached.one_each)))
            ∙ reached.busy k n early known_unit
      ]

  -- whether a call is not answered, after one send more
  unanswered_push : (sends : List Send) (s : Send) (c : DayRecord)
      → is_unanswered (sends ++ s ∷ []) c ≡ (is_unanswered sends c && not (eqb s.call c.at))
  unanswered_push sends s c =
      ap (λ b. not c.free && not b) (list_any-append (λ (x : Send). eqb x.call c.at) sends (s ∷ []))
      ∙ tests c.free (list_any (λ x. eqb x.call c.at) sends) (eqb s.call c.at)
    where
      tests : (free any last : Bool) → (not free && not (any || (last || false))) ≡ ((not free && not any) && not last)
      tests true any last = refl
      tests false true last = refl
      tests false false true = refl
      tests false false false = refl

  apart : (a b : ℕ) → a ≢ b → eqb a b ≡ false
  apart a b ne = grind (arith, nat_tests)

  -- the record itself was not answered before
  here_unanswered : r.free ≡ false → is_unanswered so_far r ≡ true
  here_unanswered call =
      ap (λ b. not b && not (list_any (λ (s : Send). eqb s.call r.at) so_far)) call
      ∙ ap not (list_any_none (λ (s : Send). eqb s.call r.at) so_far
      (All-weaker (λ (s : Send). s.call < r.at) (λ (s : Send). eqb s.call r.at ≡ false)
      (λ s lt. apart s.call r.at (λ e. absurd (omega (arith, lt, e)))) so_far earlier_calls))

  -- the calls of the first records that are not answered, where the record was answered
  others_unanswered : (s : Send) → s.call ≡ r.at
      → filter (is_unanswered (so_far ++ s ∷ [])) (take i day) ≡ filter (is_unanswered so_far) (take i day)
  others_unanswered s is =
      filter_same (is_unanswered (so_far ++ s ∷ [])) (is_unanswered so_far) (take i day)
      (All-weaker (λ (c : DayRecord). c.at < r.at) (λ (c : DayRecord). is_unanswered (so_far ++ s ∷ []) c ≡ is_unanswered so_far c)
      (λ c lt. unanswered_push so_far s c
      ∙ ap (λ b. is_unanswered so_far c && not b) (apart s.call c.at (λ e. absurd (omega (arith, lt, e, is))))
      ∙ and_true (is_unanswered so_far c)) (take i day) (before_at day i form.rising inside))
    where
      and_true : (b : Bool) → (b && true) ≡ b
      and_true true = refl
      and_true false = refl

  one_kept : (test : DayRecord → Bool) (b : Bool) → test r ≡ b
      → filter test (take i day ++ r ∷ []) ≡ filter test (take i day) ++ (if b then r ∷ [] else [])
  one_kept test b is =
      filter-append test (take i day) (r ∷ []) ∙ ap (λ c. filter test (take i day) ++ (if c then r ∷ [] else [])) is

  none_kept : (test : DayRecord → Bool) → test r ≡ false → filter test (take i day ++ r ∷ []) ≡ filter test (take i day)
  none_kept test is = one_kept test false is ∙ append-nil (filter test (take i day))

  -- the record is a call of its atom, and no other record has its number
  call_at : (k : ℕ) → k < length day → (record_at day k).free ≡ false
      → (j : ℕ) → is_call_of day (record_at day k).at j ≡ eqb (record_at day k).who j
  call_at k lt call j =
      let c = record_at day k in
      let test = λ (x : DayRecord). eqb x.at c.at && (not x.free && eqb x.who j) in
      let front : list_any test (take k day) ≡ false =
      list_any_none test (take k day)
      (All-weaker (λ (x : DayRecord). x.at < c.at) (λ (x : DayRecord). test x ≡ false)
      (λ x before. ap (λ b. b && (not x.free && eqb x.who j)) (apart x.at c.at (λ e. absurd (omega (arith, before, e)))))
      (take k day) (before_at day k form.rising lt)) in
      let back : list_any test (drop (k + 1) day) ≡ false =
      list_any_none test (drop (k + 1) day) (after_none k lt) in
      ap (list_any test) (sym (take-append-drop k day) ∙ ap (λ rs. take k day ++ rs) (drop_more day k no_record lt))
      ∙ list_any-append test (take k day) (c ∷ drop (k + 1) day)
      ∙ ap (λ b. b || (test c || list_any test (drop (k + 1) day))) front
      ∙ ap (λ b. test c || b) back
      ∙ only (eqb c.at c.at) c.free (eqb c.who j) (same_number c.at) call
    where
      same_number : (n : ℕ) → eqb n n ≡ true
      same_number n = grind (arith, nat_tests)

      only : (same free who : Bool) → same ≡ true → free ≡ false → ((same && (not free && who)) || false) ≡ who
      only true false true s f = refl
      only true false false s f = refl
      only true true who s f = absurd (cc)
      only false free who s f = absurd (cc)

      after_none : (k : ℕ) → k < length day
          → All (λ x. (eqb x.at (record_at day k).at && (not x.free && eqb x.who j)) ≡ false) (drop (k + 1) day)
      after_none k lt m d within =
          let size : k + 1 + m < length day = omega (arith, length-drop (k + 1) day, within) in
          let x = get_or (drop (k + 1) day) m d in
          let here : x ≡ get_or day (k + 1 + m) no_record =
          get_or-drop (k + 1) day m d ∙ get_or_default day (k + 1 + m) d no_record size in
          let after : (record_at day k).at < (get_or day (k + 1 + m) no_record).at =
          form.rising k (k + 1 + m) no_record (omega arith) size in
          let later_number : x.at ≡ (get_or day (k + 1 + m) no_record).at = ap (λ (y : DayRecord). y.at) here in
          ap (λ b. b && (not x.free && eqb x.who j))
          (apart x.at (record_at day k).at (λ e. absurd (omega (arith, after, e, later_number))))

  -- what holds of each call of the day
  IsTold : DayRecord → Type 0
  IsTold c = (c.free ≡ false → (j : ℕ) → is_call_of day c.at j ≡ eqb c.who j) × (c.free ≡ false → c.who < atoms p)

  all_told : All IsTold day
  unfolding IsTold
  all_told k d lt =
      rw (get_or_default day k d no_record lt)
      (call_at k lt, λ call. known_atom (record_at day k) call (form.known k no_record lt))
    where
      known_atom : (c : DayRecord) → c.free ≡ false → IsKnown p c → c.who < atoms p
      known_atom c call known = rw call at known

  -- an answer to a call of the day
  answer_told : (at unit : ℕ) (c : DayRecord) → IsTold c → c.free ≡ false → unit < units p
      → IsWithin p (answer at unit c) × IsAnswerOf day (answer at unit c)
  unfolding IsTold
  answer_told at unit c told call lt = (record { unit = lt; atom = told.1 call }, told.0 call)

  single_within : (a : AnsweredCall) → IsWithin p a → All (IsWithin p) (a ∷ [])
  single_within a within = All-cons (IsWithin p) a [] within (All-nil (IsWithin p))

  single_answer : (a : AnsweredCall) → IsAnswerOf day a → All (IsAnswerOf day) (a ∷ [])
  single_answer a is = All-cons (IsAnswerOf day) a [] is (All-nil (IsAnswerOf day))

  -- the bit of the unit that turns
  turned_up : (w u n : ℕ) → is_busy w u ≡ false → bit_at (turned_word w u) n ≡ bit_at w n + (if eqb u n then 1 else 0)
  turned_up w u n free = elim (cases_eq u n) [
    | inl same ↦
        let one : bit_at (turned_word w u) n ≡ 1 =
        busy_bit (turned_word w u) n (subst (λ m. is_busy (turned_word w u) m ≡ true) same (busy_turned w u ∙ ap not free)) in
        let none : bit_at w n ≡ 0 = free_bit w n (subst (λ m. is_busy w m ≡ false) same free) in
        let hit : eqb u n ≡ true = grind (arith, nat_tests) in
        rw hit (omega (arith, one, none))
    | inr other ↦
        let stays = bit_other w u n (λ e. other (sym e)) in
        rw (apart u n other) (omega (arith, stays))
  ]
    where
      bit_other : (w u n : ℕ) → n ≢ u → bit_at (turned_word w u) n ≡ bit_at w n
      bit_other w u n ne =
          bits (bit_at (turned_word w u) n) (bit_at w n) (bit_at-lt (turned_word w u) n) (bit_at-lt w n)
          (busy_turned_other w u n ne)
        where
          bits : (a b : ℕ) → a < 2 → b < 2 → eqb a 1 ≡ eqb b 1 → a ≡ b
          bits a b la lb e = grind (arith, nat_tests)

  turned_down : (w u n : ℕ) → is_busy w u ≡ true → bit_at w n ≡ (if eqb u n then 1 else 0) + bit_at (turned_word w u) n
  turned_down w u n busy =
      let back : is_busy (turned_word w u) u ≡ false = busy_turned w u ∙ ap not busy in
      let up = turned_up (turned_word w u) u n back in
      let twice : bit_at (turned_word (turned_word w u) u) n ≡ bit_at w n = ap (λ v. bit_at v n) (turned_twice w u) in
      omega (arith, up, twice)

  same_number : (n : ℕ) → eqb n n ≡ true
  same_number n = grind (arith, nat_tests)

  none_and : (b : Bool) → (b && false) ≡ false
  none_and true = refl
  none_and false = refl

  sends_are : IsAccepted p → r.free ≡ false → r.who < atoms p → (o : Option ℕ) → first_free p.lists r.who fleet.word ≡ o
      → sends_at p day whole r ≡ map (send r.at r.at) (option_to_list o)
  sends_are accepted call lt o found =
      ap (λ b. if b then (if is_busy_before day whole r.at r.who then sends_at_free p.line day whole r else [])
      else sends_at_call p day whole r) call
      ∙ ap (λ u. map (send r.at r.at) (option_to_list u)) (first_now accepted lt ∙ found)

  atom_known : r.free ≡ false → IsKnown p r → r.who < atoms p
  atom_known call known = rw call at known

  sends_pushed : (a : AnsweredCall) → sends_of (fleet.answers ++ a ∷ []) ≡ so_far ++ a.send ∷ []
  sends_pushed a = map-append (λ (x : AnsweredCall). x.send) fleet.answers (a ∷ [])

  -- after a call
  pub call_reached : IsAccepted p → IsKnown p r → r.free ≡ false → (o : Option ℕ) → first_free p.lists r.who fleet.word ≡ o
      → HasReached p day (i + 1) (after_call o r fleet) (words ++ fleet.word ∷ [])
  call_reached accepted known call None found =
      next_reached (after_call None r fleet) [] known (ap (λ b. b && is_free fleet.word r.who) call) (sym (append-nil fleet.answers))
      (sym (sends_are accepted call (atom_known call known) None found))
      (λ n lt.
      let none : one_if (r.free && eqb r.who n) ≡ 0 = ap (λ b. one_if (b && eqb r.who n)) call in
      omega (arith, none))
      reached.word
      (ap (λ ws. ws ++ r ∷ []) reached.waiting ∙ sym (one_kept (is_unanswered so_far) true (here_unanswered call)))
      (All-nil (IsWithin p)) (All-nil (IsAnswerOf day))
  call_reached accepted known call (Some u) found =
      let lt = found_holds (λ n. n < units p) (is_free fleet.word) (list_of p.lists r.who) u
      (members_within p r.who accepted (atom_known call known)) found in
      let free : is_busy fleet.word u ≡ false =
      not_true (is_busy fleet.word u) (found_passes (is_free fleet.word) (list_of p.lists r.who) u found) in
      let a = answer r.at u r in
      let told = answer_told r.at u r (all_told i no_record inside) call lt in
      let answered : is_unanswered (so_far ++ a.send ∷ []) r ≡ false =
      unanswered_push so_far a.send r ∙ ap (λ b. is_unanswered so_far r && not b) (same_number r.at)
      ∙ none_and (is_unanswered so_far r) in
      next_reached (after_call (Some u) r fleet) (a ∷ []) known (ap (λ b. b && is_free fleet.word r.who) call) refl
      (sym (sends_are accepted call (atom_known call known) (Some u) found))
      (λ n known_unit.
      let none : one_if (r.free && eqb r.who n) ≡ 0 = ap (λ b. one_if (b && eqb r.who n)) call in
      omega (arith, none, turned_up fleet.word u n free))
      (turned_lt (units p) fleet.word u reached.word lt)
      (reached.waiting ∙ sym (others_unanswered a.send refl)
      ∙ sym (none_kept (is_unanswered (so_far ++ a.send ∷ [])) answered)
      ∙ ap (λ ss. filter (is_unanswered ss) (take i day ++ r ∷ [])) (sym (sends_pushed a)))
      (single_within a told.0) (single_answer a told.1)
    where
      not_true : (b : Bool) → not b ≡ true → b ≡ false
      not_true true h = absurd (cc)
      not_true false h = refl

  -- the earliest call that waits is sent the unit that is free again
  freed_line : (l : Line) → sends_at_free l day whole r
      ≡ map (λ (c : DayRecord). send r.at c.at r.who) (option_to_list (next_call l fleet.waiting).call)
  freed_line line.Zero = refl
  freed_line line.Infinite =
      ap (λ o. map (λ (c : DayRecord). send r.at c.at r.who) (option_to_list o))
      (waits_now ∙ first_kept (is_unanswered so_far) (take i day) ∙ ap (λ ws. (first_call ws).call) (sym reached.waiting))

  freed_are : r.free ≡ true → r.who < units p → is_busy fleet.word r.who ≡ true → sends_at p day whole r
      ≡ map (λ (c : DayRecord). send r.at c.at r.who) (option_to_list (next_call p.line fleet.waiting).call)
  freed_are freed lt busy =
      ap (λ b. if b then (if is_busy_before day whole r.at r.who then sends_at_free p.line day whole r else [])
      else sends_at_call p day whole r) freed
      ∙ ap (λ b. if b then sends_at_free p.line day whole r else []) (busy_now r.who lt ∙ busy)
      ∙ freed_line p.line

  freed_answered : r.free ≡ true → (sends : List Send) → is_unanswered sends r ≡ false
  freed_answered freed sends = ap (λ b. not b && not (list_any (λ (s : Send). eqb s.call r.at) sends)) freed

  unit_known : r.free ≡ true → IsKnown p r → r.who < units p
  unit_known freed known = rw freed at known

  -- the calls that are left when the first is answered
  left_waiting : (c : DayRecord) (left : List DayRecord) → fleet.waiting ≡ c ∷ left → (s : Send) → s.call ≡ c.at
      → filter (is_unanswered (so_far ++ s ∷ [])) (take i day) ≡ left
  left_waiting c left waiting s is =
      let kept : filter (is_unanswered so_far) (take i day) ≡ c ∷ left = sym reached.waiting ∙ waiting in
      let other = λ (x : DayRecord). not (eqb c.at x.at) in
      filter_same (is_unanswered (so_far ++ s ∷ [])) (λ x. is_unanswered so_far x && other x) (take i day)
      (λ k d lt. let x = slice_index_or (take i day) k d in
      unanswered_push so_far s x ∙ ap (λ n. is_unanswered so_far x && not (eqb n x.at)) is)
      ∙ filter_both (is_unanswered so_far) other (take i day)
      ∙ ap (filter other) kept
      ∙ ap (λ b. if b then c ∷ filter other left else filter other left) (ap not (same_number c.at))
      ∙ filter_all other left (λ k d lt. ap not (apart c.at (slice_index_or left k d).at (λ e.
      absurd (omega (arith, e, rising_left kept k d lt)))))
    where
      rising_taken : AllPairs (λ (x y : DayRecord). x.at < y.at) (take i day)
      rising_taken m k d lt within =
          let size = length-take-le i day (omega arith) in
          let k_lt : k < i = omega (arith, size, within) in
          rw (get_or-take i day m d (omega (arith, lt, k_lt)), get_or-take i day k d k_lt)
          (form.rising m k d lt (omega (arith, k_lt, inside)))

      rising_left : filter (is_unanswered so_far) (take i day) ≡ c ∷ left → (k : ℕ) (d : DayRecord) → k < length left
          → c.at < (slice_index_or left k d).at
      rising_left kept k d lt =
          let pairs : AllPairs (λ (x y : DayRecord). x.at < y.at) (c ∷ left) =
          subst (AllPairs (λ (x y : DayRecord). x.at < y.at)) kept
          (AllPairs-filter (λ (x y : DayRecord). x.at < y.at) (is_unanswered so_far) (take i day) rising_taken) in
          pairs 0 (suc k) d (omega arith) (omega (arith, lt))

  -- a call that was not answered is one of the day
  waiting_told : (c : DayRecord) (left : List DayRecord) → fleet.waiting ≡ c ∷ left → IsTold c × (c.free ≡ false)
  waiting_told c left waiting =
      let kept : filter (is_unanswered so_far) (take i day) ≡ c ∷ left = sym reached.waiting ∙ waiting in
      let told : All IsTold (c ∷ left) =
      subst (All IsTold) kept (All-filter (is_unanswered so_far) IsTold (take i day) (All-take IsTold i day all_told)) in
      let passes : All (λ (x : DayRecord). is_unanswered so_far x ≡ true) (c ∷ left) =
      subst (All (λ (x : DayRecord). is_unanswered so_far x ≡ true)) kept (filter_passes (is_unanswered so_far) (take i day)) in (
        All-head IsTold c left told,
        is_call c.free (list_any (λ (s : Send). eqb s.call c.at) so_far)
            (All-head (λ (x : DayRecord). is_unanswered so_far x ≡ true) c left passes),
      )
    where
      is_call : (free any : Bool) → (not free && not any) ≡ true → free ≡ false
      is_call true any h = absurd (cc)
      is_call false any h = refl

  -- after a unit is free again
  pub free_reached : IsKnown p r → r.free ≡ true → is_busy fleet.word r.who ≡ true
      → HasReached p day (i + 1) (after_free p.line r fleet) (words ++ fleet.word ∷ [])
  free_reached known freed busy = by (next_call p.line fleet.waiting).call refl
    where
      idle : is_idle_free r fleet.word ≡ false
      idle = ap (λ b. r.free && not b) busy ∙ none_and r.free

      one_freed : (n : ℕ) → one_if (r.free && eqb r.who n) ≡ one_if (eqb r.who n)
      one_freed n = ap (λ b. one_if (b && eqb r.who n)) freed

      by : (o : Option DayRecord) → (next_call p.line fleet.waiting).call ≡ o
          → HasReached p day (i + 1) (with_next o r (record fleet { waiting = (next_call p.line fleet.waiting).left }))
          (words ++ fleet.word ∷ [])
      by None none =
          let same : (next_call p.line fleet.waiting).left ≡ fleet.waiting = none_next p.line fleet.waiting none in
          next_reached (with_next None r (record fleet { waiting = (next_call p.line fleet.waiting).left })) [] known idle
          (sym (append-nil fleet.answers))
          (sym (freed_are freed (unit_known freed known) busy
          ∙ ap (λ o. map (λ (c : DayRecord). send r.at c.at r.who) (option_to_list o)) none))
          (λ n lt. omega (arith, one_freed n, turned_down fleet.word r.who n busy))
          (turned_lt (units p) fleet.word r.who reached.word (unit_known freed known))
          (same ∙ reached.waiting ∙ sym (none_kept (is_unanswered so_far) (freed_answered freed so_far)))
          (All-nil (IsWithin p)) (All-nil (IsAnswerOf day))
      by (Some c) some =
          let waiting : fleet.waiting ≡ c ∷ (next_call p.line fleet.waiting).left = some_next p.line fleet.waiting c some in
          let a = answer r.at r.who c in
          let facts = waiting_told c (next_call p.line fleet.waiting).left waiting in
          let told = answer_told r.at r.who c facts.0 facts.1 (unit_known freed known) in
          next_reached (with_next (Some c) r (record fleet { waiting = (next_call p.line fleet.waiting).left })) (a ∷ []) known idle
          refl
          (sym (freed_are freed (unit_known freed known) busy
          ∙ ap (λ o. map (λ (x : DayRecord). send r.at x.at r.who) (option_to_list o)) some))
          (λ n lt. omega (arith, one_freed n))
          reached.word
          (sym (left_waiting c (next_call p.line fleet.waiting).left waiting a.send refl)
          ∙ sym (none_kept (is_unanswered (so_far ++ a.send ∷ [])) (freed_answered freed (so_far ++ a.send ∷ [])))
          ∙ ap (λ ss. filter (is_unanswered ss) (take i day ++ r ∷ [])) (sym (sends_pushed a)))
          (single_within a told.0) (single_answer a told.1)

  -- after a record
  pub record_reached : IsAccepted p → IsKnown p r → is_idle_free r fleet.word ≡ false
      → HasReached p day (i + 1) (after_record p r fleet) (words ++ fleet.word ∷ [])
  record_reached accepted known idle = by r.free refl
    where
      is_busy_one : (free busy : Bool) → free ≡ true → (free && not busy) ≡ false → busy ≡ true
      is_busy_one true true e h = refl
      is_busy_one true false e h = absurd (cc)
      is_busy_one false busy e h = absurd (cc)

      by : (free : Bool) → r.free ≡ free
          → HasReached p day (i + 1)
          (if free then after_free p.line r fleet else after_call (first_free p.lists r.who fleet.word) r fleet)
          (words ++ fleet.word ∷ [])
      by true freed = free_reached known freed (is_busy_one r.free (is_busy fleet.word r.who) freed idle)
      by false call = call_reached accepted known call (first_free p.lists r.who fleet.word) refl

  -- the first record that frees a free unit
  pub first_idle : IsKnown p r → is_idle_free r fleet.word ≡ true → find (frees_free_unit day whole) day ≡ Some r
  first_idle known idle =
      ap (find (frees_free_unit day whole)) (sym (take-append-drop i day) ∙ ap (λ rs. take i day ++ rs) (drop_more day i no_record inside))
      ∙ find-append (frees_free_unit day whole) (take i day) (r ∷ drop (i + 1) day)
      ∙ ap (λ o. option_or o (find (frees_free_unit day whole) (r ∷ drop (i + 1) day))) reached.none_free
      ∙ ap (λ b. if b then Some r else find (frees_free_unit day whole) (drop (i + 1) day)) (idle_now known ∙ idle)

-- nothing has happened yet
pub none_reached : (p : PlanParts) (day : List DayRecord) (fleet : Fleet) → fleet.word ≡ 0 → fleet.waiting ≡ []
    → fleet.answers ≡ [] → HasReached p day 0 fleet []
none_reached p day fleet word waiting answers = record {
  sends = ap sends_of answers;
  bits = λ n lt.
      let none : sends_to (sends_of fleet.answers) n ≡ 0 = ap (λ list. sends_to (sends_of list) n) answers in
      let free : bit_at fleet.word n ≡ 0 = ap (λ w. bit_at w n) word ∙ bit_at-zero n in
      omega (arith, none, free);
  word = omega (arith, pow_pos (units p), word);
  waiting = waiting;
  within = rw answers (All-nil (IsWithin p));
  answers = rw answers (All-nil (IsAnswerOf day));
  one_each = refl;
  busy = λ k n lt known. absurd (omega arith);
  none_free = refl;
}

-- all records have been played
pub all_reached : (p : PlanParts) (day : List DayRecord) (i : ℕ) (fleet : Fleet) (words : List ℕ) → IsDayOf p day
    → length day ≤ i → HasReached p day i fleet words → i ≡ length day → IsFleetOf p day fleet words
all_reached p day i fleet words form over reached last =
    let all : take i day ≡ day = take_all i day over in
    let same : sends_of fleet.answers ≡ all_sends p day =
    reached.sends ∙ ap (flat_map (sends_at p day (all_sends p day))) all ∙ sym (all_stand p day form.rising) in
    record {
      stand = rw same (all_stand p day form.rising);
      none_free =
          ap (λ ss. not_busy_end day ss) same
          ∙ ap (λ o. option_map end.NotBusy (option_map (λ (x : DayRecord). x.at) o))
          (ap (find (frees_free_unit day (all_sends p day))) (sym all) ∙ reached.none_free);
      waiting = reached.waiting ∙ ap (filter (is_unanswered (sends_of fleet.answers))) all;
      within = reached.within;
      answers = reached.answers;
      tells = record {
        one_each = reached.one_each ∙ last;
        busy = λ place n lt known.
            reached.busy place n (omega (arith, last)) known ∙ ap (λ ss. is_busy_before day ss (record_at day place).at n) (sym same);
      };
    }

-- one record more, as it was read
pub reached_next : (p : PlanParts) (day : List DayRecord) (i : ℕ) (fleet after : Fleet) (words list : List ℕ) (r : DayRecord)
    → IsAccepted p → IsDayOf p day → i < length day → HasReached p day i fleet words → r ≡ record_at day i
    → is_idle_free r fleet.word ≡ false → after ≡ after_record p r fleet → list ≡ words ++ fleet.word ∷ []
    → HasReached p day (i + 1) after list
reached_next p day i fleet after words list r accepted form inside reached is idle after_is list_is =
    rw (after_is, list_is, is)
    (record_reached p day i fleet words form inside reached accepted (form.known i no_record inside)
    (ap (λ (x : DayRecord). is_idle_free x fleet.word) (sym is) ∙ idle))

-- a day that is not played to its end
pub end_told : (p : PlanParts) (day : List DayRecord) (i : ℕ) (fleet : Fleet) (words : List ℕ) (r : DayRecord) (e : ReplayEnd)
    (sends : List Send) → IsDayOf p day → i < length day → HasReached p day i fleet words → r ≡ record_at day i
    → (e ≡ end.NoMemory) ⊎ ((e ≡ end.NotBusy r.at) × (is_idle_free r fleet.word ≡ true)) → StandsForDay p day sends
    → (e ≡ end.NoMemory) ⊎ (not_busy_end day sends ≡ Some e)
end_told p day i fleet words r e sends form inside reached is (inl memory) stand = inl memory
end_told p day i fleet words r e sends form inside reached is (inr idle) stand =
    let known = form.known i no_record inside in
    let here : is_idle_free (record_at day i) fleet.word ≡ true =
    ap (λ (x : DayRecord). is_idle_free x fleet.word) (sym is) ∙ idle.1 in
    inr (ap (not_busy_end day) (only_sends p day sends form.rising stand)
    ∙ ap (λ o. option_map end.NotBusy (option_map (λ (x : DayRecord). x.at) o)) (first_idle p day i fleet words form inside reached known here)
    ∙ ap (λ (x : DayRecord). Some (end.NotBusy x.at)) (sym is) ∙ ap Some (sym idle.0))

-- a day that is
pub none_told : (p : PlanParts) (day : List DayRecord) (fleet : Fleet) (words : List ℕ) (sends : List Send) → IsDayOf p day
    → IsFleetOf p day fleet words → StandsForDay p day sends → not_busy_end day sends ≡ None
none_told p day fleet words sends form is stand =
    ap (not_busy_end day)
    (only_sends p day sends form.rising stand ∙ sym (only_sends p day (sends_of fleet.answers) form.rising is.stand))
    ∙ is.none_free

-- the unit that is sent is one of the plan
pub first_small : (p : PlanParts) (lists : GroupLists) (atom who word : ℕ) (o : Option ℕ) → IsAccepted p → lists ≡ p.lists
    → atom ≡ who → who < atoms p → o ≡ first_free lists atom word → IfSome o (λ unit. unit < 16)
first_small p lists atom who word None accepted same is lt found = tt
first_small p lists atom who word (Some u) accepted same is lt found =
    let there : first_free p.lists who word ≡ Some u =
    ap (λ a. first_free p.lists a word) (sym is) ∙ ap (λ ls. first_free ls atom word) (sym same) ∙ sym found in
    let small = found_holds (λ n. n < units p) (is_free word) (list_of p.lists who) u (members_within p who accepted lt) there in
    omega (arith, small, accepted.units.number.high)
