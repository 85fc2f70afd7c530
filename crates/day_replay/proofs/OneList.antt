-- The rules of sending give one list of sends for each day, since each looks only at earlier records and sends.
use Rattle.std.proofs.Common.{◌≡◌, ◌∙◌, ℕ, zero, suc, ◌+◌, ◌<◌, ◌≤◌, Bool, true, false, not, ◌&&◌, ◌||◌, eqb, List, [], ◌∷◌, ◌++◌, length, map, refl, sym, ap, arith, append_assoc, append-nil}
use Rattle.std.specs.Prelude.{All, AllPairs, Option, Some, None, if◌then◌else◌, nat_lt, find, count_by, slice_index_or}
use Rattle.std.specs.List.{flat_map, list_any}
use Rattle.std.specs.Option.{option_to_list}
use Rattle.std.proofs.lemmas.Bool.Decides.{nat_tests}
use Rattle.std.proofs.lemmas.Grind.{flat_map-append}
use Rattle.std.proofs.lemmas.List.Elements.{All-append, All-cons, All-head, All-nil, All-tail, All-weaker}
use Rattle.std.proofs.lemmas.List.Folds.{list_any-append, list_any_none}
use Rattle.std.proofs.lemmas.List.Sums.{sum_by-append}
use Rattle.hyper_model.specs.Groups.{list_of}
use Rattle.hyper_model.specs.declared.kinds.Line.{Line}
use Rattle.hyper_model.specs.declared.kinds.Line.TheVariants as line
use Rattle.hyper_model.specs.declared.parts.PlanParts.{PlanParts}
use Rattle.day_replay.specs.Sends.{HasSends, StandsForDay, first_free_before, frees_before, is_answered_before, is_busy_before, send, sends_at, sends_at_call, sends_at_free, sends_before, waits_before}
use Rattle.day_replay.specs.declared.day_list.DayRecord.{DayRecord}
use Rattle.day_replay.specs.declared.played_list.Send.{Send}
use Rattle.day_replay.proofs.Agreement.{find_same, flat_same, count_none}

-- sends that stand at records from this number on
abbrev pub StandFrom : ℕ → List Send → Type 0
StandFrom at sends = All (λ s. at ≤ s.at) sends

not_earlier : (at number : ℕ) → at ≤ number → nat_lt number at ≡ false
not_earlier at number le = grind (arith, nat_tests)

-- what a record sees of sends: not those at it or later
pub sends_unseen : (sends later : List Send) (at n : ℕ) → StandFrom at later
    → sends_before (sends ++ later) at n ≡ sends_before sends at n
sends_unseen sends later at n from_here =
    let none : sends_before later at n ≡ 0 =
    count_none (λ (s : Send). nat_lt s.at at && eqb s.unit n) later
    (All-weaker (λ (s : Send). at ≤ s.at) (λ (s : Send). (nat_lt s.at at && eqb s.unit n) ≡ false)
    (λ s le. ap (λ b. b && eqb s.unit n) (not_earlier at s.at le)) later from_here) in
    omega (arith, none, sum_by-append (λ (s : Send). if (nat_lt s.at at && eqb s.unit n) then 1 else 0) sends later)

pub busy_unseen : (day : List DayRecord) (sends later : List Send) (at n : ℕ) → StandFrom at later
    → is_busy_before day (sends ++ later) at n ≡ is_busy_before day sends at n
busy_unseen day sends later at n from_here = ap (nat_lt (frees_before day at n)) (sends_unseen sends later at n from_here)

pub answered_unseen : (sends later : List Send) (at : ℕ) (call : DayRecord) → StandFrom at later
    → is_answered_before (sends ++ later) at call ≡ is_answered_before sends at call
answered_unseen sends later at call from_here =
    let test = λ (s : Send). nat_lt s.at at && eqb s.call call.at in
    let none : list_any test later ≡ false =
    list_any_none test later
    (All-weaker (λ (s : Send). at ≤ s.at) (λ (s : Send). test s ≡ false)
    (λ s le. ap (λ b. b && eqb s.call call.at) (not_earlier at s.at le)) later from_here) in
    list_any-append test sends later ∙ ap (λ b. list_any test sends || b) none ∙ or_false (list_any test sends)
  where
    or_false : (b : Bool) → (b || false) ≡ b
    or_false true = refl
    or_false false = refl

waits_unseen : (sends later : List Send) (at : ℕ) (r : DayRecord) → StandFrom at later
    → waits_before (sends ++ later) at r ≡ waits_before sends at r
waits_unseen sends later at r from_here =
    ap (λ b. not r.free && (nat_lt r.at at && not b)) (answered_unseen sends later at r from_here)

call_unseen : (p : PlanParts) (day : List DayRecord) (sends later : List Send) (r : DayRecord) → StandFrom r.at later
    → sends_at_call p day (sends ++ later) r ≡ sends_at_call p day sends r
call_unseen p day sends later r from_here =
    ap (λ o. map (send r.at r.at) (option_to_list o))
    (find_same (λ n. not (is_busy_before day (sends ++ later) r.at n)) (λ n. not (is_busy_before day sends r.at n))
    (list_of p.lists r.who) (λ k d lt. ap not (busy_unseen day sends later r.at (slice_index_or (list_of p.lists r.who) k d) from_here)))

free_unseen : (l : Line) (day : List DayRecord) (sends later : List Send) (r : DayRecord) → StandFrom r.at later
    → sends_at_free l day (sends ++ later) r ≡ sends_at_free l day sends r
free_unseen line.Zero day sends later r from_here = refl
free_unseen line.Infinite day sends later r from_here =
    ap (λ o. map (λ (call : DayRecord). send r.at call.at r.who) (option_to_list o))
    (find_same (waits_before (sends ++ later) r.at) (waits_before sends r.at) day
    (λ k d lt. waits_unseen sends later r.at (slice_index_or day k d) from_here))

-- so the sends that stand at a record are the same without those at it and later
pub unseen : (p : PlanParts) (day : List DayRecord) (sends later : List Send) (r : DayRecord) → StandFrom r.at later
    → sends_at p day (sends ++ later) r ≡ sends_at p day sends r
unseen p day sends later r from_here =
    ap (λ b. if r.free then (if b then sends_at_free p.line day (sends ++ later) r else []) else sends_at_call p day (sends ++ later) r)
    (busy_unseen day sends later r.at r.who from_here)
    ∙ ap (λ ss. if r.free then (if is_busy_before day sends r.at r.who then ss else []) else sends_at_call p day (sends ++ later) r)
    (free_unseen p.line day sends later r from_here)
    ∙ ap (λ ss. if r.free then (if is_busy_before day sends r.at r.who then sends_at_free p.line day sends r else []) else ss)
    (call_unseen p day sends later r from_here)

-- each of them stands at the record
at_record : {A : Type 0} (at : ℕ) (f : A → Send) → ((x : A) → (f x).at ≡ at) → (o : Option A)
    → All (λ s. s.at ≡ at) (map f (option_to_list o))
at_record at f is None = All-nil (λ (s : Send). s.at ≡ at)
at_record at f is (Some x) = All-cons (λ (s : Send). s.at ≡ at) (f x) [] (is x) (All-nil (λ (s : Send). s.at ≡ at))

freed_stand : (l : Line) (day : List DayRecord) (sends : List Send) (r : DayRecord)
    → All (λ s. s.at ≡ r.at) (sends_at_free l day sends r)
freed_stand line.Zero day sends r = All-nil (λ (s : Send). s.at ≡ r.at)
freed_stand line.Infinite day sends r =
    at_record r.at (λ (call : DayRecord). send r.at call.at r.who) (λ call. refl) (find (waits_before sends r.at) day)

pub stand_at : (p : PlanParts) (day : List DayRecord) (sends : List Send) (r : DayRecord)
    → All (λ s. s.at ≡ r.at) (sends_at p day sends r)
stand_at p day sends r = by r.free (is_busy_before day sends r.at r.who)
  where
    by : (free busy : Bool) → All (λ s. s.at ≡ r.at)
        (if free then (if busy then sends_at_free p.line day sends r else []) else sends_at_call p day sends r)
    by true true = freed_stand p.line day sends r
    by true false = All-nil (λ (s : Send). s.at ≡ r.at)
    by false busy = at_record r.at (send r.at r.at) (λ n. refl) (first_free_before p day sends r.at r.who)

-- records whose numbers rise from this one on
pub RisesFrom : ℕ → List DayRecord → Type 0
RisesFrom at [] = Unit {0}
RisesFrom at (r ∷ rs) = (at ≤ r.at) × RisesFrom (r.at + 1) rs

pub rises : (at : ℕ) (day : List DayRecord) → AllPairs (λ earlier later. earlier.at < later.at) day
    → All (λ r. at ≤ r.at) day → RisesFrom at day
unfolding RisesFrom
rises at [] rising from_here = tt
rises at (r ∷ rs) rising from_here = (
  All-head (λ (x : DayRecord). at ≤ x.at) r rs from_here,
  rises (r.at + 1) rs (λ i j d lt within. rising (suc i) (suc j) d (omega arith) (omega arith))
      (λ k d lt. let h : r.at < (slice_index_or rs k d).at = rising 0 (suc k) d (omega arith) (omega arith) in omega (arith, h)),
)

pub all_from : (at : ℕ) (day : List DayRecord) → RisesFrom at day → All (λ r. at ≤ r.at) day
unfolding RisesFrom
all_from at [] rising = All-nil (λ (r : DayRecord). at ≤ r.at)
all_from at (r ∷ rs) rising =
    All-cons (λ (x : DayRecord). at ≤ x.at) r rs rising.0
    (All-weaker (λ (x : DayRecord). r.at + 1 ≤ x.at) (λ (x : DayRecord). at ≤ x.at) (λ x le. omega (arith, le, rising.0)) rs
    (all_from (r.at + 1) rs rising.1))

-- the sends at records from a number on stand there
pub stand_from : (p : PlanParts) (day : List DayRecord) (sends : List Send) (at : ℕ) (rest : List DayRecord)
    → All (λ r. at ≤ r.at) rest → StandFrom at (flat_map (sends_at p day sends) rest)
stand_from p day sends at [] from_here = All-nil (λ (s : Send). at ≤ s.at)
stand_from p day sends at (r ∷ rs) from_here =
    All-append (λ (s : Send). at ≤ s.at) (sends_at p day sends r) (flat_map (sends_at p day sends) rs)
    (All-weaker (λ (s : Send). s.at ≡ r.at) (λ (s : Send). at ≤ s.at)
    (λ s is. omega (arith, is, All-head (λ (x : DayRecord). at ≤ x.at) r rs from_here)) (sends_at p day sends r) (stand_at p day sends r))
    (stand_from p day sends at rs (All-tail (λ (x : DayRecord). at ≤ x.at) r rs from_here))

-- the sends of the records that are left, after those before them
pub sends_from : PlanParts → List DayRecord → List Send → List DayRecord → List Send
sends_from p day sends [] = sends
sends_from p day sends (r ∷ rs) = sends_from p day (sends ++ sends_at p day sends r) rs

abbrev pub all_sends : PlanParts → List DayRecord → List Send
all_sends p day = sends_from p day [] day

-- one record more
stands-more : (p : PlanParts) (day done : List DayRecord) (r : DayRecord) (sends : List Send)
    → sends ≡ flat_map (sends_at p day sends) done → All (λ x. x.at < r.at) done
    → (let more = sends ++ sends_at p day sends r in more ≡ flat_map (sends_at p day more) (done ++ r ∷ []))
stands-more p day done r sends stand earlier =
    let here = sends_at p day sends r in
    let at_here = stand_at p day sends r in
    let before : flat_map (sends_at p day (sends ++ here)) done ≡ flat_map (sends_at p day sends) done =
    flat_same (sends_at p day (sends ++ here)) (sends_at p day sends) done
    (All-weaker (λ (x : DayRecord). x.at < r.at) (λ (x : DayRecord). sends_at p day (sends ++ here) x ≡ sends_at p day sends x)
    (λ x lt. unseen p day sends here x
    (All-weaker (λ (s : Send). s.at ≡ r.at) (λ (s : Send). x.at ≤ s.at) (λ s is. omega (arith, is, lt)) here at_here)) done earlier) in
    let now : sends_at p day (sends ++ here) r ≡ here =
    unseen p day sends here r
    (All-weaker (λ (s : Send). s.at ≡ r.at) (λ (s : Send). r.at ≤ s.at) (λ s is. omega (arith, is)) here at_here) in
    ap (λ ss. ss ++ here) (stand ∙ sym before)
    ∙ ap (λ ss. flat_map (sends_at p day (sends ++ here)) done ++ ss) (sym now ∙ sym (append-nil (sends_at p day (sends ++ here) r)))
    ∙ sym (flat_map-append (sends_at p day (sends ++ here)) done (r ∷ []))

pub stands_from : (p : PlanParts) (day done rest : List DayRecord) (sends : List Send) (at : ℕ)
    → sends ≡ flat_map (sends_at p day sends) done → All (λ x. x.at < at) done → RisesFrom at rest
    → sends_from p day sends rest ≡ flat_map (sends_at p day (sends_from p day sends rest)) (done ++ rest)
unfolding sends_from RisesFrom
stands_from p day done [] sends at stand earlier rising = rw (append-nil done) stand
stands_from p day done (r ∷ rs) sends at stand earlier rising =
    let before : All (λ (x : DayRecord). x.at < r.at) done =
    All-weaker (λ (x : DayRecord). x.at < at) (λ (x : DayRecord). x.at < r.at) (λ x lt. omega (arith, lt, rising.0)) done earlier in
    let through : All (λ (x : DayRecord). x.at < r.at + 1) (done ++ r ∷ []) =
    All-append (λ (x : DayRecord). x.at < r.at + 1) done (r ∷ [])
    (All-weaker (λ (x : DayRecord). x.at < r.at) (λ (x : DayRecord). x.at < r.at + 1) (λ x lt. omega (arith, lt)) done before)
    (All-cons (λ (x : DayRecord). x.at < r.at + 1) r [] (omega arith) (All-nil (λ (x : DayRecord). x.at < r.at + 1))) in
    rw append_assoc at
    (stands_from p day (done ++ r ∷ []) rs (sends ++ sends_at p day sends r) (r.at + 1) (stands-more p day done r sends stand before)
    through rising.1)

-- what stands for the day begins with the sends of the first records
pub begins-more : (p : PlanParts) (day : List DayRecord) (r : DayRecord) (rs : List DayRecord) (before sends : List Send)
    → All (λ x. r.at ≤ x.at) (r ∷ rs) → sends ≡ before ++ flat_map (sends_at p day sends) (r ∷ rs)
    → sends_at p day sends r ≡ sends_at p day before r
begins-more p day r rs before sends from_here begins =
    ap (λ ss. sends_at p day ss r) begins
    ∙ unseen p day before (flat_map (sends_at p day sends) (r ∷ rs)) r (stand_from p day sends r.at (r ∷ rs) from_here)

alone_from : (p : PlanParts) (day rest : List DayRecord) (before sends : List Send) (at : ℕ) → RisesFrom at rest
    → sends ≡ before ++ flat_map (sends_at p day sends) rest → sends ≡ sends_from p day before rest
unfolding sends_from RisesFrom
alone_from p day [] before sends at rising begins = begins ∙ append-nil before
alone_from p day (r ∷ rs) before sends at rising begins =
    let same = begins-more p day r rs before sends (all_from r.at (r ∷ rs) (omega arith, rising.1)) begins in
    alone_from p day rs (before ++ sends_at p day before r) sends (r.at + 1) rising.1
    (begins ∙ ap (λ ss. before ++ (ss ++ flat_map (sends_at p day sends) rs)) same
    ∙ sym (append_assoc before (sends_at p day before r) (flat_map (sends_at p day sends) rs)))

all_rise : (day : List DayRecord) → AllPairs (λ earlier later. earlier.at < later.at) day → RisesFrom 0 day
all_rise day rising = rises 0 day rising (λ k d lt. omega arith)

-- it is the only list
pub only_sends : (p : PlanParts) (day : List DayRecord) (sends : List Send)
    → AllPairs (λ earlier later. earlier.at < later.at) day → StandsForDay p day sends → sends ≡ all_sends p day
only_sends p day sends rising stand = alone_from p day day [] sends 0 (all_rise day rising) stand

pub all_stand : (p : PlanParts) (day : List DayRecord) → AllPairs (λ earlier later. earlier.at < later.at) day
    → StandsForDay p day (all_sends p day)
all_stand p day rising = stands_from p day [] day [] 0 refl (All-nil (λ (x : DayRecord). x.at < 0)) (all_rise day rising)

pub has_sends : (p : PlanParts) (day : List DayRecord) → AllPairs (λ earlier later. earlier.at < later.at) day → HasSends p day
has_sends p day rising = record { sends = all_sends p day; stand = all_stand p day rising }
