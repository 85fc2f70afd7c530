-- The records that rows say, row by row, and that they are a day of the plan.
use Rattle.std.proofs.Common.{◌≡◌, ◌∙◌, ℕ, zero, suc, ◌+◌, ◌<◌, ◌≤◌, Bool, true, false, ◌&&◌, ◌||◌, eqb, List, [], ◌∷◌, ◌++◌, length, take, refl, sym, ap, drop, arith}
use Rattle.std.specs.Prelude.{All, AllPairs, Option, Some, None, Result, Ok, Err, if◌then◌else◌, is_ok, is_some, nat_lt, option_and_then, max, slice_index_or, unwrap_or}
use Rattle.std.specs.List.{filter_map, range_with_len}
use Rattle.std.specs.Option.{option_map, option_or, option_to_list}
use Rattle.std.specs.Result.{result_ok}
use Rattle.std.specs.Str.{bytes_eq}
use Rattle.std.proofs.lemmas.Bool.Decides.{nat_tests}
use Rattle.std.proofs.lemmas.List.{append-nil, length-drop, length-map, length-take-le, map-id, take_more}
use Rattle.std.proofs.lemmas.List.Elements.{All-nil, All-push, All-weaker}
use Rattle.std.proofs.lemmas.List.FromFn.{map-range_with_len_more}
use Rattle.std.proofs.lemmas.List.Quantifiers.{all_pairs_push, position-Some}
use Rattle.hyper_model.specs.Plans.{atoms, units}
use Rattle.hyper_model.specs.declared.parts.Atom.{Atom}
use Rattle.hyper_model.specs.declared.parts.PlanParts.{PlanParts}
use Rattle.hyper_model.specs.declared.parts.Unit as declared_unit
use Rattle.atom_table.specs.Names.{place_of}
use Rattle.plan_text.specs.Fields.{field, name_in, number_at}
use Rattle.plan_text.specs.Kinds.{is_passed_over}
use Rattle.plan_text.specs.Rows.{Fields}
use Rattle.plan_text.specs.Steps.{first_over}
use Rattle.plan_text.specs.declared.TheConstants.{MOST_RECORDS}
use Rattle.plan_text.specs.declared.refusal.TextRefusal.{TextRefusal}
use Rattle.plan_text.proofs.InForm.{number_at-between}
use Rattle.plan_text.proofs.Over.{filter_map-push}
use Rattle.day_replay.specs.DayRows.{FleetNames, has_form, is_call_row, is_free_row, latest_in, name_refusal, names_of, numbered_refusal, form_refusal, order_refusal, place_named, record_in, record_of, row_refusal, said_record, second_in, second_of, who_in}
use Rattle.day_replay.specs.Days.{IsDayOf, IsKnown}
use Rattle.day_replay.specs.declared.TheConstants.{MOST_SECOND}
use Rattle.day_replay.specs.declared.day_list.DayRecord.{DayRecord}
use Rattle.day_replay.specs.declared.day_refusal.DayRefusal.{DayRefusal}
use Rattle.day_replay.specs.declared.day_refusal.DayRefusal.TheVariants as refusal

-- the refusal of the row at a place
pub row_at : (names : FleetNames) (rows : List Fields) (n latest : ℕ) (row : Fields) → n < length rows
    → latest ≡ latest_in (take n rows) → row ≡ slice_index_or rows n []
    → row_refusal names (take n rows) (slice_index_or rows n []) ≡ numbered_refusal names latest (n + 1) row
row_at names rows n latest row lt e is =
    let size : length (take n rows) ≡ n = length-take-le n rows (omega arith) in
    rw (size, e, is) refl

range_next : (n : ℕ) → range_with_len 0 (n + 1) ≡ range_with_len 0 n ++ n ∷ []
range_next n =
    sym (map-id (range_with_len 0 (n + 1))) ∙ map-range_with_len_more (λ (k : ℕ). k) 0 n n (omega arith)
    ∙ ap (λ ks. ks ++ n ∷ []) (map-id (range_with_len 0 n))

-- the records of one row more
pub records_more : (names : FleetNames) (rows : List Fields) (n : ℕ) (row : Fields) → row ≡ slice_index_or rows n []
    → filter_map (record_in names rows) (range_with_len 0 (n + 1))
    ≡ filter_map (record_in names rows) (range_with_len 0 n) ++ option_to_list (record_of names (n + 1) row)
records_more names rows n row is =
    ap (filter_map (record_in names rows)) (range_next n)
    ∙ filter_map-push (record_in names rows) (range_with_len 0 n) n
    ∙ ap (λ x. filter_map (record_in names rows) (range_with_len 0 n) ++ option_to_list (record_of names (n + 1) x)) (sym is)

latest-push : (rows : List Fields) (row : Fields)
    → latest_in (rows ++ row ∷ []) ≡ (if is_passed_over row then latest_in rows else max (second_of row) (latest_in rows))
latest-push [] row = refl
latest-push (x ∷ rows) row =
    ap (λ n. if is_passed_over x then n else max (second_of x) n) (latest-push rows row)
    ∙ swapped (is_passed_over x) (is_passed_over row) (second_of x) (second_of row) (latest_in rows)
  where
    swapped : (a b : Bool) (m n l : ℕ) → (if a then (if b then l else max n l) else max m (if b then l else max n l))
        ≡ (if b then (if a then l else max m l) else max n (if a then l else max m l))
    swapped true true m n l = refl
    swapped true false m n l = refl
    swapped false true m n l = refl
    swapped false false m n l = omega arith

none_both : {E : Type 0} (a b : Option E) → option_or a b ≡ None → (a ≡ None) × (b ≡ None)
none_both None b h = (refl, h)
none_both (Some e) b h = absurd (cc)

-- a row that says a record is not refused
record Passes (names : FleetNames) (latest : ℕ) (row : Fields) : Type 0 where
  formed : has_form row ≡ true
  named : is_some (who_in names row) ≡ true
  timely : nat_lt (second_of row) latest ≡ false

passes : (names : FleetNames) (latest number : ℕ) (row : Fields) → number ≤ MOST_RECORDS → is_passed_over row ≡ false
    → numbered_refusal names latest number row ≡ None → Passes names latest row
passes names latest number row few kept none =
    let early : nat_lt MOST_RECORDS number ≡ false = grind (arith, nat_tests) in
    let rest = rw (early, kept) at none in
    let (first, order) = none_both (option_or (form_refusal number row) (name_refusal names number row)) (order_refusal latest number row) rest in
    let (form, name) = none_both (form_refusal number row) (name_refusal names number row) first in
    record {
      formed = is_true (has_form row) (refusal.DayRecord number) form;
      named = is_true (is_some (who_in names row)) (refusal.DayName number) name;
      timely = is_false (nat_lt (second_of row) latest) (refusal.DayOrder number) order;
    }
  where
    is_true : (b : Bool) (e : DayRefusal) → (if b then None else Some e) ≡ None → b ≡ true
    is_true true e h = refl
    is_true false e h = absurd (cc)

    is_false : (b : Bool) (e : DayRefusal) → (if b then Some e else None) ≡ None → b ≡ false
    is_false true e h = absurd (cc)
    is_false false e h = refl

-- the second of such a row is in range
second_small : (row : Fields) → has_form row ≡ true → second_of row ≤ MOST_SECOND
second_small row formed = by (second_in row) refl (third (is_call_row row) (is_free_row row) (eqb (length row) 3) (is_ok (second_in row)) formed)
  where
    third : (a b c d : Bool) → ((a || b) && c && d) ≡ true → d ≡ true
    third a b c true h = refl
    third true b true false h = absurd (cc)
    third true b false false h = absurd (cc)
    third false true true false h = absurd (cc)
    third false true false false h = absurd (cc)
    third false false c false h = absurd (cc)

    by : (said : Result ℕ TextRefusal) → second_in row ≡ said → is_ok said ≡ true → unwrap_or (result_ok said) 0 ≤ MOST_SECOND
    by (Ok n) is ok = (number_at-between 0 MOST_SECOND 0 row 1 n is).high
    by (Err e) is ok = absurd (cc)

-- and its unit or atom is one of the plan
who_small : (names : FleetNames) (row : Fields) → is_some (who_in names row) ≡ true
    → unwrap_or (who_in names row) 0 < length (if is_free_row row then names.units else names.atoms)
who_small names row named = by (name_in (field row 2)) named
  where
    list : List (List ℕ)
    list = if is_free_row row then names.units else names.atoms

    at : (name : List ℕ) (o : Option ℕ) → place_of list name ≡ o → is_some o ≡ true → unwrap_or o 0 < length list
    at name None is some = absurd (cc)
    at name (Some k) is some = (position-Some (bytes_eq name) list k [] is).0

    by : (o : Option (List ℕ)) → is_some (option_and_then (place_of list) o) ≡ true
        → unwrap_or (option_and_then (place_of list) o) 0 < length list
    by None some = absurd (cc)
    by (Some name) some = at name (place_of list name) refl some

-- the records of the first rows
pub record IsFormed (names : FleetNames) (day : List DayRecord) (number latest : ℕ) : Type 0 where
  pub known : All (λ r. r.who < length (if r.free then names.units else names.atoms)) day
  pub rising : AllPairs (λ earlier later. earlier.at < later.at) day
  pub numbers : All (λ r. r.at ≤ number) day
  pub ordered : AllPairs (λ earlier later. earlier.second ≤ later.second) day
  pub seconds : All (λ r. r.second ≤ latest) day
  pub late : latest ≤ MOST_SECOND

pub none_formed : (names : FleetNames) → IsFormed names [] 0 0
none_formed names = record {
  known = λ k d lt. absurd (omega arith);
  rising = λ i j d less lt. absurd (omega arith);
  numbers = λ k d lt. absurd (omega arith);
  ordered = λ i j d less lt. absurd (omega arith);
  seconds = λ k d lt. absurd (omega arith);
  late = omega arith;
}

-- one row more: the latest second, and the records
pub record Follows (names : FleetNames) (rows : List Fields) (n after : ℕ) (day : List DayRecord) : Type 0 where
  pub latest : after ≡ latest_in (take (n + 1) rows)
  pub formed : IsFormed names day (n + 1) after

pub row_follows : (names : FleetNames) (rows : List Fields) (n latest : ℕ) (row : Fields) (day : List DayRecord)
    (read : Option DayRecord) → n < length rows → n + 1 ≤ MOST_RECORDS → latest ≡ latest_in (take n rows)
    → row ≡ slice_index_or rows n [] → numbered_refusal names latest (n + 1) row ≡ None → read ≡ record_of names (n + 1) row
    → IsFormed names day n latest
    → Follows names rows n (unwrap_or (option_map (λ (r : DayRecord). r.second) read) latest) (day ++ option_to_list read)
row_follows names rows n latest row day read lt few late is none said formed = by (is_passed_over row) refl
  where
    pushed : latest_in (take (n + 1) rows) ≡ (if is_passed_over row then latest_in (take n rows) else max (second_of row) (latest_in (take n rows)))
    pushed =
        ap latest_in (take_more rows n [] lt) ∙ latest-push (take n rows) (slice_index_or rows n [])
        ∙ ap (λ x. if is_passed_over x then latest_in (take n rows) else max (second_of x) (latest_in (take n rows))) (sym is)

    by : (passed : Bool) → is_passed_over row ≡ passed
        → Follows names rows n (unwrap_or (option_map (λ (r : DayRecord). r.second) read) latest) (day ++ option_to_list read)
    by true passed =
        let nothing : read ≡ None = said ∙ ap (λ b. if b then None else Some (said_record names (n + 1) row)) passed in
        rw (nothing, append-nil day) (record {
          latest = late ∙ sym (pushed ∙ ap (λ b. if b then latest_in (take n rows) else max (second_of row) (latest_in (take n rows))) passed);
          formed = record {
            known = formed.known;
            rising = formed.rising;
            numbers = All-weaker (λ (r : DayRecord). r.at ≤ n) (λ (r : DayRecord). r.at ≤ n + 1) (λ r le. omega (arith, le)) day formed.numbers;
            ordered = formed.ordered;
            seconds = formed.seconds;
            late = formed.late;
          };
        })
    by false kept =
        let ok = passes names latest (n + 1) row few kept none in
        let r = said_record names (n + 1) row in
        let one : read ≡ Some r = said ∙ ap (λ b. if b then None else Some (said_record names (n + 1) row)) kept in
        let timely : latest ≤ second_of row = grind (arith, nat_tests, ok.timely) in
        let newest : max (second_of row) (latest_in (take n rows)) ≡ second_of row = omega (arith, timely, late) in
        rw one (record {
          latest =
              sym (pushed ∙ ap (λ b. if b then latest_in (take n rows) else max (second_of row) (latest_in (take n rows))) kept ∙ newest);
          formed = record {
            known = All-push (λ (x : DayRecord). x.who < length (if x.free then names.units else names.atoms)) day r formed.known
                (who_small names row ok.named);
            rising = all_pairs_push (λ (x y : DayRecord). x.at < y.at) day r formed.rising
                (λ k d inside. omega (arith, formed.numbers k d inside));
            numbers = All-push (λ (x : DayRecord). x.at ≤ n + 1) day r
                (All-weaker (λ (x : DayRecord). x.at ≤ n) (λ (x : DayRecord). x.at ≤ n + 1) (λ x le. omega (arith, le)) day formed.numbers)
                (omega arith);
            ordered = all_pairs_push (λ (x y : DayRecord). x.second ≤ y.second) day r formed.ordered
                (λ k d inside. omega (arith, formed.seconds k d inside, timely));
            seconds = All-push (λ (x : DayRecord). x.second ≤ second_of row) day r
                (All-weaker (λ (x : DayRecord). x.second ≤ latest) (λ (x : DayRecord). x.second ≤ second_of row)
                (λ x le. omega (arith, le, timely)) day formed.seconds)
                (omega arith);
            late = second_small row ok.formed;
          };
        })

-- they are a day of the plan that has the names
pub day_formed : (p : PlanParts) (names : FleetNames) (day : List DayRecord) (number latest : ℕ) → names ≡ names_of p
    → number ≤ MOST_RECORDS → IsFormed names day number latest → IsDayOf p day
day_formed p names day number latest is few formed = record {
  known = All-weaker (λ (r : DayRecord). r.who < length (if r.free then names.units else names.atoms)) (IsKnown p)
      (λ r lt. known_of r.free r.who (rw is at lt)) day formed.known;
  rising = formed.rising;
  numbers = All-weaker (λ (r : DayRecord). r.at ≤ number) (λ (r : DayRecord). r.at ≤ MOST_RECORDS) (λ r le. omega (arith, le)) day formed.numbers;
  ordered = formed.ordered;
  seconds = All-weaker (λ (r : DayRecord). r.second ≤ latest) (λ (r : DayRecord). r.second ≤ MOST_SECOND)
      (λ r le. omega (arith, le, formed.late)) day formed.seconds;
}
  where
    known_of : (free : Bool) (who : ℕ) → who < length (if free then (names_of p).units else (names_of p).atoms)
        → who < (if free then units p else atoms p)
    known_of true who lt = omega (arith, lt, length-map p.units (λ (unit : declared_unit.Unit). unit.name))
    known_of false who lt = omega (arith, lt, length-map p.atoms (λ (atom : Atom). atom.name))

-- all rows were read
pub rows_done : (names : FleetNames) (rows : List Fields) (n : ℕ) (total : Option DayRefusal) → drop n rows ≡ []
    → first_over (row_refusal names) (take n rows) (drop n rows) ≡ total → total ≡ None
rows_done names rows n total none so_far = sym so_far ∙ ap (first_over (row_refusal names) (take n rows)) none

pub all_read : (rows : List Fields) (n : ℕ) → drop n rows ≡ [] → n ≤ length rows → n ≡ length rows
all_read rows n none within = omega (arith, length-drop n rows, ap length none)
