-- Rows that are read one by one, each after those before it.
use Rattle.std.proofs.Common.{◌≡◌, ◌∙◌, ℕ, zero, suc, ◌+◌, ◌<◌, List, [], ◌∷◌, ◌++◌, length, take, drop, refl, ap, arith, append_assoc}
use Rattle.std.specs.Prelude.{Bool, false, ◌||◌, Option, Result, Ok, Err, IsOk, slice_index_or}
use Rattle.std.specs.Bool.{then_some}
use Rattle.std.specs.List.{list_any}
use Rattle.std.specs.Option.{option_to_list}
use Rattle.std.proofs.lemmas.List.{append-nil, length-take-le, take_more}
use Rattle.std.proofs.lemmas.List.Folds.{list_any-append}
use Rattle.std.proofs.Math.Seq.{drop-cons}
use Rattle.plan_text.specs.First.{IsFirstRefused}
use Rattle.plan_text.specs.Kinds.{says_version, added_version}
use Rattle.plan_text.specs.Reading.{reading_of, records_after, row_reading}
use Rattle.plan_text.specs.Rows.{Fields}
use Rattle.plan_text.specs.Steps.{◌>>=◌}
use Rattle.plan_text.specs.declared.kind.AddedKind.{AddedKind}
use Rattle.plan_text.specs.declared.record.Record.{Record}
use Rattle.plan_text.specs.declared.refusal.TextRefusal.{TextRefusal}
use Rattle.plan_text.proofs.Front.{regroup, with_front}

drop_more : (rows : List Fields) (place : ℕ) → place < length rows
    → drop place rows ≡ slice_index_or rows place [] ∷ drop (place + 1) rows
drop_more rows place lt =
    let next : place + 1 ≡ suc place = omega arith in
    rw next (drop-cons rows place [] lt)

-- whether a row passes the test, after one more row
pub any-more : (test : Fields → Bool) (rows : List Fields) (place : ℕ) → place < length rows
    → list_any test (take (place + 1) rows) ≡ (list_any test (take place rows) || test (slice_index_or rows place []))
any-more test rows place lt =
    ap (list_any test) (take_more rows place [] lt) ∙ list_any-append test (take place rows) (slice_index_or rows place [] ∷ [])
    ∙ or_false (list_any test (take place rows)) (test (slice_index_or rows place []))
  where
    or_false : (a b : Bool) → (a || (b || false)) ≡ (a || b)
    or_false a b = grind arith

-- the reading of the row at a place
pub reading-at : (more : AddedKind) (rows : List Fields) (place : ℕ) (is_added : Bool) (asked : Option AddedKind) (row : Fields) → place < length rows
    → is_added ≡ list_any (says_version (added_version more)) (take place rows) → asked ≡ then_some is_added more
    → row ≡ slice_index_or rows place []
    → row_reading more (take place rows) (slice_index_or rows place []) ≡ reading_of (place + 1) asked row
reading-at more rows place is_added asked row lt e so is =
    let size : length (take place rows) ≡ place = length-take-le place rows (omega arith) in
    rw (size, so, e, is) refl

-- a row more that is read
pub records_after-more : (more : AddedKind) (rows : List Fields) (place : ℕ) (front : List Record) (read : Option Record) → place < length rows
    → row_reading more (take place rows) (slice_index_or rows place []) ≡ Ok read
    → with_front front (records_after more (take place rows) (drop place rows))
    ≡ with_front (front ++ option_to_list read) (records_after more (take (place + 1) rows) (drop (place + 1) rows))
unfolding records_after
records_after-more more rows place front read lt is_read =
    rw (drop_more rows place lt, is_read, take_more rows place [] lt)
    (regroup front (option_to_list read) (records_after more (take place rows ++ slice_index_or rows place [] ∷ []) (drop (place + 1) rows)))

-- a row that is refused
pub records_after-refused : (more : AddedKind) (rows : List Fields) (place : ℕ) (front : List Record) (e : TextRefusal) → place < length rows
    → row_reading more (take place rows) (slice_index_or rows place []) ≡ Err e
    → with_front front (records_after more (take place rows) (drop place rows)) ≡ Err e
unfolding records_after
records_after-refused more rows place front e lt is_read = rw (drop_more rows place lt, is_read) refl

-- after the last row
pub records_after-done : (more : AddedKind) (rows : List Fields) (place : ℕ) (front : List Record) → drop place rows ≡ []
    → with_front front (records_after more (take place rows) (drop place rows)) ≡ Ok front
unfolding records_after
records_after-done more rows place front none = rw (none, append-nil front) refl

-- the first refusal of rows that stand after others
record IsFirstAfter (more : AddedKind) (before rows : List Fields) (place : ℕ) (e : TextRefusal) : Type 0 where
  within : place < length rows
  refused : row_reading more (before ++ take place rows) (slice_index_or rows place []) ≡ Err e
  earlier : (k : ℕ) → k < place → IsOk (row_reading more (before ++ take k rows) (slice_index_or rows k []))

first_after : (more : AddedKind) (before rows : List Fields) (e : TextRefusal) → records_after more before rows ≡ Err e
    → (place : ℕ) × IsFirstAfter more before rows place e
unfolding records_after
first_after more before [] e h = absurd (cc)
first_after more before (row ∷ rows) e h = by (row_reading more before row) refl h (first_after more (before ++ row ∷ []) rows e)
  where
    none : (others : Result (List Record) TextRefusal) (read : Option Record)
        → (others >>= λ found. Ok (option_to_list read ++ found)) ≡ Err e → others ≡ Err e
    none (Ok found) read q = absurd (cc)
    none (Err other) read q = q

    next : (read : Option Record) → row_reading more before row ≡ Ok read
        → (place : ℕ) × IsFirstAfter more (before ++ row ∷ []) rows place e → (place : ℕ) × IsFirstAfter more before (row ∷ rows) place e
    next read ok (place, first) = (
      suc place,
      record {
        within = omega (arith, first.within);
        refused = rw append_assoc at first.refused;
        earlier = at_place read ok place first;
      },
    )
      where
        at_place : (read : Option Record) → row_reading more before row ≡ Ok read → (place : ℕ)
            → IsFirstAfter more (before ++ row ∷ []) rows place e → (k : ℕ) → k < suc place
            → IsOk (row_reading more (before ++ take k (row ∷ rows)) (slice_index_or (row ∷ rows) k []))
        at_place read ok place first zero lt = rw (append-nil before, ok) refl
        at_place read ok place first (suc k) lt = rw append_assoc at (first.earlier k (omega arith))

    by : (given : Result (Option Record) TextRefusal) → row_reading more before row ≡ given
        → (given >>= λ read. records_after more (before ++ row ∷ []) rows >>= λ others. Ok (option_to_list read ++ others)) ≡ Err e
        → (records_after more (before ++ row ∷ []) rows ≡ Err e → (place : ℕ) × IsFirstAfter more (before ++ row ∷ []) rows place e)
        → (place : ℕ) × IsFirstAfter more before (row ∷ rows) place e
    by (Ok read) ok q rest = next read ok (rest (none (records_after more (before ++ row ∷ []) rows) read q))
    by (Err other) refused q rest = (
      0,
      record {
        within = omega arith;
        refused = let is : other ≡ e = cc in rw (append-nil before, refused) (ap Err is);
        earlier = λ k lt. absurd (omega arith);
      },
    )

pub first_refused : (more : AddedKind) (rows : List Fields) (e : TextRefusal) → records_after more [] rows ≡ Err e
    → (place : ℕ) × IsFirstRefused more rows place e
first_refused more rows e h =
    let (place, first) = first_after more [] rows e h in
    (place, record { within = first.within; refused = first.refused; earlier = first.earlier })
