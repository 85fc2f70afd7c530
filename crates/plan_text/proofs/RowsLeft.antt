-- The rows that a reader of a text still gives.
use Rattle.std.proofs.Common.{◌≡◌, ◌∙◌, ◌<◌, ℕ, zero, suc, ◌+◌, Bor, true, false, List, [], ◌∷◌, length, map, drop, Some, None, refl, sym, ap, inl, arith}
use Rattle.std.specs.Prelude.{Option, slice_index_or}
use Rattle.csv.specs.Machine.{Read, ends_at_end, next_record}
use Rattle.csv.specs.Reading.{ReadRecord, Reached, Ready, default_config, records_from, records_next, source_of}
use Rattle.csv.specs.declared.parser.Config.{Config}
use Rattle.csv.specs.declared.parser.State.{State}
use Rattle.csv.specs.declared.reader.Reader.{Reader}
use Rattle.csv.specs.declared.reader.Trim.TheVariants as trim
use Rattle.csv.proofs.ReadFacts.{rows-end, rows-more}
use Rattle.plan_text.specs.Rows.{Fields, clean_row}
use Rattle.plan_text.proofs.WholeReading.{next_record-leaves, next_record-takes}

-- any number of records above that of the bytes is enough
records_from-enough : (cfg : Config) (n m : ℕ) (s : State) (xs : List ℕ) → ends_at_end s ≡ false → length xs < n → length xs < m
    → records_from cfg n s xs ≡ records_from cfg m s xs
unfolding records_from
records_from-enough cfg zero m s xs between less also = absurd (omega arith)
records_from-enough cfg (suc n) zero s xs between less also = absurd (omega arith)
records_from-enough cfg (suc n) (suc m) s xs between less also =
    by (next_record cfg s [] [] xs) (λ p found.
    let left = next_record-leaves cfg s [] [] xs p found in
    let fewer = next_record-takes cfg s xs p between found in
    records_from-enough cfg n m p.1 p.2 left.between (omega arith) (omega arith))
  where
    by : (read : Option Read) → ((p : Read) → read ≡ Some p → records_from cfg n p.1 p.2 ≡ records_from cfg m p.1 p.2)
        → records_next (records_from cfg n) read ≡ records_next (records_from cfg m) read
    by None rest = refl
    by (Some p) rest = ap (λ (rows : List Fields). p.0 ∷ rows) (rest p refl)

-- the records from a state on
abbrev pub records_left : State → List ℕ → List Fields
records_left s xs = records_from default_config (length xs + 1) s xs

-- one record more
records_left-more : (s s2 : State) (xs ys : List ℕ) (fields : Fields) → ends_at_end s ≡ false
    → Reached default_config s xs (fields ∷ []) s2 ys
    → (ends_at_end s2 ≡ false) × (records_left s xs ≡ fields ∷ records_left s2 ys)
unfolding Reached records_from
records_left-more s s2 xs ys fields between h =
    let (p, found, is, after) = h in
    let left = next_record-leaves default_config s [] [] xs p found in
    let fewer = next_record-takes default_config s xs p between found in
    let one : length xs + 1 ≡ suc (length xs) = omega arith in
    let same : records_from default_config (length xs) p.1 p.2 ≡ records_left p.1 p.2 =
    records_from-enough default_config (length xs) (length p.2 + 1) p.1 p.2 left.between fewer (omega arith) in
    (rw after.0 at left.between, rw (one, found, is, sym after.0, sym after.1) (ap (λ (rows : List Fields). p.0 ∷ rows) same))

-- no further record
records_left-none : (s : State) (xs : List ℕ) → next_record default_config s [] [] xs ≡ None → records_left s xs ≡ []
unfolding records_from
records_left-none s xs none =
    let one : length xs + 1 ≡ suc (length xs) = omega arith in
    rw (one, none) refl

-- a reader of bytes in memory that still gives these rows
pub record GivesRows (reader : Reader (Bor (List ℕ))) (rows : List Fields) : Type 0 where
  pub trim : reader.trim ≡ trim.None
  pub ready : Ready reader
  pub config : reader.config ≡ default_config
  pub between : ends_at_end reader.state ≡ false
  pub bytes : List ℕ
  pub source : source_of (λ (s : Bor (List ℕ)). Some s.now) reader ≡ Some bytes
  pub left : map clean_row (records_left reader.state bytes) ≡ rows

-- what stands at a place, if the list from there on begins with it
at_drop : (rows : List Fields) (n : ℕ) (row : Fields) (rest : List Fields) → drop n rows ≡ row ∷ rest
    → (n < length rows) × (row ≡ slice_index_or rows n []) × (rest ≡ drop (n + 1) rows)
at_drop [] zero row rest h = absurd (cc)
at_drop [] (suc n) row rest h = absurd (cc)
at_drop (x ∷ xs) zero row rest h = (omega arith, cc, cc)
at_drop (x ∷ xs) (suc n) row rest h =
    let (lt, first, others) = at_drop xs n row rest h in
    let next : suc n + 1 ≡ suc (n + 1) = omega arith in
    (omega arith, first, rw next others)

-- a reader that gave a record has given the row at its place
pub gives-more : (old new : Reader (Bor (List ℕ))) (fields : Fields) (rows : List Fields) (n : ℕ) → GivesRows old (drop n rows)
    → ReadRecord (λ (s : Bor (List ℕ)). Some s.now) old new true fields → new.first ≡ true
    → (n < length rows) × (clean_row fields ≡ slice_index_or rows n []) × GivesRows new (drop (n + 1) rows)
unfolding Reached
gives-more old new fields rows n gives read first =
    let (ys, source, reached) = rows-more (λ (s : Bor (List ℕ)). Some s.now) old new fields default_config old.state gives.bytes gives.bytes [] gives.config gives.source (refl, refl) read in
    let (between, more) = records_left-more old.state new.state gives.bytes ys fields gives.between reached in
    let (lt, row, rest) = at_drop rows n (clean_row fields) (map clean_row (records_left new.state ys)) (sym gives.left ∙ ap (map clean_row) more) in (
      lt,
      row,
      record {
        trim = read.3 ∙ gives.trim;
        ready = inl first;
        config = read.2 ∙ gives.config;
        between = between;
        bytes = ys;
        source = source;
        left = rest;
      },
    )

-- a reader that gave none has given all
pub gives-none : (old new : Reader (Bor (List ℕ))) (fields : Fields) (rows : List Fields) → GivesRows old rows
    → ReadRecord (λ (s : Bor (List ℕ)). Some s.now) old new false fields → rows ≡ []
gives-none old new fields rows gives read =
    let none = rows-end (λ (s : Bor (List ℕ)). Some s.now) old new fields default_config gives.bytes gives.config gives.source read in
    sym gives.left ∙ ap (map clean_row) (records_left-none old.state gives.bytes none)
