-- What was read is in form.
use Rattle.std.proofs.Common.{◌≡◌, ℕ, zero, suc, ◌+◌, ◌-◌, ◌<◌, ◌≤◌, List, [], ◌∷◌, ◌++◌, length, refl, sym, ap, arith}
use Rattle.std.specs.Prelude.{Bool, true, false, if◌then◌else◌, nat_lt, Option, Some, None, Result, Ok, Err, All, AllPairs}
use Rattle.std.specs.Option.{ok_or, option_and_then, option_to_list}
use Rattle.std.specs.Str.{is_utf8}
use Rattle.std.proofs.lemmas.Bool.Decides.{nat_tests}
use Rattle.std.proofs.lemmas.List.Elements.{All-cons}
use Rattle.std.proofs.lemmas.List.Kept.{AllPairs-cons}
use Rattle.std.proofs.lemmas.List.{length-append}
use Rattle.text_lines.specs.Numbers as digits
use Rattle.hyper_model.specs.Name.{is_name}
use Rattle.hyper_model.specs.Plans.{IsBetween}
use Rattle.plan_text.specs.Fields.{field, is_within, line_at, name_at, name_in, number_at, number_in, rule_at, field_value}
use Rattle.plan_text.specs.Form.{AreNames, HasValues, IsInForm, IsName, at_of, kind_in}
use Rattle.plan_text.specs.Kinds.{has_field_count, is_passed_over, kind_of}
use Rattle.plan_text.specs.Reading.{added_after, atom_of, crews_of, group_of, line_of, located_of, names_at, period_of, prefer_of, reading_of, record_of, record_of_kind, records_after, records_with, row_reading, rule_of, travel_of, unit_of, version_of}
use Rattle.plan_text.specs.Rows.{Fields, rows_of}
use Rattle.plan_text.specs.Steps.{◌>>=◌}
use Rattle.plan_text.specs.declared.TheConstants.{MOST_RECORDS, MOST_TEXT_BYTES}
use Rattle.plan_text.specs.declared.field.TheConstants.{MOST_DIGITS}
use Rattle.plan_text.specs.declared.kind.TheConstants.{MOST_FIELDS}
use Rattle.plan_text.specs.declared.kind.AddedKind.{AddedKind}
use Rattle.plan_text.specs.declared.kind.Kind.{Kind}
use Rattle.plan_text.specs.declared.kind.Kind.TheVariants as kind
use Rattle.plan_text.specs.declared.record.Record.{Record}
use Rattle.plan_text.specs.declared.record.Record.TheVariants as rec
use Rattle.plan_text.specs.declared.refusal.TextRefusal.{TextRefusal}
use Rattle.plan_text.specs.declared.refusal.TextRefusal.TheVariants.{BadName, BadNumber, FieldCount, NotUtf8, TooLong, TooManyRecords}

-- a step that gave something went on from what the step before it gave
pub bind-ok : {A B E : Type 0} (given : Result A E) (next : A → Result B E) (y : B) → (given >>= next) ≡ Ok y
    → (x : A) × (given ≡ Ok x) × (next x ≡ Ok y)
bind-ok (Ok x) next y h = (x, refl, h)
bind-ok (Err e) next y h = absurd (cc)

-- what a field says is what its bytes are as this sort of thing
pub field_value-ok : {A : Type 0} (sort : List ℕ → Option A) (wrong : ℕ → ℕ → TextRefusal) (at : ℕ) (row : Fields) (place : ℕ) (x : A)
    → field_value sort wrong at row place ≡ Ok x → sort (field row place) ≡ Some x
field_value-ok {A} sort wrong at row place x h = by (is_utf8 (field row place)) (sort (field row place)) h
  where
    by : (text : Bool) (o : Option A) → (if text then ok_or o (wrong at (place + 1)) else Err (NotUtf8 at)) ≡ Ok x → o ≡ Some x
    by true (Some y) q = let e : y ≡ x = cc in ap Some e
    by true None q = absurd (cc)
    by false o q = absurd (cc)

within-true : (least most value : ℕ) → is_within least most value ≡ true → IsBetween least most value
within-true least most value h = record { low = grind (arith, nat_tests); high = grind (arith, nat_tests) }

-- a number that a field says is in range
pub number_at-between : (least most at : ℕ) (row : Fields) (place n : ℕ) → number_at least most at row place ≡ Ok n
    → IsBetween least most n
number_at-between least most at row place n h =
    by (digits.number_in MOST_DIGITS (field row place)) (field_value-ok (number_in least most) BadNumber at row place n h)
  where
    inside : (value : ℕ) (test : Bool) → is_within least most value ≡ test → (if test then Some value else None) ≡ Some n
        → IsBetween least most n
    inside value true passed q = let is : value ≡ n = cc in within-true least most n (rw is at passed)
    inside value false failed q = absurd (cc)

    by : (o : Option ℕ) → option_and_then (λ value. if is_within least most value then Some value else None) o ≡ Some n
        → IsBetween least most n
    by (Some value) q = inside value (is_within least most value) refl q
    by None q = absurd (cc)

-- a name that a field says is a name
pub name_at-is : (at : ℕ) (row : Fields) (place : ℕ) (name : List ℕ) → name_at at row place ≡ Ok name → IsName name
name_at-is at row place name h = by (is_name (field row place)) refl (field_value-ok name_in BadName at row place name h)
  where
    by : (test : Bool) → is_name (field row place) ≡ test → (if test then Some (field row place) else None) ≡ Some name → IsName name
    by true passed q = let is : field row place ≡ name = cc in rw is at passed
    by false failed q = absurd (cc)

-- the names that fields say are names, one a field
pub names_at-are : (count at : ℕ) (row : Fields) (place : ℕ) (names : List (List ℕ)) → names_at count at row place ≡ Ok names
    → All IsName names × (length names ≡ count)
unfolding names_at
names_at-are zero at row place names h =
    let is : [] ≡ names = cc in
    rw (sym is) (λ k d lt. absurd (omega arith), refl)
names_at-are (suc count) at row place names h =
    let (name, named, rest) = bind-ok (name_at at row place) _ names h in
    let (others, more, last) = bind-ok (names_at count at row (place + 1)) _ names rest in
    let is : name ∷ others ≡ names = cc in
    let so = names_at-are count at row (place + 1) others more in
    rw (sym is) (All-cons IsName name others (name_at-is at row place name named) so.0, omega (arith, so.1))

-- a record of this kind with its values in range, under the number that was asked for
pub record Fits (k : Kind) (at : ℕ) (r : Record) : Type 0 where
  pub values : HasValues r
  pub number : at_of r ≡ at
  pub sort : kind_in r ≡ k

version_of-fits : (at : ℕ) (row : Fields) (r : Record) → version_of at row ≡ Ok r → Fits kind.Version at r
unfolding version_of
version_of-fits at row r h =
    let (number, read, last) = bind-ok (number_at 0 999999999 at row 1) _ r h in
    let is : rec.Version at number ≡ r = cc in
    rw (sym is) (record { values = (number_at-between 0 999999999 at row 1 number read).high; number = refl; sort = refl })

line_of-fits : (at : ℕ) (row : Fields) (r : Record) → line_of at row ≡ Ok r → Fits kind.Line at r
unfolding line_of
line_of-fits at row r h =
    let (line, read, last) = bind-ok (line_at at row 1) _ r h in
    let is : rec.LineIs at line ≡ r = cc in
    rw (sym is) (record { values = tt; number = refl; sort = refl })

rule_of-fits : (at : ℕ) (row : Fields) (r : Record) → rule_of at row ≡ Ok r → Fits kind.Rule at r
unfolding rule_of
rule_of-fits at row r h =
    let (rule, read, last) = bind-ok (rule_at at row 1) _ r h in
    let is : rec.RuleIs at rule ≡ r = cc in
    rw (sym is) (record { values = tt; number = refl; sort = refl })

period_of-fits : (at : ℕ) (row : Fields) (r : Record) → period_of at row ≡ Ok r → Fits kind.Period at r
unfolding period_of
period_of-fits at row r h =
    let (seconds, read, last) = bind-ok (number_at 1 100000000 at row 1) _ r h in
    let is : rec.Period at seconds ≡ r = cc in
    rw (sym is) (record { values = number_at-between 1 100000000 at row 1 seconds read; number = refl; sort = refl })

unit_of-fits : (at : ℕ) (row : Fields) (r : Record) → unit_of at row ≡ Ok r → Fits kind.Unit at r
unfolding unit_of
unit_of-fits at row r h =
    let (name, named, rest) = bind-ok (name_at at row 1) _ r h in
    let (rate, rated, last) = bind-ok (number_at 1 1000000 at row 2) _ r rest in
    let is : rec.UnitIs at name rate ≡ r = cc in
    rw (sym is) (record {
      values = (name_at-is at row 1 name named, number_at-between 1 1000000 at row 2 rate rated);
      number = refl;
      sort = refl;
    })

atom_of-fits : (at : ℕ) (row : Fields) (r : Record) → atom_of at row ≡ Ok r → Fits kind.Atom at r
unfolding atom_of
atom_of-fits at row r h =
    let (name, named, after_name) = bind-ok (name_at at row 1) _ r h in
    let (rate, rated, after_rate) = bind-ok (number_at 0 1000000 at row 2) _ r after_name in
    let (x, across, after_x) = bind-ok (number_at 0 1000000 at row 3) _ r after_rate in
    let (y, up, after_y) = bind-ok (number_at 0 1000000 at row 4) _ r after_x in
    let (unit, owned, last) = bind-ok (name_at at row 5) _ r after_y in
    let is : rec.AtomIs at name rate x y unit ≡ r = cc in
    rw (sym is) (record {
      values = (
        name_at-is at row 1 name named,
        (number_at-between 0 1000000 at row 2 rate rated).high,
        (number_at-between 0 1000000 at row 3 x across).high,
        (number_at-between 0 1000000 at row 4 y up).high,
        name_at-is at row 5 unit owned,
      );
      number = refl;
      sort = refl;
    })

travel_of-fits : (at : ℕ) (row : Fields) (r : Record) → travel_of at row ≡ Ok r → Fits kind.Travel at r
unfolding travel_of
travel_of-fits at row r h =
    let (origin, first, after_origin) = bind-ok (name_at at row 1) _ r h in
    let (target, second, after_target) = bind-ok (name_at at row 2) _ r after_origin in
    let (seconds, timed, last) = bind-ok (number_at 0 100000 at row 3) _ r after_target in
    let is : rec.Travel at origin target seconds ≡ r = cc in
    rw (sym is) (record {
      values = (
        name_at-is at row 1 origin first,
        name_at-is at row 2 target second,
        (number_at-between 0 100000 at row 3 seconds timed).high,
      );
      number = refl;
      sort = refl;
    })

located_of-fits : (at : ℕ) (row : Fields) (r : Record) → located_of at row ≡ Ok r → Fits kind.Located at r
unfolding located_of
located_of-fits at row r h =
    let (unit, first, after_unit) = bind-ok (name_at at row 1) _ r h in
    let (atom, second, after_atom) = bind-ok (name_at at row 2) _ r after_unit in
    let (thousandths, shared, last) = bind-ok (number_at 1 1000 at row 3) _ r after_atom in
    let is : rec.Located at unit atom thousandths ≡ r = cc in
    rw (sym is) (record {
      values = (
        name_at-is at row 1 unit first,
        name_at-is at row 2 atom second,
        number_at-between 1 1000 at row 3 thousandths shared,
      );
      number = refl;
      sort = refl;
    })

-- the units of a list: as many as there are fields after the atom
units-are : (at : ℕ) (row : Fields) (units : List (List ℕ)) → IsBetween 3 MOST_FIELDS (length row)
    → names_at (length row - 2) at row 2 ≡ Ok units → AreNames units
units-are at row units some h =
    let so = names_at-are (length row - 2) at row 2 units h in
    (so.0, record { low = omega (arith, so.1, some.low, some.high); high = omega (arith, so.1, some.low, some.high) })

prefer_of-fits : (at : ℕ) (row : Fields) (r : Record) → IsBetween 3 MOST_FIELDS (length row) → prefer_of at row ≡ Ok r → Fits kind.Prefer at r
unfolding prefer_of
prefer_of-fits at row r some h =
    let (atom, named, rest) = bind-ok (name_at at row 1) _ r h in
    let (units, listed, last) = bind-ok (names_at (length row - 2) at row 2) _ r rest in
    let is : rec.Prefer at atom units ≡ r = cc in
    rw (sym is) (record { values = (name_at-is at row 1 atom named, units-are at row units some listed); number = refl; sort = refl })

group_of-fits : (at : ℕ) (row : Fields) (r : Record) → IsBetween 3 MOST_FIELDS (length row) → group_of at row ≡ Ok r → Fits kind.Group at r
unfolding group_of
group_of-fits at row r some h =
    let (atom, named, rest) = bind-ok (name_at at row 1) _ r h in
    let (units, listed, last) = bind-ok (names_at (length row - 2) at row 2) _ r rest in
    let is : rec.Group at atom units ≡ r = cc in
    rw (sym is) (record { values = (name_at-is at row 1 atom named, units-are at row units some listed); number = refl; sort = refl })

crews_of-fits : (at : ℕ) (row : Fields) (r : Record) → crews_of at row ≡ Ok r → Fits kind.Crews at r
unfolding crews_of
crews_of-fits at row r h =
    let (unit, named, rest) = bind-ok (name_at at row 1) _ r h in
    let (count, counted, last) = bind-ok (number_at 1 200 at row 2) _ r rest in
    let is : rec.Crews at unit count ≡ r = cc in
    rw (sym is) (record {
      values = (name_at-is at row 1 unit named, number_at-between 1 200 at row 2 count counted);
      number = refl;
      sort = refl;
    })

record_of-fits : (k : Kind) (at : ℕ) (row : Fields) (r : Record) → has_field_count k (length row) ≡ true → record_of k at row ≡ Ok r
    → Fits k at r
record_of-fits kind.Version at row r count h = version_of-fits at row r h
record_of-fits kind.Line at row r count h = line_of-fits at row r h
record_of-fits kind.Rule at row r count h = rule_of-fits at row r h
record_of-fits kind.Period at row r count h = period_of-fits at row r h
record_of-fits kind.Unit at row r count h = unit_of-fits at row r h
record_of-fits kind.Atom at row r count h = atom_of-fits at row r h
record_of-fits kind.Travel at row r count h = travel_of-fits at row r h
record_of-fits kind.Located at row r count h = located_of-fits at row r h
record_of-fits kind.Prefer at row r count h = prefer_of-fits at row r (within-true 3 MOST_FIELDS (length row) count) h
record_of-fits kind.Group at row r count h = group_of-fits at row r (within-true 3 MOST_FIELDS (length row) count) h
record_of-fits kind.Crews at row r count h = crews_of-fits at row r h

-- a record of the kind that a row is of
pub record IsOfKind (found : Option Kind) (at : ℕ) (r : Record) : Type 0 where
  pub kind : Kind
  pub is : found ≡ Some kind
  pub fits : Fits kind at r

record_of_kind-fits : (found : Option Kind) (at : ℕ) (row : Fields) (r : Record) → record_of_kind found at row ≡ Ok r
    → IsOfKind found at r
record_of_kind-fits None at row r h = absurd (cc)
record_of_kind-fits (Some k) at row r h = by (has_field_count k (length row)) refl h
  where
    by : (test : Bool) → has_field_count k (length row) ≡ test
        → (if test then record_of k at row else Err (FieldCount at)) ≡ Ok r → IsOfKind (Some k) at r
    by true count q = record { kind = k; is = refl; fits = record_of-fits k at row r count q }
    by false count q = absurd (cc)

-- a record with its values in range and a number from `least` to the most records
record IsFrom (least : ℕ) (r : Record) : Type 0 where
  values : HasValues r
  low : least ≤ at_of r
  high : at_of r ≤ MOST_RECORDS

-- what one row gives
pub reading_of-fits : (number : ℕ) (more : Option AddedKind) (row : Fields) (r : Record) → reading_of number more row ≡ Ok (Some r)
    → IsOfKind (kind_of more (field row 0)) number r × (number ≤ MOST_RECORDS)
unfolding reading_of
reading_of-fits number more row r h = few (nat_lt MOST_RECORDS number) refl h
  where
    shown : (passed : Bool)
        → (if passed then Ok None else (record_of_kind (kind_of more (field row 0)) number row >>= λ found. Ok (Some found))) ≡ Ok (Some r)
        → IsOfKind (kind_of more (field row 0)) number r
    shown true q = absurd (cc)
    shown false q =
        let (found, read, last) = bind-ok (record_of_kind (kind_of more (field row 0)) number row) _ (Some r) q in
        let is : found ≡ r = cc in
        rw (sym is) (record_of_kind-fits (kind_of more (field row 0)) number row found read)

    few : (many : Bool) → nat_lt MOST_RECORDS number ≡ many
        → (if many then Err (TooManyRecords number) else if is_passed_over row then Ok None
        else (record_of_kind (kind_of more (field row 0)) number row >>= λ found. Ok (Some found))) ≡ Ok (Some r)
        → IsOfKind (kind_of more (field row 0)) number r × (number ≤ MOST_RECORDS)
    few true many q = absurd (cc)
    few false many q = (shown (is_passed_over row) q, grind (arith, nat_tests))

-- what rows give after others: numbers that rise from the number of the first row on
record IsInFormFrom (least : ℕ) (records : List Record) : Type 0 where
  each : All (IsFrom least) records
  rising : AllPairs (λ earlier later. at_of earlier < at_of later) records

later : (least : ℕ) (records : List Record) → All (IsFrom (least + 1)) records → All (IsFrom least) records
later least records each = λ k d lt.
    let r = each k d lt in
    record { values = r.values; low = omega (arith, r.low); high = r.high }

records_after-in_form : (more : AddedKind) (before rows : List Fields) (found : List Record) → records_after more before rows ≡ Ok found
    → IsInFormFrom (length before + 1) found
unfolding records_after
records_after-in_form more before [] found h =
    let is : [] ≡ found = cc in
    rw (sym is) (record { each = λ k d lt. absurd (omega arith); rising = λ i j d lt inside. absurd (omega arith) })
records_after-in_form more before (row ∷ rows) found h =
    let (read, one, rest) = bind-ok (row_reading more before row) _ found h in
    let (others, said, last) = bind-ok (records_after more (before ++ row ∷ []) rows) _ found rest in
    let is : option_to_list read ++ others ≡ found = cc in
    let size : length (before ++ row ∷ []) ≡ length before + 1 = length-append before (row ∷ []) in
    let so : IsInFormFrom (length before + 1 + 1) others =
    rw size at (records_after-in_form more (before ++ row ∷ []) rows others said) in
    rw (sym is) (with_read read one others so)
  where
    with_read : (read : Option Record) → row_reading more before row ≡ Ok read → (others : List Record)
        → IsInFormFrom (length before + 1 + 1) others → IsInFormFrom (length before + 1) (option_to_list read ++ others)
    with_read None one others so = record { each = later (length before + 1) others so.each; rising = so.rising }
    with_read (Some r) one others so =
        let (kind, few) = reading_of-fits (length before + 1) (added_after more before) row r one in
        let fits = kind.fits in
        let first : IsFrom (length before + 1) r =
        record { values = fits.values; low = omega (arith, fits.number); high = omega (arith, fits.number, few) } in
        record {
          each = All-cons (IsFrom (length before + 1)) r others first (later (length before + 1) others so.each);
          rising = AllPairs-cons (λ earlier later. at_of earlier < at_of later) r others
              (λ k d lt. omega (arith, fits.number, (so.each k d lt).low)) so.rising;
        }

-- the records that rows say are in form
pub records_after-form : (more : AddedKind) (rows : List Fields) (found : List Record) → records_after more [] rows ≡ Ok found → IsInForm found
records_after-form more rows found h =
    let so = records_after-in_form more [] rows found h in
    record {
      values = λ k d lt. (so.each k d lt).values;
      numbers = λ k d lt. let r = so.each k d lt in record { low = omega (arith, r.low); high = r.high };
      rising = so.rising;
    }

-- the values of a record that a row says are in range
pub reading_of-values : (number : ℕ) (more : Option AddedKind) (row : Fields) (r : Record)
    → reading_of number more row ≡ Ok (Some r) → HasValues r
reading_of-values number more row r h = (reading_of-fits number more row r h).0.fits.values

-- and so are those of a text
pub records_with-form : (more : AddedKind) (bytes : List ℕ) (found : List Record) → records_with more bytes ≡ Ok found → IsInForm found
unfolding records_with
records_with-form more bytes found h = by (nat_lt MOST_TEXT_BYTES (length bytes)) h
  where
    by : (long : Bool) → (if long then Err (TooLong (length bytes)) else records_after more [] (rows_of bytes)) ≡ Ok found
        → IsInForm found
    by true q = absurd (cc)
    by false q = records_after-form more (rows_of bytes) found q
