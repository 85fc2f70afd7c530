-- Records that were read one by one are all the records of the text.
use Rattle.std.proofs.Common.{◌≡◌, ◌<◌, ◌≤◌, ℕ, zero, suc, ◌+◌, Bool, true, false, if◌then◌else◌, ◌==◌, ◌&&◌, List, [], ◌∷◌, ◌++◌, length, Some, None, refl, sym, arith}
use Rattle.csv.specs.Machine.{Read, after_end, ends_at_end, ends_with, field_after, fields_after, in_field, is_byte, is_end, next_record, start_field, start_record, step}
use Rattle.csv.specs.Reading.{Reached, default_config, is_bom, records, records_from, strip_bom}
use Rattle.csv.specs.declared.parser.Action.{Action}
use Rattle.csv.specs.declared.parser.Action.TheVariants as act
use Rattle.csv.specs.declared.parser.Config.{Config}
use Rattle.csv.specs.declared.parser.State.{State}
use Rattle.csv.specs.declared.parser.State.TheVariants as st
use Rattle.csv.specs.declared.parser.Terminator.{Terminator}
use Rattle.csv.specs.declared.parser.Terminator.TheVariants as term
use Rattle.plan_text.specs.Rows.{without_marks}

-- if a byte ends a record, the state after it is between records
record EndsBetween (next : State × Action) : Type 0 where
  between : is_end next.1 ≡ true → ends_at_end next.0 ≡ false

either_ends : (b : Bool) (x y : State × Action) → EndsBetween x → EndsBetween y → EndsBetween (if b then x else y)
either_ends true x y a b = a
either_ends false x y a b = b

goes_on : (s : State) (a : Action) → is_end a ≡ false → EndsBetween (s, a)
goes_on s a e = record { between = λ h. cc }

after_end-between : (t : Terminator) (c : ℕ) → ends_at_end (after_end t c) ≡ false
after_end-between term.CRLF c = by (c == 13)
  where
    by : (b : Bool) → ends_at_end (if b then st.AfterCr else st.StartRecord) ≡ false
    by true = refl
    by false = refl
after_end-between (term.Any t) c = refl

in_field-ends : (cfg : Config) (c : ℕ) → EndsBetween (in_field cfg c)
in_field-ends cfg c =
    either_ends (c == cfg.delimiter) (st.StartField, act.EndField)
    (if ends_with cfg.terminator c then (after_end cfg.terminator c, act.EndRecord) else (st.InField, act.Copy))
    (goes_on st.StartField act.EndField refl)
    (either_ends (ends_with cfg.terminator c) (after_end cfg.terminator c, act.EndRecord) (st.InField, act.Copy)
    (record { between = λ _. after_end-between cfg.terminator c })
    (goes_on st.InField act.Copy refl))

start_field-ends : (cfg : Config) (c : ℕ) → EndsBetween (start_field cfg c)
start_field-ends cfg c =
    either_ends (cfg.quoting && (c == cfg.quote)) (st.InQuoted, act.Skip) (in_field cfg c) (goes_on st.InQuoted act.Skip refl)
    (in_field-ends cfg c)

start_record-ends : (cfg : Config) (c : ℕ) → EndsBetween (start_record cfg c)
start_record-ends cfg c =
    either_ends (ends_with cfg.terminator c) (st.StartRecord, act.Skip)
    (if is_byte cfg.comment c then (st.InComment, act.Skip) else start_field cfg c)
    (goes_on st.StartRecord act.Skip refl)
    (either_ends (is_byte cfg.comment c) (st.InComment, act.Skip) (start_field cfg c) (goes_on st.InComment act.Skip refl)
    (start_field-ends cfg c))

step-ends : (cfg : Config) (s : State) (c : ℕ) → EndsBetween (step cfg s c)
step-ends cfg st.StartRecord c = start_record-ends cfg c
step-ends cfg st.StartField c = start_field-ends cfg c
step-ends cfg st.InField c = in_field-ends cfg c
step-ends cfg st.InQuoted c =
    either_ends (cfg.quoting && (c == cfg.quote)) (st.AfterQuote, act.Skip)
    (if cfg.quoting && is_byte cfg.escape c then (st.InEscape, act.Skip) else (st.InQuoted, act.Copy))
    (goes_on st.AfterQuote act.Skip refl)
    (either_ends (cfg.quoting && is_byte cfg.escape c) (st.InEscape, act.Skip) (st.InQuoted, act.Copy)
    (goes_on st.InEscape act.Skip refl)
    (goes_on st.InQuoted act.Copy refl))
step-ends cfg st.InEscape c = goes_on st.InQuoted act.Copy refl
step-ends cfg st.AfterQuote c =
    either_ends (cfg.quoting && cfg.double_quote && (c == cfg.quote)) (st.InQuoted, act.Copy) (in_field cfg c)
    (goes_on st.InQuoted act.Copy refl)
    (in_field-ends cfg c)
step-ends cfg st.InComment c =
    either_ends (c == 10) (st.StartRecord, act.Skip) (st.InComment, act.Skip) (goes_on st.StartRecord act.Skip refl)
    (goes_on st.InComment act.Skip refl)
step-ends cfg st.AfterCr c =
    either_ends (c == 10) (st.StartRecord, act.Skip) (start_record cfg c) (goes_on st.StartRecord act.Skip refl)
    (start_record-ends cfg c)

-- a record that was read leaves no more bytes than there were, in a state between records
pub record LeavesBetween (most : ℕ) (p : Read) : Type 0 where
  pub fewer : length p.2 ≤ most
  pub between : ends_at_end p.1 ≡ false

pub next_record-leaves : (cfg : Config) (s : State) (fields : List (List ℕ)) (field xs : List ℕ) (p : Read)
    → next_record cfg s fields field xs ≡ Some p → LeavesBetween (length xs) p
unfolding next_record
next_record-leaves cfg s fields field [] p h = by (ends_at_end s) h
  where
    by : (b : Bool) → (if b then Some (fields ++ (field ∷ []), st.StartRecord, []) else None) ≡ Some p → LeavesBetween 0 p
    by true e =
        let is : (fields ++ (field ∷ []), st.StartRecord, []) ≡ p = cc in
        record { fewer = rw (sym is) (omega arith); between = rw (sym is) refl }
    by false e = absurd (cc)
next_record-leaves cfg s fields field (c ∷ rest) p h =
    by (is_end (step cfg s c).1) refl h
    (next_record-leaves cfg (step cfg s c).0 (fields_after (step cfg s c).1 fields field) (field_after (step cfg s c).1 c field) rest p)
  where
    by : (b : Bool) → is_end (step cfg s c).1 ≡ b
        → (if b then Some (fields_after (step cfg s c).1 fields field, (step cfg s c).0, rest)
        else next_record cfg (step cfg s c).0 (fields_after (step cfg s c).1 fields field) (field_after (step cfg s c).1 c field) rest) ≡ Some p
        → (next_record cfg (step cfg s c).0 (fields_after (step cfg s c).1 fields field) (field_after (step cfg s c).1 c field) rest ≡ Some p → LeavesBetween (length rest) p)
        → LeavesBetween (length (c ∷ rest)) p
    by true ends e more =
        let is : (fields_after (step cfg s c).1 fields field, (step cfg s c).0, rest) ≡ p = cc in
        record { fewer = rw (sym is) (omega arith); between = rw (sym is) ((step-ends cfg s c).between ends) }
    by false ends e more = let left = more e in record { fewer = omega (arith, left.fewer); between = left.between }

-- from a state between records, a record that is found takes a byte
pub next_record-takes : (cfg : Config) (s : State) (xs : List ℕ) (p : Read) → ends_at_end s ≡ false
    → next_record cfg s [] [] xs ≡ Some p → length p.2 < length xs
unfolding next_record
next_record-takes cfg s [] p between h = absurd (cc (rw between at h))
next_record-takes cfg s (c ∷ rest) p between h =
    by (is_end (step cfg s c).1) h
    (next_record-leaves cfg (step cfg s c).0 (fields_after (step cfg s c).1 [] []) (field_after (step cfg s c).1 c []) rest p)
  where
    by : (b : Bool)
        → (if b then Some (fields_after (step cfg s c).1 [] [], (step cfg s c).0, rest)
        else next_record cfg (step cfg s c).0 (fields_after (step cfg s c).1 [] []) (field_after (step cfg s c).1 c []) rest) ≡ Some p
        → (next_record cfg (step cfg s c).0 (fields_after (step cfg s c).1 [] []) (field_after (step cfg s c).1 c []) rest ≡ Some p → LeavesBetween (length rest) p)
        → length p.2 < length (c ∷ rest)
    by true e more =
        let is : (fields_after (step cfg s c).1 [] [], (step cfg s c).0, rest) ≡ p = cc in
        rw (sym is) (omega arith)
    by false e more = omega (arith, (more e).fewer)

records_from-reached : (cfg : Config) (n : ℕ) (s s2 : State) (xs ys : List ℕ) (rows : List (List (List ℕ)))
    → ends_at_end s ≡ false → length xs < n → Reached cfg s xs rows s2 ys → next_record cfg s2 [] [] ys ≡ None
    → records_from cfg n s xs ≡ rows
unfolding Reached records_from
records_from-reached cfg zero s s2 xs ys rows between less h none = absurd (omega arith)
records_from-reached cfg (suc n) s s2 xs ys [] between less h none =
    let here : next_record cfg s [] [] xs ≡ None = rw (h.0, h.1) none in
    rw here refl
records_from-reached cfg (suc n) s s2 xs ys (r ∷ rs) between less h none =
    let p : Read = h.0 in
    let found : next_record cfg s [] [] xs ≡ Some p = h.1 in
    let left = next_record-leaves cfg s [] [] xs p found in
    let fewer = next_record-takes cfg s xs p between found in
    let more = records_from-reached cfg n p.1 s2 p.2 ys rs left.between (omega arith) h.3 none in
    rw (found, more, h.2) refl

-- the records that were read up to where there is no further one are those of the text
pub records-reached : (s2 : State) (xs ys : List ℕ) (rows : List (List (List ℕ)))
    → Reached default_config st.StartRecord xs rows s2 ys → next_record default_config s2 [] [] ys ≡ None
    → rows ≡ records default_config xs
records-reached s2 xs ys rows h none =
    sym (records_from-reached default_config (length xs + 1) st.StartRecord s2 xs ys rows refl (omega arith) h none)

-- no mark is left for the reader to drop
pub strip_bom-without_marks : (xs : List ℕ) → strip_bom (without_marks xs) ≡ without_marks xs
unfolding strip_bom
strip_bom-without_marks [] = refl
strip_bom-without_marks (a ∷ []) = refl
strip_bom-without_marks (a ∷ b ∷ []) = refl
strip_bom-without_marks (a ∷ b ∷ c ∷ rest) = by (is_bom a b c) refl (strip_bom-without_marks rest)
  where
    by : (t : Bool) → is_bom a b c ≡ t → strip_bom (without_marks rest) ≡ without_marks rest
        → strip_bom (without_marks (a ∷ b ∷ c ∷ rest)) ≡ without_marks (a ∷ b ∷ c ∷ rest)
    by true e h = rw e h
    by false e h = rw (e, e) refl
