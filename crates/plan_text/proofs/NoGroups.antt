-- A fleet's text gives no groups.
use Rattle.std.proofs.Common.{◌≡◌, ℕ, ◌+◌, List, [], ◌∷◌, ◌++◌, length, sym, arith}
use Rattle.std.specs.Prelude.{Bool, true, false, if◌then◌else◌, nat_lt, Option, Some, None, Ok, Err, All}
use Rattle.std.specs.Bool.{then_some}
use Rattle.std.specs.List.{list_any}
use Rattle.std.specs.Option.{option_to_list}
use Rattle.std.specs.Str.{bytes_eq}
use Rattle.std.proofs.lemmas.List.Elements.{All-cons}
use Rattle.plan_text.specs.Fields.{field}
use Rattle.plan_text.specs.Form.{kind_in}
use Rattle.plan_text.specs.Kinds.{added_kinds, first_kinds, kind_of, named_kind, says_version, shape_of, added_version}
use Rattle.plan_text.specs.Reading.{added_after, fleet_records_of, records_after, records_with, row_reading}
use Rattle.plan_text.specs.Rows.{Fields, rows_of}
use Rattle.plan_text.specs.declared.TheConstants.{MOST_TEXT_BYTES}
use Rattle.plan_text.specs.declared.kind.AddedKind.TheVariants as added
use Rattle.plan_text.specs.declared.kind.Kind.{Kind}
use Rattle.plan_text.specs.declared.kind.Kind.TheVariants as kind
use Rattle.plan_text.specs.declared.record.Record.{Record}
use Rattle.plan_text.specs.declared.refusal.TextRefusal.TheVariants.{TooLong}
use Rattle.plan_text.proofs.InForm.{bind-ok, reading_of-fits}

-- any kind but a group
abbrev IsOther : Kind → Type 0
IsOther kind.Group = ⊥
IsOther _ = Prim.Unit {0}

abbrev AreOther : List Kind → Type 0
AreOther [] = Prim.Unit {0}
AreOther (k ∷ kinds) = IsOther k × AreOther kinds

-- a record that gives no group
abbrev pub IsUngrouped : Record → Type 0
IsUngrouped r = IsOther (kind_in r)

-- a kind that is named is one of those that can be
named-other : (kinds : List Kind) (keyword : List ℕ) (k : Kind) → AreOther kinds → named_kind kinds keyword ≡ Some k → IsOther k
named-other [] keyword k others h = absurd (cc)
named-other (first ∷ kinds) keyword k others h =
    by (bytes_eq keyword (shape_of first).keyword) h (λ q. named-other kinds keyword k others.1 q)
  where
    by : (test : Bool) → (if test then Some first else named_kind kinds keyword) ≡ Some k
        → (named_kind kinds keyword ≡ Some k → IsOther k) → IsOther k
    by true q rest = let is : first ≡ k = cc in rw is at others.0
    by false q rest = rest q

fleet-kind : (is_added : Bool) (keyword : List ℕ) (k : Kind) → kind_of (then_some is_added added.Crews) keyword ≡ Some k
    → IsOther k
fleet-kind true keyword k h =
    let others : AreOther (first_kinds ++ added_kinds (Some added.Crews)) = (tt, (tt, (tt, (tt, (tt, (tt, (tt, (tt, (tt, (tt, tt)))))))))) in
    named-other (first_kinds ++ added_kinds (Some added.Crews)) keyword k others h
fleet-kind false keyword k h =
    let others : AreOther (first_kinds ++ added_kinds None) = (tt, (tt, (tt, (tt, (tt, (tt, (tt, (tt, (tt, tt))))))))) in
    named-other (first_kinds ++ added_kinds None) keyword k others h

row-ungrouped : (before : List Fields) (row : Fields) (r : Record) → row_reading added.Crews before row ≡ Ok (Some r) → IsUngrouped r
row-ungrouped before row r h =
    let (of, few) = reading_of-fits (length before + 1) (added_after added.Crews before) row r h in
    let other = fleet-kind (list_any (says_version (added_version added.Crews)) before) (field row 0) of.kind of.is in
    rw (of.fits.sort) other

rows-ungrouped : (before rows : List Fields) (found : List Record) → records_after added.Crews before rows ≡ Ok found → All IsUngrouped found
unfolding records_after
rows-ungrouped before [] found h =
    let is : [] ≡ found = cc in
    rw (sym is) (λ k d lt. absurd (omega arith))
rows-ungrouped before (row ∷ rows) found h =
    let (read, one, rest) = bind-ok (row_reading added.Crews before row) _ found h in
    let (others, said, last) = bind-ok (records_after added.Crews (before ++ row ∷ []) rows) _ found rest in
    let is : option_to_list read ++ others ≡ found = cc in
    rw (sym is) (with_read read one others (rows-ungrouped (before ++ row ∷ []) rows others said))
  where
    with_read : (read : Option Record) → row_reading added.Crews before row ≡ Ok read → (others : List Record)
        → All IsUngrouped others → All IsUngrouped (option_to_list read ++ others)
    with_read None one others so = so
    with_read (Some r) one others so = All-cons IsUngrouped r others (row-ungrouped before row r one) so

-- no record of a fleet's text gives a group
pub fleet-ungrouped : (bytes : List ℕ) (found : List Record) → fleet_records_of bytes ≡ Ok found → All IsUngrouped found
unfolding records_with
fleet-ungrouped bytes found h = by (nat_lt MOST_TEXT_BYTES (length bytes)) h
  where
    by : (long : Bool) → (if long then Err (TooLong (length bytes)) else records_after added.Crews [] (rows_of bytes)) ≡ Ok found
        → All IsUngrouped found
    by true q = absurd (cc)
    by false q = rows-ungrouped [] (rows_of bytes) found q
