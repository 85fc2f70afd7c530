-- Records that give values for pairs, read one by one into a table.
use Rattle.std.proofs.Common.{◌≡◌, ◌∙◌, ℕ, ◌+◌, ◌<◌, List, drop, get_or, length, sym, take}
use Rattle.std.specs.Prelude.{Option, Some, None}
use Rattle.std.specs.List.{filter_map}
use Rattle.std.specs.Option.{option_and_then}
use Rattle.plan_text.specs.Steps.{first_over}
use Rattle.plan_text.specs.declared.record.Record.{Record}
use Rattle.plan_text.proofs.Over.{kept-more, over-more, over-refused}
use Rattle.atom_table.specs.Pairs.{Given, PairTable, is_known, pair_refusal, pair_table_of, pairs_refusal, twice, with_given}
use Rattle.atom_table.proofs.GivenValues.{IsInside, twice-known, with_given-new}

-- the first records are in the table, and the first refusal is among the others
pub record AreReadTo {E : Type 0} (refusal : ℕ → E) (gives : Record → Option Given) (rows cols : ℕ) (records : List Record) (i : ℕ)
    (values : PairTable) : Type 0 where
  pub table : values ≡ pair_table_of rows cols (filter_map gives (take i records))
  pub so_far : first_over (pair_refusal refusal gives) (take i records) (drop i records) ≡ pairs_refusal refusal gives records

module _ {E : Type 0} (refusal : ℕ → E) (gives : Record → Option Given) (rows cols : ℕ) (records : List Record) (i : ℕ) (values : PairTable)
    (read : AreReadTo refusal gives rows cols records i values) (r : Record) (lt : i < length records) (at : get_or records i r ≡ r)
    (inside : IsInside rows cols (gives r)) where
  same : option_and_then (twice refusal (is_known values)) (gives r) ≡ pair_refusal refusal gives (take i records) r
  same = twice-known refusal rows cols (filter_map gives (take i records)) values (gives r) read.table inside

  -- the next record is refused
  pub pair-refused : (e : E) → option_and_then (twice refusal (is_known values)) (gives r) ≡ Some e
      → pairs_refusal refusal gives records ≡ Some e
  pair-refused e h =
      over-refused (pair_refusal refusal gives) records i r (pairs_refusal refusal gives records) e lt at (sym same ∙ h) read.so_far

  -- the next record is put in
  pub pair-more : (new : PairTable) → option_and_then (twice refusal (is_known values)) (gives r) ≡ None → new ≡ with_given values (gives r)
      → AreReadTo refusal gives rows cols records (i + 1) new
  pair-more new h is =
      let none = sym same ∙ h in
      record {
        table = rw (is, kept-more gives records i r lt at)
            (with_given-new refusal rows cols (filter_map gives (take i records)) values (gives r) read.table inside none);
        so_far = over-more (pair_refusal refusal gives) records i r (pairs_refusal refusal gives records) lt at none read.so_far;
      }
