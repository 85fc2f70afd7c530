-- Values that records give for pairs of places, such as those of an atom and another.
use Rattle.std.specs.Prelude.{ℕ, ◌+◌, ◌*◌, ◌==◌, Bool, true, false, if◌then◌else◌, List, [], Option, Some, None, find, is_some, map, slice_index_or, slice_set, unwrap_or}
use Rattle.std.specs.List.{filter_map, range_with_len}
use Rattle.std.specs.Option.{option_and_then, option_map}
use Rattle.hyper_model.specs.Grid.{Grid}
use Rattle.plan_text.specs.Steps.{first_over}
use Rattle.plan_text.specs.declared.record.Record.{Record}

-- the number of a pair: by its first place, and then by its second, of which there are `width`
abbrev pub pair_of : ℕ → ℕ → ℕ → ℕ
pair_of width first second = first * width + second

-- a value for a pair, from the record with the number `at`
pub record Given : Type 0 where
  pub at : ℕ
  pub pair : ℕ
  pub value : ℕ

-- a value for the pair of two places, if both are known
abbrev pub given_for : ℕ → ℕ → ℕ → Option ℕ → Option ℕ → Option Given
given_for width at value None second = None
given_for width at value (Some first) None = None
given_for width at value (Some first) (Some second) = Some (record { at = at; pair = pair_of width first second; value = value })

-- the value of a pair: the first that is given for it
abbrev pub value_of : List Given → ℕ → Option ℕ
value_of all pair = option_map (λ (given : Given). given.value) (find (λ (given : Given). given.pair == pair) all)

abbrev pub has_value : List Given → ℕ → Bool
has_value all pair = is_some (value_of all pair)

-- the refusal of a value for a pair that has one already
abbrev pub twice : {E : Type 0} → (ℕ → E) → (ℕ → Bool) → Given → Option E
twice refusal has given = if has given.pair then Some (refusal given.at) else None

-- a record after others, by what each gives: none of the others gives a value for the same pair
abbrev pub pair_refusal : {E : Type 0} → (ℕ → E) → (Record → Option Given) → List Record → Record → Option E
pair_refusal refusal gives before r = option_and_then (twice refusal (has_value (filter_map gives before))) (gives r)

-- the first record that is refused so
abbrev pub pairs_refusal : {E : Type 0} → (ℕ → E) → (Record → Option Given) → List Record → Option E
pairs_refusal refusal gives records = first_over (pair_refusal refusal gives) [] records

-- the table of so many rows and columns with these values, and 0 if none is given
abbrev pub table_of : ℕ → ℕ → List Given → Grid
table_of rows cols all = record {
  rows = rows;
  cols = cols;
  cells = map (λ pair. unwrap_or (value_of all pair) 0) (range_with_len 0 (rows * cols));
}

-- a table while its values are put in, with the pairs that have one
pub record PairTable : Type 0 where
  pub table : Grid
  pub known : List Bool

abbrev pub pair_table_of : ℕ → ℕ → List Given → PairTable
pair_table_of rows cols all = record {
  table = table_of rows cols all;
  known = map (has_value all) (range_with_len 0 (rows * cols));
}

abbrev pub is_known : PairTable → ℕ → Bool
is_known values pair = slice_index_or values.known pair false

-- the table with this value in addition
abbrev pub with_value : PairTable → ℕ → ℕ → PairTable
with_value values pair value = record {
  table = record values.table { cells = slice_set values.table.cells pair value };
  known = slice_set values.known pair true;
}

abbrev pub with_given : PairTable → Option Given → PairTable
with_given values None = values
with_given values (Some given) = with_value values given.pair given.value
