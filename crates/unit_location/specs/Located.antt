-- Which locations records give, or why they give none.
use Rattle.std.specs.Prelude.{ℕ, ◌+◌, ◌==◌, List, length, Option, Some, None, Result, Ok, find, not}
use Rattle.std.specs.List.{filter_map, range_with_len}
use Rattle.std.specs.Option.{option_map, option_or}
use Rattle.hyper_model.specs.Grid.{Grid, cell}
use Rattle.hyper_model.specs.Sums.{sum_below}
use Rattle.plan_text.specs.Steps.{◌>>=◌, unless_refused}
use Rattle.plan_text.specs.declared.record.Record.{Record}
use Rattle.plan_text.specs.declared.record.Record.TheVariants as rec
use Rattle.atom_table.specs.Names.{place_of}
use Rattle.atom_table.specs.Entries.{Entries, atom_names, unit_names}
use Rattle.atom_table.specs.Pairs.{Given, given_for, pairs_refusal, table_of}
use Rattle.unit_location.specs.declared.refusal.LocationRefusal.{LocationRefusal}
use Rattle.unit_location.specs.declared.refusal.LocationRefusal.TheVariants.{DuplicateLocation, LocationSum}

-- the thousandths that a record gives for the pair of a unit and an atom
abbrev pub share_in : Entries → Record → Option Given
share_in entries (rec.Located at unit atom thousandths) =
    given_for (length entries.atoms) at thousandths (place_of (unit_names entries.units) unit) (place_of (atom_names entries.atoms) atom)
share_in entries _ = None

abbrev pub shares_in : Entries → List Record → List Given
shares_in entries records = filter_map (share_in entries) records

-- no two records may be for the same unit and atom
abbrev pub shares_refusal : Entries → List Record → Option LocationRefusal
shares_refusal entries records = pairs_refusal DuplicateLocation (share_in entries) records

-- all thousandths of a unit
abbrev pub row_sum : Grid → ℕ → ℕ
row_sum table unit = sum_below table.cols (cell table unit)

-- each unit needs 1000
abbrev pub sums_refusal : Grid → Option LocationRefusal
sums_refusal table =
    option_map (λ unit. LocationSum (unit + 1) (row_sum table unit))
    (find (λ unit. not (row_sum table unit == 1000)) (range_with_len 0 table.rows))

-- the thousandths of each unit at each atom
abbrev pub located_in : Entries → List Record → Grid
located_in entries records = table_of (length entries.units) (length entries.atoms) (shares_in entries records)

-- the locations of records that are not refused
unfoldable pub located_of : Entries → List Record → Result Grid LocationRefusal
located_of entries records =
    unless_refused (option_or (shares_refusal entries records) (sums_refusal (located_in entries records)))
    >>= λ _. Ok (located_in entries records)
