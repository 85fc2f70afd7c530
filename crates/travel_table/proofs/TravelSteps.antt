-- Travel times that are read one by one, and the refusal of all.
use Rattle.std.proofs.Common.{◌≡◌, ◌∙◌, ◌<◌, List, length, refl, sym, ap}
use Rattle.std.specs.Prelude.{Option, Some, None, Result, Ok, Err, find, not}
use Rattle.std.specs.List.{range_with_len}
use Rattle.std.specs.Option.{option_or}
use Rattle.hyper_model.specs.Grid.{Grid}
use Rattle.plan_text.specs.Steps.{◌>>=◌, unless_refused}
use Rattle.plan_text.specs.declared.record.Record.{Record}
use Rattle.plan_text.specs.declared.record.Record.TheVariants as rec
use Rattle.atom_table.specs.Entries.{Entries}
use Rattle.atom_table.specs.Pairs.{PairTable, is_known, pair_table_of, table_of}
use Rattle.atom_table.proofs.GivenValues.{IsInside, first_gap-of, given_for-inside}
use Rattle.atom_table.proofs.OwnNames.{atom_of-within}
use Rattle.travel_table.specs.Travel.{atom_place, first_missing, gap_refusal, travel_of, trip_in, trips_in, trips_refusal}
use Rattle.travel_table.specs.declared.refusal.TravelRefusal.{TravelRefusal}

-- a pair of atoms lies within the table
pub trip_in-inside : (entries : Entries) (r : Record) → 0 < length entries.atoms
    → IsInside (length entries.atoms) (length entries.atoms) (trip_in entries r)
trip_in-inside entries (rec.Travel at origin target seconds) some given is =
    given_for-inside (length entries.atoms) (length entries.atoms) at seconds (atom_place entries origin) (atom_place entries target)
    (atom_of-within entries.atoms origin) (atom_of-within entries.atoms target) given is
trip_in-inside entries _ some given is = absurd (cc)

-- the refusal of a gap, by the table
pub gap_refusal-of : (entries : Entries) (records : List Record) (trips : PairTable)
    → trips ≡ pair_table_of (length entries.atoms) (length entries.atoms) (trips_in entries records)
    → first_missing (length entries.atoms) (find (λ pair. not (is_known trips pair)) (range_with_len 0 (length trips.known)))
    ≡ gap_refusal entries records
gap_refusal-of entries records trips is =
    ap (first_missing (length entries.atoms))
    (first_gap-of (length entries.atoms) (length entries.atoms) (trips_in entries records) trips is)

module _ (entries : Entries) (records : List Record) where
  -- what the records give, by the refusal
  abbrev by_refusal : Option TravelRefusal → Result Grid TravelRefusal
  by_refusal refused =
      unless_refused refused >>= λ _. Ok (table_of (length entries.atoms) (length entries.atoms) (trips_in entries records))

  pub travel_of-twice : (e : TravelRefusal) → trips_refusal entries records ≡ Some e → travel_of entries records ≡ Err e
  unfolding travel_of
  travel_of-twice e h =
      let all : option_or (trips_refusal entries records) (gap_refusal entries records) ≡ Some e = rw h refl in
      ap by_refusal all

  pub travel_of-gap : (e : TravelRefusal) → trips_refusal entries records ≡ None → gap_refusal entries records ≡ Some e
      → travel_of entries records ≡ Err e
  unfolding travel_of
  travel_of-gap e none h =
      let all : option_or (trips_refusal entries records) (gap_refusal entries records) ≡ Some e =
      ap (λ (o : Option TravelRefusal). option_or o (gap_refusal entries records)) none ∙ h in
      ap by_refusal all

  pub travel_of-read : trips_refusal entries records ≡ None → gap_refusal entries records ≡ None
      → travel_of entries records ≡ Ok (table_of (length entries.atoms) (length entries.atoms) (trips_in entries records))
  unfolding travel_of
  travel_of-read none whole =
      let all : option_or (trips_refusal entries records) (gap_refusal entries records) ≡ None =
      ap (λ (o : Option TravelRefusal). option_or o (gap_refusal entries records)) none ∙ whole in
      ap by_refusal all

  -- what records give is the table of their travel times
  pub travel_of-ok : (table : Grid) → travel_of entries records ≡ Ok table
      → table ≡ table_of (length entries.atoms) (length entries.atoms) (trips_in entries records)
  unfolding travel_of
  travel_of-ok table h = by (option_or (trips_refusal entries records) (gap_refusal entries records)) h
    where
      by : (refused : Option TravelRefusal)
          → (unless_refused refused >>= λ _. Ok (table_of (length entries.atoms) (length entries.atoms) (trips_in entries records))) ≡ Ok table
          → table ≡ table_of (length entries.atoms) (length entries.atoms) (trips_in entries records)
      by None q = cc
      by (Some e) q = absurd (cc)
