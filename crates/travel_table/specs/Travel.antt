-- Which travel times records give, or why they give none.
use Rattle.std.specs.Prelude.{ℕ, ◌+◌, ◌*◌, ◌/◌, ◌%◌, List, length, Option, Some, None, Result, Ok, find, not}
use Rattle.std.specs.List.{filter_map, range_with_len}
use Rattle.std.specs.Option.{option_map, option_or}
use Rattle.hyper_model.specs.Grid.{Grid}
use Rattle.plan_text.specs.Steps.{◌>>=◌, unless_refused}
use Rattle.plan_text.specs.declared.record.Record.{Record}
use Rattle.plan_text.specs.declared.record.Record.TheVariants as rec
use Rattle.atom_table.specs.Names.{place_of}
use Rattle.atom_table.specs.Entries.{Entries, atom_names}
use Rattle.atom_table.specs.Pairs.{Given, given_for, has_value, pairs_refusal, table_of}
use Rattle.travel_table.specs.declared.refusal.TravelRefusal.{TravelRefusal}
use Rattle.travel_table.specs.declared.refusal.TravelRefusal.TheVariants.{DuplicateTravel, MissingTravel}

-- the place of the atom with this name
abbrev pub atom_place : Entries → List ℕ → Option ℕ
atom_place entries name = place_of (atom_names entries.atoms) name

-- the travel time that a record gives for the pair of the atom from which and the atom to which
abbrev pub trip_in : Entries → Record → Option Given
trip_in entries (rec.Travel at origin target seconds) =
    given_for (length entries.atoms) at seconds (atom_place entries origin) (atom_place entries target)
trip_in entries _ = None

abbrev pub trips_in : Entries → List Record → List Given
trips_in entries records = filter_map (trip_in entries) records

-- no two records may be for the same pair
abbrev pub trips_refusal : Entries → List Record → Option TravelRefusal
trips_refusal entries records = pairs_refusal DuplicateTravel (trip_in entries) records

-- the refusal of a pair without a travel time, if there is one, among so many atoms
abbrev pub first_missing : ℕ → Option ℕ → Option TravelRefusal
first_missing atoms gap = option_map (λ pair. MissingTravel (pair / atoms + 1) (pair % atoms + 1)) gap

-- each pair needs a travel time
abbrev pub gap_refusal : Entries → List Record → Option TravelRefusal
gap_refusal entries records =
    let atoms = length entries.atoms in
    first_missing atoms (find (λ pair. not (has_value (trips_in entries records) pair)) (range_with_len 0 (atoms * atoms)))

-- the travel times of records that are not refused
unfoldable pub travel_of : Entries → List Record → Result Grid TravelRefusal
travel_of entries records =
    unless_refused (option_or (trips_refusal entries records) (gap_refusal entries records))
    >>= λ _. Ok (table_of (length entries.atoms) (length entries.atoms) (trips_in entries records))
