-- The travel times that records in form give are those of a plan.
use Rattle.std.proofs.Common.{◌≡◌, ◌≤◌, List, length, get_or, refl, sym, arith}
use Rattle.std.specs.Prelude.{Some, Ok, All}
use Rattle.hyper_model.specs.Grid.{Grid}
use Rattle.hyper_model.specs.Plans.{HasTravel}
use Rattle.hyper_model.specs.declared.parts.PlanParts.{PlanParts}
use Rattle.plan_text.specs.Form.{HasValues}
use Rattle.plan_text.specs.declared.record.Record.{Record}
use Rattle.plan_text.specs.declared.record.Record.TheVariants as rec
use Rattle.plan_text.proofs.Over.{kept-all}
use Rattle.atom_table.specs.Entries.{Entries}
use Rattle.atom_table.specs.Pairs.{Given, table_of}
use Rattle.atom_table.proofs.GivenValues.{given_for-value, table_of-all}
use Rattle.travel_table.specs.Travel.{atom_place, travel_of, trip_in, trips_in}
use Rattle.travel_table.proofs.TravelSteps.{travel_of-ok}

-- the travel time of a record in form
trip_within : (entries : Entries) (r : Record) → HasValues r → (given : Given) → trip_in entries r ≡ Some given → given.value ≤ 100000
trip_within entries (rec.Travel at origin target seconds) values given is =
    rw (given_for-value (length entries.atoms) at seconds (atom_place entries origin) (atom_place entries target) given is) values.2
trip_within entries _ values given is = absurd (cc)

pub has_travel : (records : List Record) (entries : Entries) (table : Grid) (p : PlanParts) → All HasValues records
    → travel_of entries records ≡ Ok table → p.atoms ≡ entries.atoms → p.travel ≡ table → HasTravel p
has_travel records entries table p values given atoms travel =
    let is = travel_of-ok entries records table given in
    let same : p.travel ≡ table_of (length entries.atoms) (length entries.atoms) (trips_in entries records) = rw is at travel in
    let trips = kept-all (trip_in entries) (λ (trip : Given). trip.value ≤ 100000) records
    (λ k d lt. trip_within entries (get_or records k d) (values k d lt)) in
    rw (same, atoms) (record {
      rows = refl;
      cols = refl;
      within = λ k j l h. table_of-all (λ seconds. seconds ≤ 100000) (length entries.atoms) (length entries.atoms)
          (trips_in entries records) k j l h trips (omega arith);
    })
