-- How many crews the records of a fleet's text give its stations.
use Rattle.std.specs.Prelude.{ℕ, if◌then◌else◌, Bool, not, List, [], map, Option, Some, None, is_some, unwrap_or}
use Rattle.std.specs.List.{list_any}
use Rattle.std.specs.Str.{bytes_eq}
use Rattle.plan_text.specs.Steps.{first_over}
use Rattle.plan_text.specs.declared.record.Record.{Record}
use Rattle.plan_text.specs.declared.record.Record.TheVariants as rec
use Rattle.atom_table.specs.Names.{is_among}
use Rattle.plan_reader.specs.Settings.{first_value}
use Rattle.plan_reader.specs.declared.refusal.PlanRefusal.TheVariants.{UnknownName}
use Rattle.plan_reader.specs.declared.fleet_refusal.FleetRefusal.{FleetRefusal}
use Rattle.plan_reader.specs.declared.fleet_refusal.FleetRefusal.TheVariants.{CrewsTwice, Plan}

-- the crews that a record gives the station with this name
abbrev pub count_for : List ℕ → Record → Option ℕ
count_for name (rec.Crews at unit count) = if bytes_eq unit name then Some count else None
count_for name _ = None

abbrev pub gives_crews : List ℕ → Record → Bool
gives_crews name r = is_some (count_for name r)

-- the crews of the station with this name: those that a record gives it, and one without such a record
abbrev pub crews_given : List Record → List ℕ → ℕ
crews_given records name = unwrap_or (first_value (count_for name) records) 1

-- the crews of the stations with these names
abbrev pub crews_in : List (List ℕ) → List Record → List ℕ
crews_in names records = map (crews_given records) names

-- a record after others: its station needs to be known, and none of the others may give its crews
abbrev pub crews_refusal : List (List ℕ) → List Record → Record → Option FleetRefusal
crews_refusal names before (rec.Crews at unit count) =
    if not (is_among names unit) then Some (Plan (UnknownName at 2))
    else if list_any (gives_crews unit) before then Some (CrewsTwice at)
    else None
crews_refusal names before _ = None

-- the first record that is refused so
abbrev pub crews_records_refusal : List (List ℕ) → List Record → Option FleetRefusal
crews_records_refusal names records = first_over (crews_refusal names) [] records
