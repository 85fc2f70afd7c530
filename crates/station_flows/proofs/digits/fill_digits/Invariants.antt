use Rattle.std.proofs.Common.{◌≡◌, ℕ, ◌/◌, ◌%◌, ◌<◌}
use Rattle.std.specs.Prelude.{slice_index}
use Rattle.crew_stations.specs.Stations.{busy_in, stations}
use Rattle.station_flows.proofs.digits.fill_digits.Given as goal

abbrev pub invariant-loop-place : goal.invariant-loop-place
invariant-loop-place l =
    (p : ℕ) → p < l.place → slice_index l.digits p ≡ busy_in l.fleet (p / stations l.fleet) (p % stations l.fleet)
