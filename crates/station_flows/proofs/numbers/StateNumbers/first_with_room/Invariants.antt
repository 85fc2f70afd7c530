use Rattle.std.proofs.Common.{◌≡◌, ℕ, drop}
use Rattle.crew_stations.specs.Stations.{answers, is_first, order_of}
use Rattle.station_flows.proofs.numbers.StateNumbers.first_with_room.Given as goal

abbrev pub invariant-loop-place : goal.invariant-loop-place
invariant-loop-place l =
    (k : ℕ) → is_first l.self (drop l.place (order_of l.self l.atom)) l.state k ≡ answers l.self l.atom l.state k
