use Rattle.std.proofs.Common.{◌≡◌, ℕ, ◌<◌, length}
use Rattle.std.specs.Prelude.{slice_index}
use Rattle.crew_stations.specs.Stations.{stride_of}
use Rattle.station_flows.proofs.digits.strides_of.Given as goal

abbrev pub invariant-loop-station : goal.invariant-loop-station
invariant-loop-station l = record {
  count : length l.strides.items ≡ l.station;
  each : (k : ℕ) → k < l.station → slice_index l.strides.items k ≡ stride_of l.fleet k;
  next : l.stride ≡ stride_of l.fleet l.station;
}
