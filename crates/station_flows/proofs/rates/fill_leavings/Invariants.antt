use Rattle.std.proofs.Common.{◌≡◌, ℕ, ◌<◌}
use Rattle.std.specs.Prelude.{slice_index}
use Rattle.station_flows.specs.StateRates.{leaving_rate}
use Rattle.station_flows.proofs.rates.fill_leavings.Given as goal

abbrev pub invariant-loop-state : goal.invariant-loop-state
invariant-loop-state l = (a : ℕ) → a < l.state → slice_index l.leavings a ≡ leaving_rate l.numbers a
