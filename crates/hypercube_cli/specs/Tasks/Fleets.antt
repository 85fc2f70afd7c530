-- What it means to report a fleet whose crews stand at stations: its report, or the first measure whose ends lie further
-- apart than was asked.
use Rattle.std.specs.Prelude.{◌≡◌, ℕ, true, Bool, List, Option, Some, None, Result}
use Rattle.hyper_model.specs.declared.kinds.Found.{Found}
use Rattle.hyper_model.specs.declared.kinds.Found.TheVariants as found
use Rattle.outer_world.specs.declared.named_text.NamedText.{NamedText}
use Rattle.report_text.specs.declared.ending.Widths.{Widths}
use Rattle.plan_reader.specs.FleetOf.{fleet_of}
use Rattle.crew_stations.specs.Stations.{StationPlan}
use Rattle.fleet_measures.specs.FleetEnclosures.{IsFleetEnclosure}
use Rattle.fleet_measures.specs.declared.kinds.FleetEnds.{FleetEnds}
use Rattle.fleet_measures.specs.declared.kinds.FleetMeasure.{FleetMeasure}
use Rattle.fleet_text.specs.FleetLabels.{fleet_label_bytes}
use Rattle.fleet_text.specs.FleetReports.{fleet_bytes}
use Rattle.fleet_text.specs.FleetWidths.{first_wide_ends}
use Rattle.hypercube_cli.specs.declared.refusal.Refusal.TheVariants as refused
use Rattle.hypercube_cli.specs.Endings.{Ending, EndsFrom, done_ending, wide_fleet_ending}
use Rattle.hypercube_cli.specs.ListEndings.{IsEndingOfList}
use Rattle.hypercube_cli.specs.Meanings.{Meaning}
use Rattle.hypercube_cli.specs.Readings.{content_at, unless_refused}
use Rattle.hypercube_cli.specs.Tasks.TrueFleets.{IsProvedFleet}

abbrev pub fleet_in : List ℕ → Result StationPlan Ending
fleet_in text = unless_refused refused.Fleet (fleet_of text)

-- the fleet in the text of this name
abbrev pub fleet_at : List NamedText → List ℕ → Result StationPlan Ending
fleet_at texts name = content_at 1 fleet_in texts name

-- a measure without ends is never too wide
abbrev pub wide_fleet_found : StationPlan → FleetMeasure → Found → Ending → Ending
wide_fleet_found s m (found.Ends lo hi) narrow = wide_fleet_ending (fleet_label_bytes s m) m lo hi
wide_fleet_found s m found.Without narrow = narrow

-- the measure that is too wide, or this ending if none is
abbrev pub unless_fleet_wide : StationPlan → Option FleetEnds → Ending → Ending
unless_fleet_wide s None narrow = narrow
unless_fleet_wide s (Some e) narrow = wide_fleet_found s e.measure e.found narrow

abbrev pub fleet_ending : StationPlan → Widths → Bool → List FleetEnds → Ending
fleet_ending s widths summary list =
    unless_fleet_wide s (first_wide_ends widths summary list) (done_ending (fleet_bytes s list summary))

-- the ending for a fleet, whose measures have the ends of the method
abbrev pub IsFleetReported : StationPlan → Widths → Bool → Ending → Type 0
IsFleetReported s widths summary = IsEndingOfList (IsFleetEnclosure s) (fleet_ending s widths summary)

abbrev pub fleet_meaning : List ℕ → Widths → Bool → Meaning
fleet_meaning file widths summary = record {
  ends = λ texts. EndsFrom (fleet_at texts file) (λ fleet. IsFleetReported fleet widths summary);
  proves = λ texts. IsProvedFleet (fleet_at texts file) summary;
  asks = λ told fault. fault ≡ Some file;
  reads = true;
}
