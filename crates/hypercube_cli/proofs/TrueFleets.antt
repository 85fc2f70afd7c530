-- What is proved of the report of a fleet, by the fleet that was read.
use Rattle.std.proofs.Common.{◌≡◌, ◌∙◌, ℕ, Bool, List, ap, subst, sym}
use Rattle.std.specs.Prelude.{Option, Some, None, Result, Ok, Err, IfOk, IfSome}
use Rattle.std.proofs.lemmas.List.Elements.{All-filter}
use Rattle.hyper_model.specs.declared.kinds.Found.TheVariants as found
use Rattle.outer_world.specs.declared.named_text.NamedText.{NamedText}
use Rattle.report_text.specs.declared.ending.Widths.{Widths}
use Rattle.crew_stations.specs.Fleets.{IsFleet}
use Rattle.crew_stations.specs.Stations.{StationPlan}
use Rattle.fleet_measures.specs.FleetEnclosures.{IsFleetEnclosure}
use Rattle.fleet_measures.specs.FleetMeasures.{AreInFleet, IsInFleet}
use Rattle.fleet_measures.specs.declared.kinds.FleetEnds.{FleetEnds}
use Rattle.fleet_measures.specs.declared.kinds.FleetMeasure.{FleetMeasure}
use Rattle.fleet_text.specs.FleetLabels.{fleet_label_bytes}
use Rattle.fleet_text.specs.FleetReports.{fleet_bytes, is_printed, printed_ends}
use Rattle.fleet_text.specs.FleetWidths.{FleetEndsAt, first_wide_ends, is_wide_in}
use Rattle.fleet_text.specs.declared.ending.FleetReportEnd.{FleetReportEnd}
use Rattle.fleet_text.specs.declared.ending.FleetReportEnd.TheVariants as end
use Rattle.hypercube_cli.specs.declared.outcome.Outcome.TheVariants as outcome
use Rattle.hypercube_cli.specs.declared.stop.Stop.{Stop}
use Rattle.hypercube_cli.specs.Endings.{Ending, done_ending, wide_fleet_ending}
use Rattle.hypercube_cli.specs.Tasks.Fleets.{IsFleetReported, unless_fleet_wide}
use Rattle.hypercube_cli.specs.Tasks.TrueFleets.{IsProvedFleet, IsTrueFleet}
use Rattle.hypercube_cli.proofs.WideMeasures.{found_holds}

-- the first measure that is too wide, by what the report ends with
first_is : (widths : Widths) (summary : Bool) (items : List FleetEnds) (ended : FleetReportEnd) (m : FleetMeasure) (lo hi : ℕ)
    → ended ≡ end.TooWide m lo hi → FleetEndsAt (first_wide_ends widths summary items) ended
    → first_wide_ends widths summary items ≡ Some (record { measure = m; found = found.Ends lo hi })
first_is widths summary items ended m lo hi same ends = subst (FleetEndsAt (first_wide_ends widths summary items)) same ends

-- the measure that is too wide is one of the list
pub wide_in_fleet : (s : StationPlan) (widths : Widths) (summary : Bool) (items : List FleetEnds) (ended : FleetReportEnd)
    (m : FleetMeasure) (lo hi : ℕ) → ended ≡ end.TooWide m lo hi → AreInFleet s items
    → FleetEndsAt (first_wide_ends widths summary items) ended → IsInFleet s m
wide_in_fleet s widths summary items ended m lo hi same all ends =
    found_holds (λ (e : FleetEnds). IsInFleet s e.measure) (is_wide_in widths) (printed_ends summary items)
    (record { measure = m; found = found.Ends lo hi }) (All-filter (is_printed summary) (λ e. IsInFleet s e.measure) items all)
    (first_is widths summary items ended m lo hi same ends)

-- the measure that is too wide is how the report ends
pub wide_reported : {E : Type 0} (s : StationPlan) (widths : Widths) (summary : Bool) (items : List FleetEnds)
    (ended : FleetReportEnd) (m : FleetMeasure) (lo hi : ℕ) (label : List ℕ) (result : Result Ending E)
    → ended ≡ end.TooWide m lo hi → FleetEndsAt (first_wide_ends widths summary items) ended → IsFleetEnclosure s items
    → label ≡ fleet_label_bytes s m → IfOk result (λ ending. ending ≡ wide_fleet_ending label m lo hi)
    → IfOk result (IsFleetReported s widths summary)
wide_reported s widths summary items ended m lo hi label (Ok ending) same ends exact labelled is = record {
  list = items;
  exact = exact;
  ends = is ∙ ap (λ (text : List ℕ). wide_fleet_ending text m lo hi) labelled
      ∙ sym (ap (λ (first : Option FleetEnds). unless_fleet_wide s first (done_ending (fleet_bytes s items summary)))
      (first_is widths summary items ended m lo hi same ends));
}
wide_reported s widths summary items ended m lo hi label (Err stopped) same ends exact labelled is = tt

not_done : (ending : Ending) (label : List ℕ) (m : FleetMeasure) (lo hi : ℕ) → ending.outcome ≡ outcome.FleetTooWide m lo hi
    → ending.outcome ≡ outcome.Done → ⊥
not_done ending label m lo hi wide done = cc

-- an ending with a measure that is too wide claims nothing
pub wide_claims : {E : Type 0} (s : StationPlan) (summary : Bool) (m : FleetMeasure) (lo hi : ℕ) (label : List ℕ)
    (result : Result Ending E) → IfOk result (λ ending. ending ≡ wide_fleet_ending label m lo hi)
    → IfOk result (λ ending. ending.outcome ≡ outcome.Done → IsTrueFleet s summary ending.text)
wide_claims s summary m lo hi label (Ok ending) is = λ done. absurd (not_done ending label m lo hi
    (ap (λ (e : Ending). e.outcome) is) done)
wide_claims s summary m lo hi label (Err stopped) is = tt

-- what is proved of the fleet that was read is proved of the text in the file
pub fleet_proved : (told : Option (List NamedText)) (given : List NamedText → Result StationPlan Ending) (summary : Bool)
    (s : StationPlan) (result : Result Ending Stop) → IfSome told (λ texts. given texts ≡ Ok s) → IsFleet s
    → IfOk result (λ ending. ending.outcome ≡ outcome.Done → IsTrueFleet s summary ending.text)
    → IfSome told (λ texts. IfOk result (λ ending. ending.outcome ≡ outcome.Done
    → IsProvedFleet (given texts) summary ending.text))
fleet_proved None given summary s result read accepted proved = tt
fleet_proved (Some texts) given summary s (Ok ending) read accepted proved = λ done. record {
  fleet = s;
  read = read;
  accepted = accepted;
  reported = proved done;
}
fleet_proved (Some texts) given summary s (Err stopped) read accepted proved = tt
