-- The report of two stations, computed: A has two crews, B has eleven. The ends are made up.
use Rattle.std.proofs.Common.{◌≡◌, ℕ, List, [], ◌∷◌, ◌++◌, Some, None, true, false, refl}
use Rattle.std.specs.Prelude.{codes}
use Rattle.std.specs.Fmt.{digits}
use Rattle.hyper_model.specs.declared.kinds.Found.{Found}
use Rattle.hyper_model.specs.declared.kinds.Found.TheVariants as found
use Rattle.hyper_model.specs.declared.kinds.Line.{Line}
use Rattle.hyper_model.specs.declared.kinds.Line.TheVariants as line
use Rattle.hyper_model.specs.declared.kinds.Measure.{Measure}
use Rattle.hyper_model.specs.declared.kinds.Measure.TheVariants as measure
use Rattle.hyper_model.specs.declared.kinds.Rule.TheVariants as rule
use Rattle.crew_stations.specs.Stations.{StationPlan}
use Rattle.fleet_measures.specs.declared.kinds.FleetEnds.{FleetEnds}
use Rattle.fleet_measures.specs.declared.kinds.FleetMeasure.TheVariants as fleet
use Rattle.report_text.specs.declared.ending.Widths.{Widths}
use Rattle.fleet_text.specs.FleetReports.{fleet_bytes, fleet_row}
use Rattle.fleet_text.specs.FleetWidths.{first_wide_ends}

abbrev two_stations : Line → StationPlan
two_stations waits = record {
  parts = record {
    line = waits;
    rule = rule.Given;
    period = 3600;
    units = record { name = codes "A"; rate = 2 } ∷ record { name = codes "B"; rate = 3 } ∷ [];
    atoms =
        record { name = codes "P"; rate = 2; x = 0; y = 0; district = 0 }
        ∷ record { name = codes "Q"; rate = 1; x = 9; y = 0; district = 1 }
        ∷ [];
    lists = record {
      units = 2;
      rows = record { members = 0 ∷ 1 ∷ []; begins = true ∷ true ∷ [] }
          ∷ record { members = 1 ∷ 0 ∷ []; begins = true ∷ true ∷ [] }
          ∷ [];
    };
    located = record { rows = 2; cols = 2; cells = 1000 ∷ 0 ∷ 0 ∷ 1000 ∷ [] };
    travel = record { rows = 2; cols = 2; cells = 60 ∷ 200 ∷ 300 ∷ 90 ∷ [] };
  };
  crews = 2 ∷ 11 ∷ [];
}

abbrev lost : StationPlan
lost = two_stations line.Zero

abbrev waiting : StationPlan
waiting = two_stations line.Infinite

abbrev of_plan : Measure → Found → FleetEnds
of_plan m f = record { measure = fleet.Of m; found = f }

abbrev full : ℕ → Found → FleetEnds
full k f = record { measure = fleet.Full k; found = f }

abbrev ends : List FleetEnds
ends =
    of_plan measure.Loss (found.Ends 214285 214286)
    ∷ of_plan (measure.Workload 0) (found.Ends 500000 500002)
    ∷ full 1 (found.Ends 333333 333334)
    ∷ of_plan (measure.Dispatch 0 1) (found.Ends 90909 90910)
    ∷ of_plan (measure.InterdistrictDistrict 1) found.Without
    ∷ of_plan measure.Travel (found.Ends 61500 61501)
    ∷ of_plan (measure.TravelAtom 1) (found.Ends 90000 90003)
    ∷ []

lost_report : fleet_bytes lost ends false ≡
    codes "fleet,1\nline,zero\nperiod,3600\ncalls,3\nservice,37\nstations,2\ncrews,13\nstates,36\n"
    ++ codes "crews,A,2\ncrews,B,11\nprefer,P,A,B\nprefer,Q,B,A\n"
    ++ codes "loss,0.214285,0.214286\nworkload,A,0.500000,0.500002\nfull,B,0.333333,0.333334\n"
    ++ codes "dispatch,A,Q,0.090909,0.090910\ninterdistrict-district,B,none\n"
    ++ codes "travel,61.500,61.501\ntravel-atom,Q,90.000,90.003\nend\n"
unfolding digits
lost_report = refl

-- a summary has the first rows, and the measures of the region
lost_summary : fleet_bytes lost ends true ≡
    codes "fleet,1\nline,zero\nperiod,3600\ncalls,3\nservice,37\nstations,2\ncrews,13\nstates,36\n"
    ++ codes "loss,0.214285,0.214286\ntravel,61.500,61.501\nend\n"
unfolding digits
lost_summary = refl

waiting_report : fleet_bytes waiting [] false ≡
    codes "fleet,1\nline,infinite\nperiod,3600\ncalls,3\nservice,37\nstations,2\ncrews,13\nstates,36\n"
    ++ codes "crews,A,2\ncrews,B,11\nprefer,P,A,B\nprefer,Q,B,A\nend\n"
unfolding digits
waiting_report = refl

-- what speaks of a unit in a plan has the word of a station
station_rows :
    (fleet_row lost (of_plan (measure.InterdistrictUnit 1) (found.Ends 0 1)) ≡ codes "interdistrict-station,B,0.000000,0.000001\n")
    × (fleet_row lost (of_plan (measure.TravelUnit 0) (found.Ends 60000 60000)) ≡ codes "travel-station,A,60.000,60.000\n")
    × (fleet_row lost (of_plan (measure.TravelDistrict 0) found.Without) ≡ codes "travel-district,A,none\n")
unfolding digits
station_rows = (refl, refl, refl)

-- the first that is wider than asked, of those that are printed
abbrev within : ℕ → ℕ → Widths
within share time = record { share = Some share; time = Some time }

wide :
    (first_wide_ends (within 1 1) false ends ≡ Some (of_plan (measure.Workload 0) (found.Ends 500000 500002)))
    × (first_wide_ends (within 2 2) false ends ≡ Some (of_plan (measure.TravelAtom 1) (found.Ends 90000 90003)))
    × (first_wide_ends (within 2 3) false ends ≡ None)
    × (first_wide_ends (within 1 1) true ends ≡ None)
    × (first_wide_ends (within 0 1) true ends ≡ Some (of_plan measure.Loss (found.Ends 214285 214286)))
wide = (refl, refl, refl, refl, refl)
