-- The fields of a fleet's row before its ends: the word of its measure, and the names of what it speaks of.
use Rattle.std.specs.Prelude.{ℕ, List, codes}
use Rattle.hyper_model.specs.Measures.{subject_of, word_of}
use Rattle.hyper_model.specs.declared.kinds.Measure.{Measure}
use Rattle.hyper_model.specs.declared.kinds.Measure.TheVariants as measure
use Rattle.hyper_model.specs.declared.kinds.Subject.{Subject}
use Rattle.hyper_model.specs.declared.kinds.Subject.TheVariants as subject
use Rattle.fleet_measures.specs.declared.kinds.FleetMeasure.{FleetMeasure}
use Rattle.fleet_measures.specs.declared.kinds.FleetMeasure.TheVariants as fleet
use Rattle.crew_stations.specs.Stations.{StationPlan}
use Rattle.report_text.specs.Labels.{label_of}

-- the word of a plan's measure, with stations for units
abbrev pub station_word : Measure → List ℕ
station_word (measure.InterdistrictUnit k) = codes "interdistrict-station"
station_word (measure.TravelUnit k) = codes "travel-station"
station_word m = word_of m

abbrev pub fleet_word : FleetMeasure → List ℕ
fleet_word (fleet.Of m) = station_word m
fleet_word (fleet.Full k) = codes "full"

-- what a measure speaks of: a unit is a station
abbrev pub fleet_subject : FleetMeasure → Subject
fleet_subject (fleet.Of m) = subject_of m
fleet_subject (fleet.Full k) = subject.Unit k

abbrev pub fleet_label_bytes : StationPlan → FleetMeasure → List ℕ
fleet_label_bytes s m = label_of s.parts (fleet_word m) (fleet_subject m)
