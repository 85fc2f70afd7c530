-- The two ends of an interval, as what was found of a measure.
use Rattle.fixed_interval.specs.Ends.{Ends}
use Rattle.hyper_model.specs.declared.kinds.Measure.{Measure}
use Rattle.hyper_model.specs.declared.kinds.Found.{Found}
use Rattle.hyper_model.specs.declared.kinds.Found.TheVariants as found
use Rattle.hyper_model.specs.declared.kinds.Enclosed.{Enclosed}

abbrev pub found_ends : Ends → Found
found_ends a = found.Ends a.lo a.hi

abbrev pub measure_ends : Measure → Ends → Enclosed
measure_ends m a = record { measure = m; found = found_ends a }
