use Rattle.travel_measures.proofs.Contain.{times_contained, times_in_range, times_without}
use Rattle.travel_measures.proofs.laws.law_travel_times.Goals as goal

pub returns : goal.returns
returns c = record { contains = times_contained; in_range = times_in_range; without = times_without }
