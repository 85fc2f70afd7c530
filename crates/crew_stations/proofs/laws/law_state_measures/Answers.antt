use Rattle.crew_stations.proofs.Exhausted.{shares_are_of_states}
use Rattle.crew_stations.proofs.Ratios.{measures_are_of_states, ends_carry_over, ends_of_equal}
use Rattle.crew_stations.proofs.laws.law_state_measures.Goals as goal

pub returns : goal.returns
returns c = record { measures = measures_are_of_states; full = shares_are_of_states; ends = ends_carry_over; equal_ends = ends_of_equal }
