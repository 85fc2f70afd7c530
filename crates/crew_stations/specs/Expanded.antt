-- The plan with a unit for each crew, in the order of the stations.
use Rattle.std.specs.Prelude.{ℕ, zero, suc, ◌*◌, ◌/◌, ◌%◌, nat_le, true, false, Bool, if◌then◌else◌, List, [], ◌∷◌, ◌++◌, map}
use Rattle.std.specs.List.{range_with_len}
use Rattle.hyper_model.specs.declared.kinds.Rule.TheVariants as rule
use Rattle.hyper_model.specs.declared.parts.Atom.{Atom}
use Rattle.hyper_model.specs.declared.parts.PlanParts.{PlanParts}
use Rattle.hyper_model.specs.declared.parts.Unit as declared_unit
use Rattle.hyper_model.specs.Grid.{Grid}
use Rattle.hyper_model.specs.Groups.{AtomList, GroupLists}
use Rattle.hyper_model.specs.Plans.{atoms, unit_name, located}
use Rattle.hyper_model.specs.Sums.{sum_below}
use Rattle.crew_stations.specs.Stations.{StationPlan, stations, crews_at, all_crews, crew_service, order_of}

-- the number of station k's first crew: the crews of the stations before it come first
abbrev pub first_crew : StationPlan → ℕ → ℕ
first_crew s k = sum_below k (crews_at s)

-- the station of crew n: the last one whose first crew does not come after it
abbrev pub station_among : (ℕ → ℕ) → ℕ → ℕ → ℕ
station_among crews zero n = 0
station_among crews (suc k) n = if nat_le (sum_below k crews) n then k else station_among crews k n

abbrev pub station_of : StationPlan → ℕ → ℕ
station_of s n = station_among (crews_at s) (stations s) n

-- the crews of station k
abbrev pub crews_of : StationPlan → ℕ → List ℕ
crews_of s k = range_with_len (first_crew s k) (crews_at s k)

-- a crew's name is its number before the name of its station
abbrev pub crew : StationPlan → ℕ → declared_unit.Unit
crew s n = record { name = n ∷ unit_name s.parts (station_of s n); rate = crew_service s (station_of s n) }

-- an atom of a station's district belongs to the station's first crew
abbrev pub crew_atom : StationPlan → Atom → Atom
crew_atom s atom = record atom { district = first_crew s atom.district }

-- groups as an atom's list: all their units, and where a group begins
abbrev pub joined : List (List ℕ) → List ℕ
joined [] = []
joined (group ∷ groups) = group ++ joined groups

abbrev pub marks : List ℕ → List Bool
marks [] = []
marks (unit ∷ units) = true ∷ map (λ _. false) units

abbrev pub beginnings : List (List ℕ) → List Bool
beginnings [] = []
beginnings (group ∷ groups) = marks group ++ beginnings groups

abbrev pub list_of_groups : List (List ℕ) → AtomList
list_of_groups groups = record { members = joined groups; begins = beginnings groups }

-- of each atom's stations, in order, the crews in one group
abbrev pub crew_groups : StationPlan → ℕ → List (List ℕ)
crew_groups s j = map (crews_of s) (order_of s j)

abbrev pub crew_lists : StationPlan → GroupLists
crew_lists s = record {
  units = all_crews s;
  rows = map (λ j. list_of_groups (crew_groups s j)) (range_with_len 0 (atoms s.parts));
}

-- the table with these cells
abbrev pub grid_of : ℕ → ℕ → (ℕ → ℕ → ℕ) → Grid
grid_of rows cols value = record {
  rows = rows;
  cols = cols;
  cells = map (λ c. value (c / cols) (c % cols)) (range_with_len 0 (rows * cols));
}

-- each crew waits where its station is
abbrev pub crew_places : StationPlan → Grid
crew_places s = grid_of (all_crews s) s.parts.located.cols (λ n k. located s.parts (station_of s n) k)

-- the plan with a unit for each crew, whose lists are given: of each atom the groups of its stations' crews
abbrev pub expanded : StationPlan → PlanParts
expanded s = record {
  line = s.parts.line;
  rule = rule.Given;
  period = s.parts.period;
  units = map (crew s) (range_with_len 0 (all_crews s));
  atoms = map (crew_atom s) s.parts.atoms;
  lists = crew_lists s;
  located = crew_places s;
  travel = s.parts.travel;
}
