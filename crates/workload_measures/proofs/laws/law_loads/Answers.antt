use Rattle.workload_measures.proofs.Contain.{loads_contain_masses, loads_contained, loads_in_range}
use Rattle.workload_measures.proofs.laws.law_loads.Goals as goal

pub returns : goal.returns
returns c = record { contains = loads_contained; contains_masses = loads_contain_masses; in_range = loads_in_range }
