-- the mean travel time of a free unit to an atom, in thousandths of a second, of two tables: how long each
-- unit is at each place, in thousandths, and the seconds from each place to each atom
use Rattle.std.specs.Prelude.{ℕ, ◌*◌}
use Rattle.hyper_model.specs.Sums.{sum_below}
use Rattle.hyper_model.specs.Grid.{Grid, cell}

abbrev pub mean_travel_in : Grid → Grid → ℕ → ℕ → ℕ
mean_travel_in located travel unit atom = sum_below located.cols (λ k. cell located unit k * cell travel k atom)
