-- Places on the map, and how far a unit is from a call.
use Rattle.std.specs.Prelude.{ℕ, ◌+◌, ◌*◌, ◌^◌, ◌<◌, ◌==◌, if◌then◌else◌, List, length, slice_index_or}
use Rattle.std.specs.Int.{abs_diff}
use Rattle.hyper_model.specs.Grid.{Grid, cell}
use Rattle.hyper_model.specs.Plans.{no_atom}
use Rattle.hyper_model.specs.Sums.{sum_below}
use Rattle.hyper_model.specs.declared.kinds.Rule.{Rule}
use Rattle.hyper_model.specs.declared.kinds.Rule.TheVariants.{Given, Strict, Modified}
use Rattle.hyper_model.specs.declared.parts.Atom.{Atom}
use Rattle.preference_rules.specs.declared.points.Point.{Point}

abbrev pub nth_atom : List Atom → ℕ → Atom
nth_atom atoms k = slice_index_or atoms k no_atom

-- the places of the atoms, each so many times as its weight says, over the sum of the weights or another number
abbrev pub weighed_place : List Atom → (ℕ → ℕ) → ℕ → Point
weighed_place atoms weight over = record {
  x = sum_below (length atoms) (λ k. weight k * (nth_atom atoms k).x);
  y = sum_below (length atoms) (λ k. weight k * (nth_atom atoms k).y);
  over = over;
}

-- where a unit is on average: at each atom for its thousandths
abbrev pub unit_place : List Atom → Grid → ℕ → Point
unit_place atoms located unit = weighed_place atoms (cell located unit) 1000

-- the rate of all calls of a district
abbrev pub district_rate : List Atom → ℕ → ℕ
district_rate atoms district =
    sum_below (length atoms) (λ k. if (nth_atom atoms k).district == district then (nth_atom atoms k).rate else 0)

-- what an atom counts in the mean place of a district whose calls have this rate: its own calls, and 1 if the
-- district has none; an atom of another district counts nothing
abbrev pub weight_in : ℕ → ℕ → Atom → ℕ
weight_in district rate atom =
    if atom.district == district then (if rate == 0 then 1 else atom.rate) else 0

abbrev pub district_weight : List Atom → ℕ → ℕ → ℕ
district_weight atoms district k = weight_in district (district_rate atoms district) (nth_atom atoms k)

-- where the calls of a district come from on average
abbrev pub district_place : List Atom → ℕ → Point
district_place atoms district =
    weighed_place atoms (district_weight atoms district) (sum_below (length atoms) (district_weight atoms district))

-- where a call of an atom is taken to come from: its district's mean place, or the atom itself
abbrev pub call_place : Rule → List Atom → Atom → Point
call_place Strict atoms atom = district_place atoms atom.district
call_place Modified atoms atom = record { x = atom.x; y = atom.y; over = 1 }
call_place Given atoms atom = record { x = atom.x; y = atom.y; over = 1 }

-- the way between two places along the two axes, times what both are over
abbrev pub way : Point → Point → ℕ
way a b = abs_diff (b.over * a.x) (a.over * b.x) + abs_diff (b.over * a.y) (a.over * b.y)

-- what it costs to send a unit to an atom's call
abbrev pub cost_of : Rule → List Atom → Grid → Atom → ℕ → ℕ
cost_of rule atoms located atom unit = way (unit_place atoms located unit) (call_place rule atoms atom)

-- small enough that the way between two such places can be counted in 128 bits
pub record IsNear (point : Point) : Type 0 where
  pub x : point.x < 2 ^ 80
  pub y : point.y < 2 ^ 80
  pub over : point.over < 2 ^ 41
