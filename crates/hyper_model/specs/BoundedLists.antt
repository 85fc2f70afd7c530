-- for how many more items a list of at most this many has room
use Rattle.std.specs.Prelude.{ℕ, ◌-◌, List, length}

abbrev pub spare : {T : Type 0} → ℕ → List T → ℕ
spare most items = most - length items
