use Rattle.std.specs.Prelude.{ℕ}
use Rattle.outer_world.specs.declared.sure_shelf.SureShelf.{SureShelf}

-- the most bytes that a read gives
abbrev pub step_of : SureShelf → ℕ
step_of shelf = shelf.step
