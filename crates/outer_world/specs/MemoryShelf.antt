use Rattle.std.specs.Prelude.{ℕ, List}
use Rattle.outer_world.specs.declared.memory_shelf.MemoryShelf.{MemoryShelf}

-- the most bytes that a read gives
abbrev pub step_of : MemoryShelf → ℕ
step_of shelf = shelf.step

-- the numbers of the calls that are to fail
abbrev pub fails_of : MemoryShelf → List ℕ
fails_of shelf = shelf.faults.fails.now
