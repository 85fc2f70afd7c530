use Rattle.std.specs.Prelude.{ℕ, List}
use Rattle.outer_world.specs.declared.memory_sink.MemorySink.{MemorySink}

-- the most bytes that a write takes
abbrev pub step_of : MemorySink → ℕ
step_of sink = sink.step

-- the numbers of the calls that are to fail
abbrev pub fails_of : MemorySink → List ℕ
fails_of sink = sink.faults.fails.now
