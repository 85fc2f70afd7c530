use Rattle.std.specs.Prelude.{ℕ}
use Rattle.outer_world.specs.declared.sure_sink.SureSink.{SureSink}

-- the most bytes that a write takes
abbrev pub step_of : SureSink → ℕ
step_of sink = sink.step
