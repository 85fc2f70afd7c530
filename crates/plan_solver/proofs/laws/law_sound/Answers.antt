use Rattle.plan_solver.proofs.SoundMeasures.{sound_by, sound_contains, sound_in_range}
use Rattle.plan_solver.proofs.laws.law_sound.Goals as goal

pub returns : goal.returns
returns c = record { sound = sound_by; contains = sound_contains; in_range = sound_in_range }
