use Rattle.state_reduction.proofs.Runs.{begins_sound}
use Rattle.state_reduction.proofs.Soundness.{stays_sound}
use Rattle.state_reduction.proofs.law_soundness.Goals as goal

pub returns : goal.returns
returns c = record { begins = begins_sound; stays = stays_sound }
