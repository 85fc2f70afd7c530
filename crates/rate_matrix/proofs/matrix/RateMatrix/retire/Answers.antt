use Rattle.rate_matrix.proofs.BandLemmas.{sound_retired}
use Rattle.rate_matrix.proofs.matrix.RateMatrix.retire.Goals as goal

pub invariant_of-self : goal.invariant_of-self
invariant_of-self c =
    let alive = rw (← c.self.view_is) at c.requires in
    sound_retired _ c.self.invariant alive
