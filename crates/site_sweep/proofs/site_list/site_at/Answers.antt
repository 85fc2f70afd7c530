use Rattle.std.proofs.Common.{refl}
use Rattle.site_sweep.proofs.site_list.site_at.Goals as goal

pub returns : goal.returns
returns c = rw c.is_beaten-beaten.ensures refl
