use Rattle.std.proofs.Common.{sym, subst}
use Rattle.hyper_model.specs.Plans.{IsAccepted}
use Rattle.fleet_measures.proofs.Pooling.{pooled_accepted}
use Rattle.fleet_measures.proofs.pool.pooled.Goals as goal

pub of_accepted-requires : goal.of_accepted-requires
of_accepted-requires c =
    subst IsAccepted (sym c.in_ok-parts.ensures) (pooled_accepted c.args.fleet.now c.law_fleet.ensures)
