use Rattle.std.proofs.Common.{◌-◌, subst}
use Rattle.state_reduction.proofs.Reductions.{ArePartsOf}
use Rattle.state_reduction.proofs.elimination.retire_last.Goals as goal

pub returns-clause-parts : goal.returns-clause-parts
returns-clause-parts c =
    subst (λ n. ArePartsOf c.args.m.now (n - 1) c.fill_parts.new.scratch) c.alive-state.ensures.alive c.fill_parts.ensures.parts
