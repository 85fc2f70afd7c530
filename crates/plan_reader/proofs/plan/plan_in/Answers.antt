use Rattle.plan_reader.proofs.AcceptedPlan.{accepted_parts}
use Rattle.plan_reader.proofs.plan.plan_in.Goals as goal

pub of_accepted-requires : goal.of_accepted-requires
of_accepted-requires c =
    accepted_parts c.in_ok-parts.parts c.in_ok-parts.ensures.whole (rw (c.calls.ensures, c.service.ensures) at c.in_ok-check_stable.ensures)
