use Rattle.std.proofs.Common.{inr}
use Rattle.std.proofs.lemmas.Result.{err_from_is_err_and}
use Rattle.plan_text.proofs.NoGroups.{fleet-ungrouped}
use Rattle.plan_reader.proofs.AcceptedFleet.{is_fleet}
use Rattle.plan_reader.proofs.FleetSteps.{fleet_of-done, fleet_of-refused}
use Rattle.plan_reader.proofs.fleet.read_fleet.Goals as goal

pub returns-in_err-check_limits-clause-fleet : goal.returns-in_err-check_limits-clause-fleet
returns-in_err-check_limits-clause-fleet c =
    let p = err_from_is_err_and c.from_residual-in_err-check_limits.result c.from_residual-in_err-check_limits.ensures.1 in
    rw (p.1, p.2) (inr (fleet_of-refused c.args.bytes.now c.in_ok-records.records.items c.in_ok-parts.parts c.in_ok-crews.crews
    c.in_ok-records.ensures.records (rw c.deref.ensures.value at c.in_ok-parts.ensures.parts)
    (rw c.deref-2.ensures.value at c.in_ok-check_crews.ensures) (rw c.deref-3.ensures.value at c.in_ok-crews.ensures)
    c.in_err-check_limits.field-0.0 c.in_err-check_limits.ensures))

pub of_accepted-requires : goal.of_accepted-requires
of_accepted-requires c =
    let counted = rw c.deref-3.ensures.value at c.in_ok-crews.ensures in
    rw counted (is_fleet c.in_ok-records.records.items c.in_ok-parts.parts c.in_ok-records.ensures.form
    (fleet-ungrouped c.args.bytes.now c.in_ok-records.records.items c.in_ok-records.ensures.records) c.in_ok-parts.ensures.whole
    (rw c.deref.ensures.value at c.in_ok-parts.ensures.parts) (rw counted at c.in_ok-check_limits.ensures))

pub returns-clause-fleet : goal.returns-clause-fleet
returns-clause-fleet c =
    rw c.of_accepted.ensures (fleet_of-done c.args.bytes.now c.in_ok-records.records.items c.in_ok-parts.parts c.in_ok-crews.crews
    c.in_ok-records.ensures.records (rw c.deref.ensures.value at c.in_ok-parts.ensures.parts)
    (rw c.deref-2.ensures.value at c.in_ok-check_crews.ensures) (rw c.deref-3.ensures.value at c.in_ok-crews.ensures) c.in_ok-check_limits.ensures)
