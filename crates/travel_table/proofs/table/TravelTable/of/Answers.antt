use Rattle.std.proofs.Common.{◌≡◌, ◌∙◌, inr, length, sym}
use Rattle.std.specs.Prelude.{None, Some, find, not}
use Rattle.std.specs.List.{range_with_len}
use Rattle.std.proofs.lemmas.Result.{err_from_is_err_and}
use Rattle.atom_table.specs.Pairs.{is_known}
use Rattle.atom_table.proofs.StepByStep.{unless_wanting}
use Rattle.travel_table.specs.Travel.{first_missing}
use Rattle.travel_table.proofs.TravelSteps.{gap_refusal-of, travel_of-gap, travel_of-read, travel_of-twice}
use Rattle.travel_table.proofs.table.TravelTable.of.Goals as goal

pub returns-in_err-trips : goal.returns-in_err-trips
returns-in_err-trips c =
    let p = err_from_is_err_and c.from_residual.result c.from_residual.ensures.1 in
    rw (p.1, p.2) (unless_wanting (travel_of-twice c.args.names.now c.args.records.now c.in_err-trips.field-0.0) c.in_err-trips.ensures.refusal)

pub returns-in_err-check_gaps : goal.returns-in_err-check_gaps
returns-in_err-check_gaps c =
    let p = err_from_is_err_and c.from_residual-in_err-check_gaps.result c.from_residual-in_err-check_gaps.ensures.1 in
    let size : c.len.result ≡ length c.args.names.now.atoms = rw c.atoms.ensures.atoms at c.len.ensures.number in
    let gap : first_missing (length c.args.names.now.atoms)
    (find (λ pair. not (is_known c.in_ok-trips.trips pair)) (range_with_len 0 (length c.in_ok-trips.trips.known)))
    ≡ Some c.in_err-check_gaps.field-0.0 = rw size at c.in_err-check_gaps.ensures in
    rw (p.1, p.2) (inr (travel_of-gap c.args.names.now c.args.records.now c.in_err-check_gaps.field-0.0 c.in_ok-trips.ensures.refusal
    (sym (gap_refusal-of c.args.names.now c.args.records.now c.in_ok-trips.trips c.in_ok-trips.ensures.trips) ∙ gap)))

pub returns : goal.returns
returns c =
    let size : c.len.result ≡ length c.args.names.now.atoms = rw c.atoms.ensures.atoms at c.len.ensures.number in
    let gap : first_missing (length c.args.names.now.atoms)
    (find (λ pair. not (is_known c.in_ok-trips.trips pair)) (range_with_len 0 (length c.in_ok-trips.trips.known)))
    ≡ None = rw size at c.in_ok-check_gaps.ensures in
    rw (c.into_table.ensures, c.in_ok-trips.ensures.trips)
    (travel_of-read c.args.names.now c.args.records.now c.in_ok-trips.ensures.refusal
    (sym (gap_refusal-of c.args.names.now c.args.records.now c.in_ok-trips.trips c.in_ok-trips.ensures.trips) ∙ gap))
