use Rattle.std.proofs.Common.{◌≡◌, ◌∙◌, ◌<◌, List, ap, inr, length, sym, arith}
use Rattle.std.proofs.lemmas.List.{length-map}
use Rattle.std.proofs.lemmas.Result.{err_from_is_err_and}
use Rattle.hyper_model.specs.declared.parts.Unit as declared_unit
use Rattle.atom_table.specs.Entries.{atom_names, unit_names}
use Rattle.preference_rules.specs.declared.refusal.ListRefusal.TheVariants.{NoMemory}
use Rattle.preference_rules.proofs.GivenRows.{filled_so, given-done, given-stop_list, given-stop_record}
use Rattle.preference_rules.proofs.given.given_lists.Goals as goal

name_count : (units : List declared_unit.Unit) → length (unit_names units) ≡ length units
name_count units = length-map units (λ (unit : declared_unit.Unit). unit.name)

pub returns-in_err-drafts : goal.returns-in_err-drafts
returns-in_err-drafts c =
    let p = err_from_is_err_and c.from_residual.result c.from_residual.ensures.1 in
    rw (p.1, p.2) (given-stop_record (unit_names c.args.names.now.units) (atom_names c.args.names.now.atoms) c.args.records.now
    c.in_err-drafts.field-0.0 NoMemory c.in_err-drafts.ensures.refusal)

pub returns-in_err-check_drafts : goal.returns-in_err-check_drafts
returns-in_err-check_drafts c =
    let p = err_from_is_err_and c.from_residual-in_err-check_drafts.result c.from_residual-in_err-check_drafts.ensures.1 in
    let many = c.len-units.ensures.number ∙ ap (λ (units : List declared_unit.Unit). length units) c.units.ensures.units
    ∙ sym (name_count c.args.names.now.units) in
    rw (p.1, p.2) (inr (given-stop_list (unit_names c.args.names.now.units) (atom_names c.args.names.now.atoms) c.args.records.now
    c.len-units.result c.in_ok-drafts.drafts.items c.in_err-check_drafts.field-0.0 many c.in_ok-drafts.ensures.drafts c.in_ok-drafts.ensures.refusal
    c.in_err-check_drafts.ensures))

pub draft_lists-requires-clause-rows : goal.draft_lists-requires-clause-rows
draft_lists-requires-clause-rows c =
    let many = c.len-units.ensures.number ∙ ap (λ (units : List declared_unit.Unit). length units) c.units.ensures.units
    ∙ sym (name_count c.args.names.now.units) in
    let some : 0 < length (unit_names c.args.names.now.units) =
    omega (arith, name_count c.args.names.now.units, c.units.ensures.number.low) in
    filled_so (unit_names c.args.names.now.units) (atom_names c.args.names.now.atoms) c.args.records.now c.len-units.result
    c.in_ok-drafts.drafts.items some many c.in_ok-drafts.ensures.drafts c.in_ok-check_drafts.ensures

pub returns : goal.returns
returns c =
    let many = c.len-units.ensures.number ∙ ap (λ (units : List declared_unit.Unit). length units) c.units.ensures.units
    ∙ sym (name_count c.args.names.now.units) in
    given-done (unit_names c.args.names.now.units) (atom_names c.args.names.now.atoms) c.args.records.now c.len-units.result
    c.in_ok-drafts.drafts.items c.in_ok-lists.lists many c.in_ok-drafts.ensures.drafts c.in_ok-drafts.ensures.refusal
    c.in_ok-check_drafts.ensures c.in_ok-lists.ensures
