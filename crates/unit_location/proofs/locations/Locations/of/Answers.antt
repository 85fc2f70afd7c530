use Rattle.std.proofs.Common.{◌≡◌, ◌∙◌, inr, sym, ap, subst}
use Rattle.std.specs.Prelude.{None, Some, Result, Ok}
use Rattle.std.proofs.lemmas.Result.{err_from_is_err_and}
use Rattle.hyper_model.specs.Grid.{Grid}
use Rattle.atom_table.specs.Pairs.{PairTable}
use Rattle.atom_table.proofs.StepByStep.{unless_wanting}
use Rattle.unit_location.specs.Located.{located_in, sums_refusal}
use Rattle.unit_location.specs.declared.refusal.LocationRefusal.{LocationRefusal}
use Rattle.unit_location.proofs.LocationSteps.{located_of-read, located_of-sum, located_of-twice, sums_refusal-none}
use Rattle.unit_location.proofs.locations.Locations.of.Goals as goal

pub returns-in_err-shares : goal.returns-in_err-shares
returns-in_err-shares c =
    let p = err_from_is_err_and c.from_residual.result c.from_residual.ensures.1 in
    rw (p.1, p.2) (unless_wanting (located_of-twice c.args.names.now c.args.records.now c.in_err-shares.field-0.0) c.in_err-shares.ensures.refusal)

pub returns-in_err-check_sums : goal.returns-in_err-check_sums
returns-in_err-check_sums c =
    let p = err_from_is_err_and c.from_residual-in_err-check_sums.result c.from_residual-in_err-check_sums.ensures.1 in
    let same : c.into_table-table.result ≡ located_in c.args.names.now c.args.records.now =
    c.into_table-table.ensures ∙ ap (λ (shares : PairTable). shares.table) c.in_ok-shares.ensures.shares in
    let refused : sums_refusal (located_in c.args.names.now c.args.records.now) ≡ Some c.in_err-check_sums.field-0.0 =
    subst (λ (table : Grid). sums_refusal table ≡ Some c.in_err-check_sums.field-0.0) same c.in_err-check_sums.ensures in
    rw (p.1, p.2) (inr (located_of-sum c.args.names.now c.args.records.now c.in_err-check_sums.field-0.0 c.in_ok-shares.ensures.refusal refused))

pub invariant_of-result : goal.invariant_of-result
invariant_of-result c = sums_refusal-none c.into_table-table.result c.in_ok-check_sums.ensures

pub returns : goal.returns
returns c =
    let same : c.into_table-table.result ≡ located_in c.args.names.now c.args.records.now =
    c.into_table-table.ensures ∙ ap (λ (shares : PairTable). shares.table) c.in_ok-shares.ensures.shares in
    let whole : sums_refusal (located_in c.args.names.now c.args.records.now) ≡ None =
    subst (λ (table : Grid). sums_refusal table ≡ None) same c.in_ok-check_sums.ensures in
    located_of-read c.args.names.now c.args.records.now c.in_ok-shares.ensures.refusal whole
    ∙ ap {A = Grid} {B = Result Grid LocationRefusal} (λ table. Ok table) (sym same)
