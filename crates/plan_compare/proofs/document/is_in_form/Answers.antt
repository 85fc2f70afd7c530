use Rattle.std.proofs.Common.{◌∙◌}
use Rattle.plan_compare.proofs.StudyForms.{form_of}
use Rattle.plan_compare.proofs.document.is_in_form.Goals as goal

pub returns-then-have_name_length : goal.returns-then-have_name_length
returns-then-have_name_length c =
    let form = form_of c.args.names.now c.args.words.now c.have_name_length.result c.have_name_length.ensures in
    c.is_within.ensures ∙ (rw c.if-have_name_length.true at form)

pub returns-else-have_name_length : goal.returns-else-have_name_length
returns-else-have_name_length c =
    let form = form_of c.args.names.now c.args.words.now c.have_name_length.result c.have_name_length.ensures in
    c.if-have_name_length.false ∙ (rw c.if-have_name_length.false at form)
