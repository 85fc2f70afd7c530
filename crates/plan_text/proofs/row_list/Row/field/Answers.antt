use Rattle.std.proofs.Common.{◌∙◌, arith}
use Rattle.csv.specs.Records.{fields_of}
use Rattle.plan_text.proofs.CleanedFields.{clean_row-field}
use Rattle.plan_text.proofs.row_list.Row.field.Goals as goal

pub returns-then-place-self : goal.returns-then-place-self
returns-then-place-self c =
    rw (← c.self.view_is) (c.trimmed_at.ensures ∙ clean_row-field (fields_of c.self.inside.source.now) c.args.place (omega (arith, c.if-place-self.true, c.self.invariant)))
