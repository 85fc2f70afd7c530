use Rattle.csv.specs.Records.{fields_of}
use Rattle.plan_text.proofs.CleanedFields.{field_at-beyond, field_at-trimmed}
use Rattle.plan_text.proofs.cleaning.trimmed_at.Goals as goal

pub returns-in-Some : goal.returns-in-Some
returns-in-Some c =
    rw (c.trim_back.ensures, c.trim_front.ensures) (field_at-trimmed (fields_of c.args.source.now) c.args.place c.in-Some.field.now c.in-Some.ensures.value)

pub returns-in-None : goal.returns-in-None
returns-in-None c = field_at-beyond (fields_of c.args.source.now) c.args.place c.in-None.ensures.value
