use Rattle.std.proofs.Common.{◌∙◌, Some, ap, inr}
use Rattle.csv.specs.Reading.{strip_bom}
use Rattle.plan_text.proofs.WholeReading.{strip_bom-without_marks}
use Rattle.plan_text.proofs.row_list.row_reader.Goals as goal

pub returns-clause-trim : goal.returns-clause-trim
returns-clause-trim c =
    let fr = c.from_reader.ensures in
    rw (c.flexible.ensures, c.has_headers.ensures) at fr.trim ∙ c.new.ensures.trim

pub returns-clause-ready : goal.returns-clause-ready
returns-clause-ready c =
    let fr = c.from_reader.ensures in
    inr (inr (rw (c.flexible.ensures, c.has_headers.ensures) at fr.has_headers, fr.headers))

pub returns-clause-config : goal.returns-clause-config
returns-clause-config c =
    let fr = c.from_reader.ensures in
    rw (c.flexible.ensures, c.has_headers.ensures) at fr.config ∙ c.new.ensures.config

pub returns-clause-source : goal.returns-clause-source
returns-clause-source c =
    c.from_reader.ensures.source ∙ ap Some (ap strip_bom c.skip_marks.ensures ∙ strip_bom-without_marks c.args.bytes.now)
