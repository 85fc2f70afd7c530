use Rattle.std.proofs.Common.{arith, string_bytes}
use Rattle.std.proofs.lemmas.List.{length-map}
use Rattle.plan_compare.proofs.StudyForms.{name_between}
use Rattle.plan_compare.proofs.study.Study.plan_name.Goals as goal

pub returns-clause-length : goal.returns-clause-length
returns-clause-length c =
    let names = c.self.inside.names.items in
    let within = rw (← c.self.view_is) at c.requires in
    rw c.as_str.ensures.value
    (name_between names c.args.i c.index.result.now c.self.invariant.named (omega (arith, length-map names string_bytes, within))
    c.index.ensures)
