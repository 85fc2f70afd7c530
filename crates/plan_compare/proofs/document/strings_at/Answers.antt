use Rattle.std.proofs.Common.{sym}
use Rattle.toml.specs.View.{table_view}
use Rattle.toml.proofs.Views.{table_get}
use Rattle.plan_compare.proofs.Documents.{strings_found}
use Rattle.plan_compare.proofs.document.strings_at.Goals as goal

pub returns-in-Some : goal.returns-in-Some
returns-in-Some c =
    let found = table_get c.get.result c.args.key.now c.args.table.now.entries c.get.ensures.value in
    rw (← strings_found _ c.args.key.now (table_view c.args.table.now) (rw c.in-Some.is at found)) c.strings_in.ensures

pub returns-in-None : goal.returns-in-None
returns-in-None c =
    let found = table_get c.get.result c.args.key.now c.args.table.now.entries c.get.ensures.value in
    sym (strings_found _ c.args.key.now (table_view c.args.table.now) (rw c.in-None.is at found))
