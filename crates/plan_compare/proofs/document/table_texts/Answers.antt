use Rattle.std.proofs.Common.{◌≡◌, arith, map, string_bytes}
use Rattle.std.proofs.lemmas.Bool.{ne_eqb}
use Rattle.toml.specs.View.{table_view}
use Rattle.plan_compare.specs.Documents.{key_count}
use Rattle.plan_compare.proofs.Documents.{key_count-view, texts_of_both, texts_of_more}
use Rattle.plan_compare.proofs.document.table_texts.Goals as goal

pub returns-then-len-ne2 : goal.returns-then-len-ne2
returns-then-len-ne2 c =
    let entries = c.args.table.now.entries in
    texts_of_more (table_view c.args.table.now)
    (ne_eqb (key_count (table_view c.args.table.now)) 2 (omega (arith, key_count-view entries, c.if-len-ne2.true, c.len.ensures.len)))

pub returns : goal.returns
returns c =
    let entries = c.args.table.now.entries in
    let two : key_count (table_view c.args.table.now) ≡ 2 = omega (arith, key_count-view entries, c.if-len-ne2.false, c.len.ensures.len) in
    let test = rw (c.deref.ensures.value, c.deref-2.ensures.value) at c.is_in_form.ensures in
    rw c.if-not-is_in_form.false at
    (texts_of_both (table_view c.args.table.now) (map string_bytes c.in_ok-names.names.items) (map string_bytes c.in_ok-words.words.items)
    c.is_in_form.result two c.in_ok-names.ensures c.in_ok-words.ensures test)
