use Rattle.std.proofs.Common.{◌≡◌, map, drop, string_bytes}
use Rattle.toml.specs.View.{array_view, items_view}
use Rattle.plan_compare.specs.Documents.{strings_in}
use Rattle.plan_compare.proofs.Documents.{all_after}
use Rattle.plan_compare.proofs.document.all_strings.Given as goal

abbrev pub invariant-loop-item : goal.invariant-loop-item
invariant-loop-item l =
    all_after (map string_bytes l.texts.items) (strings_in (items_view (drop l.item-index l.items.items)))
    ≡ strings_in (array_view l.items)
