use Rattle.std.proofs.Common.{◌≡◌, ◌++◌, take}
use Rattle.std.specs.List.{flat_map}
use Rattle.pair_dispatch.specs.PairTexts.{ends_row}
use Rattle.pair_dispatch.proofs.texts.push_rows.Given as goal

abbrev pub invariant-loop-place : goal.invariant-loop-place
invariant-loop-place l = l.text.items ≡ l.fn.text.items ++ flat_map (ends_row l.plan) (take l.place l.found)
