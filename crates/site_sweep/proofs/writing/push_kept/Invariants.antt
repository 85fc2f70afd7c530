use Rattle.std.proofs.Common.{◌≡◌, ◌++◌, take}
use Rattle.std.specs.List.{flat_map}
use Rattle.site_sweep.specs.Texts.{kept_row}
use Rattle.site_sweep.proofs.writing.push_kept.Given as goal

abbrev pub invariant-loop-k : goal.invariant-loop-k
invariant-loop-k l = l.text.items ≡ l.initial.text.items ++ flat_map (kept_row l.plan l.measure) (take l.k l.sites)
