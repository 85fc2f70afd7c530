use Rattle.std.proofs.Common.{◌*◌, ◌^◌, ◌≤◌}
use Rattle.word_flows.proofs.levels.level_flows.Given as goal

abbrev pub invariant-loop-word : goal.invariant-loop-word
invariant-loop-word l = (l.coming ≤ l.word * 2 ^ 115) × (l.ending ≤ l.word * 2 ^ 115)
