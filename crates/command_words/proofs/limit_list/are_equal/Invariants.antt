use Rattle.std.proofs.Common.{◌≡◌, take}
use Rattle.command_words.proofs.limit_list.are_equal.Given as goal

abbrev pub invariant-loop-place : goal.invariant-loop-place
invariant-loop-place l = take l.place l.first ≡ take l.place l.second
