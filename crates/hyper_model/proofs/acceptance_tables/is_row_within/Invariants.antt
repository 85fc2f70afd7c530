use Rattle.std.proofs.Common.{◌<◌, ◌≤◌, ℕ}
use Rattle.hyper_model.specs.Grid.{cell}
use Rattle.hyper_model.proofs.acceptance_tables.is_row_within.Given as goal

abbrev pub invariant-loop-c : goal.invariant-loop-c
invariant-loop-c l = (c : ℕ) → c < l.c → cell l.table l.r c ≤ 100000
