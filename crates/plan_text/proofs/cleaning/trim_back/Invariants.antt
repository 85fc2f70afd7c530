use Rattle.std.proofs.Common.{◌≡◌, length}
use Rattle.plan_text.specs.Rows.{drop_last_while, is_blank}
use Rattle.plan_text.proofs.cleaning.trim_back.Given as goal

abbrev pub invariant-loop-rest : goal.invariant-loop-rest
invariant-loop-rest l = drop_last_while is_blank l.rest ≡ drop_last_while is_blank l.field

abbrev pub decreases-loop-rest : goal.decreases-loop-rest
decreases-loop-rest l = length l.rest
