use Rattle.std.proofs.Common.{◌≡◌, ◌<◌, ℕ}
use Rattle.hyper_model.specs.Acceptance.{name_at}
use Rattle.hyper_model.proofs.own_names.is_named_before.Given as goal

abbrev pub invariant-loop-m : goal.invariant-loop-m
invariant-loop-m g l = (i : ℕ) → i < l.m → name_at g.T.HasName.name_of l.things i ≡ name_at g.T.HasName.name_of l.things l.n → ⊥
