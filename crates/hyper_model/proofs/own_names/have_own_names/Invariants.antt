use Rattle.hyper_model.specs.Acceptance.{HaveOwnNames, name_at}
use Rattle.hyper_model.proofs.own_names.have_own_names.Given as goal

abbrev pub invariant-loop-n : goal.invariant-loop-n
invariant-loop-n g l = HaveOwnNames l.n (name_at g.T.HasName.name_of l.things)
