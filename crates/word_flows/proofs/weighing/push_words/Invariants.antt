use Rattle.std.proofs.Common.{◌≡◌, ◌+◌, take}
use Rattle.hyper_model.specs.Solutions.{mass_in}
use Rattle.word_flows.specs.CertifiedWeights.{weights_between}
use Rattle.word_flows.proofs.weighing.push_words.Given as goal

abbrev pub invariant-loop-rank : goal.invariant-loop-rank
invariant-loop-rank l = record {
  items : l.weights.items ≡ weights_between (mass_in l.low) (mass_in l.high) (take l.rank l.order.words);
  spare : l.weights.spare + l.rank ≡ l.initial.weights.spare;
}
