use Rattle.std.proofs.Common.{◌≡◌, ◌/◌, ◌^◌, ◌<◌, cond}
use Rattle.hyper_model.specs.Sums.{sum_below}
use Rattle.crew_stations.specs.Stations.{has_room, stride_of}
use Rattle.fleet_measures.proofs.gather.exhausted_word.Given as goal

abbrev pub invariant-loop-k : goal.invariant-loop-k
invariant-loop-k l = record {
  word : l.word ≡ sum_below l.k (λ k. cond (has_room l.fleet l.state k) 0 (2 ^ k));
  below : l.word < 2 ^ l.k;
  rest : l.rest ≡ l.state / stride_of l.fleet l.k;
}
