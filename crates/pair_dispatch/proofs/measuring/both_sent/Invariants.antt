use Rattle.std.proofs.Common.{◌≡◌, ◌*◌, ◌^◌, ◌≤◌}
use Rattle.fixed_interval.specs.WeightList.{ends_at}
use Rattle.hyper_model.specs.Plans.{calls_of}
use Rattle.busy_words.specs.Parts.{weighed_ends}
use Rattle.pair_dispatch.specs.PairEnds.{part_of}
use Rattle.pair_dispatch.specs.declared.word_set.WordSet.TheVariants.{BothSent}
use Rattle.pair_dispatch.proofs.measuring.both_sent.Given as goal

abbrev pub invariant-loop-atom : goal.invariant-loop-atom
invariant-loop-atom l = record {
  sum : l.sum ≡ weighed_ends l.atom (calls_of l.plan)
      (λ j. part_of l.plan l.order (ends_at l.weights.items) (BothSent j l.first l.second));
  most : l.sum.hi ≤ l.atom * (1000000 * 2 ^ 62);
}
