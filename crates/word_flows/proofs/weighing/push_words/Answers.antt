use Rattle.std.proofs.Common.{◌+◌, ◌<◌, length, ap, ◌∙◌, arith}
use Rattle.fixed_interval.specs.Ends.{between, shifted_ends}
use Rattle.hyper_model.specs.Solutions.{mass_in}
use Rattle.word_flows.proofs.Enclosing.{weights_more}
use Rattle.word_flows.proofs.weighing.push_words.Goals as goal

pub loop-rank-preserved : goal.loop-rank-preserved
loop-rank-preserved c =
    let low = mass_in c.args.low.now in
    let high = mass_in c.args.high.now in
    let inside : c.loop-rank.rank < length c.args.order.now.words = omega (arith, c.len-rank-end.ensures.same) in
    record {
      items = weights_more low high c.args.order.now.words c.loop-rank.weights.items c.push_shifting.new.self.items
          c.loop-rank.rank c.weight_between.result inside c.loop-rank.invariant.items
          (c.weight_between.ensures.ends
          ∙ ap (λ w. shifted_ends 10 (between (low w) (high w))) (c.from-word.ensures ∙ c.word.ensures.word))
          c.weight_between.ensures.most c.push_shifting.ensures.items;
      spare = omega (arith, c.push_shifting.ensures.spare);
    }
