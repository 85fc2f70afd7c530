use Rattle.std.proofs.Common.{◌≡◌, suc, ◌+◌, ◌^◌, ◌≤◌, eqb, ap, ap₂, ◌∙◌, arith, length-set}
use Rattle.std.proofs.lemmas.List.{get_or_default}
use Rattle.fixed_interval.specs.Ends.{Ends, between, plus_ends}
use Rattle.fixed_interval.specs.WeightList.{ends_at}
use Rattle.busy_words.specs.Parts.{set_ends}
use Rattle.crew_stations.specs.Stations.{stations, states}
use Rattle.fleet_measures.specs.Pooled.{exhausted_word}
use Rattle.fleet_measures.proofs.WordSums.{next_most, next_sums}
use Rattle.fleet_measures.proofs.gather.sums_by_word.Goals as goal

pub loop-state-preserved : goal.loop-state-preserved
loop-state-preserved c =
    let s = c.args.fleet.now in
    let items = c.args.weights.now.items in
    let n = c.loop-state.state in
    let word = c.exhausted_word-word.result in
    let sums = c.loop-state.sums.items in
    let next : n + 1 ≡ suc n = omega arith in
    let small : (ends_at items n).hi ≤ 2 ^ 52 = omega (arith, ap (λ (e : Ends). e.hi) c.get.ensures.item, c.get.ensures.in_range) in
    let here : c.plus.result ≡ plus_ends (ends_at sums word) (ends_at items n) =
    c.plus.ensures.ends ∙ ap₂ plus_ends (c.index.ensures ∙ get_or_default sums word c.index.result.now (between 0 0)
    (omega (arith, c.exhausted_word-word.ensures.below, c.loop-state.invariant.count)))
    (c.wide.ensures.ends ∙ c.get.ensures.item) in
    record {
      count = length-set sums word c.plus.result ∙ c.loop-state.invariant.count;
      sums = next_sums s (ends_at items) n (n + 1) word sums c.plus.result c.loop-state.invariant.count next
          c.exhausted_word-word.ensures.word c.exhausted_word-word.ensures.below c.loop-state.invariant.sums here;
      most = next_most n (n + 1) word (2 ^ stations s) sums c.plus.result (ends_at items n)
          c.exhausted_word-word.ensures.below c.loop-state.invariant.count next c.loop-state.invariant.most here small;
    }

pub returns-clause-sums : goal.returns-clause-sums
returns-clause-sums c =
    let s = c.args.fleet.now in
    let end : c.loop-state.state ≡ states s = omega (arith, c.states-state-end.ensures.states) in
    λ word l.
    c.loop-state.invariant.sums word l
    ∙ ap (λ n. set_ends n (λ a. eqb (exhausted_word s a) word) (ends_at c.args.weights.now.items)) end
