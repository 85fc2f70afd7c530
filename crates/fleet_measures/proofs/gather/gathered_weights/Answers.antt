use Rattle.std.proofs.Common.{◌≡◌, suc, ◌+◌, ◌^◌, ◌<◌, List, [], ◌∷◌, length, length-append, ap, subst, ◌∙◌, arith}
use Rattle.fixed_interval.specs.Ends.{Ends, shifted_ends}
use Rattle.fixed_interval.specs.WeightList.{IsLeastShift, ends_at}
use Rattle.busy_words.specs.Algebra.{total_ends}
use Rattle.busy_words.specs.Order.{word_at}
use Rattle.hyper_model.specs.Words.{words}
use Rattle.crew_stations.specs.Stations.{stations}
use Rattle.fleet_measures.specs.Pooled.{pooled, pooled_weight}
use Rattle.fleet_measures.proofs.WordSums.{gathered_are, next_weight, places_few, pooled_fits, states_fit, sum_at, word_inside}
use Rattle.fleet_measures.proofs.gather.gathered_weights.Goals as goal

pub total-requires : goal.total-requires
total-requires c = omega (arith, c.requires.one_each, places_few c.args.fleet.now c.law_fleet.ensures)

pub index-requires : goal.index-requires
index-requires c =
    omega (
      arith,
      word_inside c.args.fleet.now c.args.order.now c.word.result c.from-word.result c.requires.order.same_units
          c.word.ensures.below c.from-word.ensures,
      c.in_ok-sums.ensures.count,
    )

pub push-requires : goal.push-requires
push-requires c =
    let s = c.args.fleet.now in
    let items = c.args.weights.now.items in
    let power = c.least_shift-power.result in
    let word = c.from-word.result in
    let inside : word < 2 ^ stations s =
    word_inside s c.args.order.now c.word.result word c.requires.order.same_units c.word.ensures.below c.from-word.ensures in
    let is : c.shifted.result ≡ shifted_ends power (pooled_weight s (ends_at items) word) =
    c.shifted.ensures.ends
    ∙ ap (shifted_ends power) (sum_at s items c.in_ok-sums.sums.items word c.index.result.now c.in_ok-sums.ensures.count
    c.in_ok-sums.ensures.sums inside c.index.ensures) in
    let least : IsLeastShift (total_ends (length items) (ends_at items)).hi power =
    subst (λ n. IsLeastShift n power) (c.hi.ensures.end ∙ ap (λ (e : Ends). e.hi) c.total.ensures.sum)
    c.least_shift-power.ensures.least in
    let fits = pooled_fits s items word power (omega (arith, c.requires.one_each, states_fit s)) least.fits in (
      omega arith,
      (
        omega (arith, c.loop-rank.invariant.spare, c.in_ok-gathered.ensures.room, c.len-rank-end.ensures.most),
        omega (arith, ap (λ (e : Ends). e.hi) is, fits),
      ),
    )

pub loop-rank-preserved : goal.loop-rank-preserved
loop-rank-preserved c =
    let s = c.args.fleet.now in
    let items = c.args.weights.now.items in
    let power = c.least_shift-power.result in
    let word = c.from-word.result in
    let inside : word < 2 ^ stations s =
    word_inside s c.args.order.now c.word.result word c.requires.order.same_units c.word.ensures.below c.from-word.ensures in
    let is : c.shifted.result ≡ shifted_ends power (pooled_weight s (ends_at items) (word_at c.args.order.now c.loop-rank.rank)) =
    c.shifted.ensures.ends
    ∙ ap (shifted_ends power) (sum_at s items c.in_ok-sums.sums.items word c.index.result.now c.in_ok-sums.ensures.count
    c.in_ok-sums.ensures.sums inside c.index.ensures
    ∙ ap (pooled_weight s (ends_at items)) (c.from-word.ensures ∙ c.word.ensures.word)) in
    let next : c.loop-rank.rank + 1 ≡ suc c.loop-rank.rank = omega arith in
    record {
      count = ap (λ (list : List Ends). length list) c.push.ensures.items
          ∙ omega (arith, length-append c.loop-rank.gathered.items (c.shifted.result ∷ []), c.loop-rank.invariant.count);
      spare = omega (arith, c.loop-rank.invariant.spare, c.push.ensures.spare);
      each = next_weight
          (λ i. shifted_ends power (pooled_weight s (ends_at items) (word_at c.args.order.now i))) c.loop-rank.rank
          (c.loop-rank.rank + 1) c.loop-rank.gathered.items c.push.new.self.items c.shifted.result c.loop-rank.invariant.count
          next c.loop-rank.invariant.each is c.push.ensures.items;
    }

pub returns : goal.returns
returns c =
    let s = c.args.fleet.now in
    let items = c.args.weights.now.items in
    let power = c.least_shift-power.result in
    let least : IsLeastShift (total_ends (length items) (ends_at items)).hi power =
    subst (λ n. IsLeastShift n power) (c.hi.ensures.end ∙ ap (λ (e : Ends). e.hi) c.total.ensures.sum)
    c.least_shift-power.ensures.least in
    let end : c.loop-rank.rank ≡ words (pooled s) =
    omega (arith, c.len-rank-end.ensures.words, ap (λ n. 2 ^ n) c.requires.order.same_units) in
    gathered_are s c.args.order.now items c.loop-rank.gathered.items c.push_waiting.new.gathered.items power least
    (c.loop-rank.invariant.count ∙ end) (λ i l. c.loop-rank.invariant.each i (omega (arith, l, end))) c.push_waiting.ensures
