use Rattle.std.proofs.Common.{◌≡◌, ◌++◌, map, ap, ◌∙◌, arith}
use Rattle.std.specs.List.{range_with_len}
use Rattle.hyper_model.specs.Enclosures.{IsOrderedEnclosed}
use Rattle.hyper_model.proofs.Ranges.{map_more, all_pushed}
use Rattle.hyper_model.proofs.place_list.push_each.Goals as goal

pub loop-place-preserved : goal.loop-place-preserved
loop-place-preserved g c = record {
  exact = λ each is.
      map_more each c.args.found.now.items c.loop-place.found.items c.push.new.self.items c.loop-place.place c.find.result
      (c.loop-place.invariant.exact each is) (is c.loop-place.place c.find.result c.loop-place-test.true c.find.ensures)
      c.in_ok-push.ensures.items;
  ordered = all_pushed IsOrderedEnclosed c.loop-place.found.items c.push.new.self.items c.find.result
      c.loop-place.invariant.ordered
      (c.requires.each_ordered c.loop-place.place c.find.result c.loop-place-test.true c.find.ensures)
      c.in_ok-push.ensures.items;
}

pub returns-clause-exact : goal.returns-clause-exact
returns-clause-exact g c each is =
    let end : c.loop-place.place ≡ c.args.count = omega arith in
    c.loop-place.invariant.exact each is ∙ ap (λ n. c.args.found.now.items ++ map each (range_with_len 0 n)) end
