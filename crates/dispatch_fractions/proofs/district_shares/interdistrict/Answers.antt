use Rattle.std.proofs.Common.{map, rules}
use Rattle.std.specs.List.{range_with_len}
use Rattle.hyper_model.specs.Plans.{units}
use Rattle.dispatch_fractions.specs.Fractions.{region_share, unit_share, district_share}
use Rattle.hyper_model.proofs.Ranges.{two_more}
use Rattle.dispatch_fractions.proofs.district_shares.interdistrict.Goals as goal

pub returns-clause-exact : goal.returns-clause-exact
returns-clause-exact c =
    let p = c.args.plan.now in
    let v = c.args.parts.now in
    let of_units = c.in_ok-push_each.ensures.exact (unit_share p v) (λ i e l h. search rules) in
    let of_districts = c.in_ok-push_each-2.ensures.exact (district_share p v) (λ i e l h. search rules) in
    two_more (region_share p v) c.region_share.result c.new-found.result.items c.push.new.self.items c.push_each.new.found.items
    c.push_each-2.new.found.items (map (unit_share p v) (range_with_len 0 (units p)))
    (map (district_share p v) (range_with_len 0 (units p))) c.new-found.ensures.items c.region_share.ensures.exact
    c.in_ok-push.ensures.items (rw c.units.ensures.units at of_units) (rw c.units-2.ensures.units at of_districts)
