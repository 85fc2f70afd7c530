use Rattle.std.proofs.Common.{◌≡◌, ◌*◌, ◌<◌, ◌≤◌, ap, sym, subst, arith}
use Rattle.hyper_model.specs.Grid.{Grid, cell}
use Rattle.hyper_model.specs.Plans.{atoms}
use Rattle.travel_measures.proofs.table_sums.mean_time_to.Goals as goal

pub returns-clause-most : goal.returns-clause-most
returns-clause-most c =
    let table : c.travel_table.result.now ≡ c.args.plan.now.travel = c.travel_table.ensures in
    let most : c.mean_thousandths.result ≤ 1000 * 100000 =
    c.mean_thousandths.ensures.most 100000
    (λ k l.
    let inside : k < atoms c.args.plan.now =
    omega (arith, l, ap (λ (g : Grid). g.rows) table, c.requires.accepted.travel.rows) in
    subst (λ g. cell g k c.args.atom ≤ 100000) (sym table)
    (c.requires.accepted.travel.within k c.args.atom inside c.requires.atom)) in
    omega arith
