use Rattle.std.proofs.Common.{◌≡◌, ◌^◌, ◌≤◌, ap, arith}
use Rattle.fixed_interval.specs.Ends.{Ends}
use Rattle.dispatch_fractions.proofs.Holding.{part_of_part, some_if}
use Rattle.dispatch_fractions.proofs.part_making.help_part.Goals as goal

pub unwrap-requires : goal.unwrap-requires
unwrap-requires c =
    let rate : c.from.result ≡ c.args.rate = c.from.ensures in
    let service : c.from-2.result ≡ c.args.service = c.from-2.ensures in
    let fits : c.ratio-help.result.hi ≤ 2 ^ 62 =
    part_of_part c.wide.result c.ratio-help.result c.from.result c.from-2.result (omega arith) (omega arith)
    (omega (arith, c.wide.ensures.in_range, ap (λ (i : Ends). i.hi) c.wide.ensures.ends)) c.ratio-help.ensures.ends in
    some_if c.new.result _ _ (omega arith, omega arith) c.new.ensures.ends
