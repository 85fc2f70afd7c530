use Rattle.std.proofs.Common.{◌-◌, ◌≤◌, length, arith}
use Rattle.std.proofs.lemmas.Grind.{common_steps}
use Rattle.fixed_interval.specs.WeightList.{ends_at}
use Rattle.queue_tail.specs.Tail.{GainsMultiple}
use Rattle.queue_tail.proofs.Tail.{multiple_encloses}
use Rattle.queue_tail.proofs.add_multiple.Goals as goal

pub returns-clause-encloses : goal.returns-clause-encloses
returns-clause-encloses g c =
    let gains : GainsMultiple c.args.num c.args.den c.args.weights.now.items c.push_shifting.new.self.items =
    grind (arith, common_steps) in
    let ordered : (ends_at c.args.weights.now.items (length c.args.weights.now.items - 1)).lo
    ≤ (ends_at c.args.weights.now.items (length c.args.weights.now.items - 1)).hi =
    grind (arith, common_steps) in
    multiple_encloses c.args.num c.args.den c.args.weights.now.items c.push_shifting.new.self.items c.requires.divisor
    c.requires.some ordered gains
