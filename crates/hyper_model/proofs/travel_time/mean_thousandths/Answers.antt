use Rattle.std.proofs.Common.{◌∙◌, ◌+◌, ◌*◌, ◌^◌, ◌<◌, arith}
use Rattle.hyper_model.proofs.TravelTimes.{total_more, total_fits, total_most}
use Rattle.hyper_model.proofs.travel_time.mean_thousandths.Goals as goal

pub overflow_add-total : goal.overflow_add-total
overflow_add-total c =
    let below : c.loop-k.total + c.from-thousandths.result * c.from-seconds.result < 2 ^ 64 =
    total_fits c.args.located.now c.args.travel.now c.args.unit c.args.atom c.loop-k.k c.loop-k.total
    c.from-thousandths.result c.from-seconds.result c.loop-k.invariant (c.from-thousandths.ensures ∙ c.get.ensures)
    (omega arith) (omega arith) c.requires.whole in
    omega arith

pub loop-k-preserved : goal.loop-k-preserved
loop-k-preserved c =
    total_more c.args.located.now c.args.travel.now c.args.unit c.args.atom c.loop-k.k c.loop-k.total
    c.from-thousandths.result c.from-seconds.result c.loop-k.invariant (c.from-thousandths.ensures ∙ c.get.ensures)
    (c.from-seconds.ensures ∙ c.get-in-loop-k.ensures) (omega arith)

pub returns-clause-most : goal.returns-clause-most
returns-clause-most c =
    total_most c.args.located.now c.args.travel.now c.args.unit c.args.atom c.loop-k.k c.loop-k.total c.loop-k.invariant
    (omega arith) c.requires.places c.requires.whole
