use Rattle.std.proofs.Common.{refl}
use Rattle.std.proofs.lemmas.Option.{slice_get_read}
use Rattle.hyper_model.proofs.Ranges.{all_pushed}
use Rattle.plan_compare.specs.Solving.{IsSolvedOf}
use Rattle.plan_compare.proofs.solving.solve_next.Goals as goal

pub loop-preserved : goal.loop-preserved
loop-preserved g c =
    all_pushed (IsSolvedOf c.args.method c.args.plans.now) c.loop.solved.items c.push.new.self.items _ c.loop.invariant
    (record {
      plan = c.index-plans-place.result;
      there = slice_get_read c.args.plans.now _ c.fetch_add-place.result c.index-plans-place.result refl c.if-place-plans.false c.index-plans-place.is;
      encloses = c.in_ok-found.ensures.exact;
    })
    c.in_ok-push.ensures.items
