use Rattle.hyper_model.proofs.Ranges.{list_more}
use Rattle.site_sweep.specs.Sites.{site_at}
use Rattle.site_sweep.proofs.site_list.Sites.of.Goals as goal

pub loop-k-preserved : goal.loop-k-preserved
loop-k-preserved c =
    list_more (site_at c.args.values.now) c.loop-k.items.items c.push.new.self.items c.loop-k.k c.site_at.result c.loop-k.invariant
    c.site_at.ensures c.in_ok-push.ensures.items
