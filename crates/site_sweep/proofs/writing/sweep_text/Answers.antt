use Rattle.site_sweep.proofs.BestSites.{atoms_within}
use Rattle.site_sweep.proofs.writing.sweep_text.Goals as goal

pub push_kept-requires : goal.push_kept-requires
push_kept-requires c = atoms_within c.args.plan.now c.args.unit c.args.measure c.args.sites.now c.requires.sites
