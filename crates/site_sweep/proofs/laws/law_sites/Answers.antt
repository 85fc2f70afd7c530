use Rattle.site_sweep.proofs.BestSites.{best_kept, dropped_beaten, one_list, sites_contain}
use Rattle.site_sweep.proofs.laws.law_sites.Goals as goal

pub returns : goal.returns
returns c = record {
  alone = one_list;
  contains = λ p a n l m region sites is. sites_contain p n m sites is a l region;
  beaten = λ p a n l m region sites is. dropped_beaten p n m sites is a l region;
  best = λ p a n l m region sites is. best_kept p n m sites is a l region;
}
