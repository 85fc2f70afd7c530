use Rattle.site_sweep.proofs.AcceptedPlaces.{located_is, placed_accepted}
use Rattle.site_sweep.proofs.laws.law_placed.Goals as goal

pub returns : goal.returns
returns c = record {
  accepted = λ p a n k l h. placed_accepted p a n k l h;
  located = λ p a n k l m j h g. located_is p a n k m j h g;
}
