use Rattle.fixed_interval.specs.WeightList.{ends_at}
use Rattle.dispatch_fractions.specs.PartLists.{parts_from}
use Rattle.dispatch_fractions.proofs.Holding.{has_parts, masses_have_parts, parts_are}
use Rattle.dispatch_fractions.proofs.laws.law_parts.Goals as goal

pub returns : goal.returns
returns c = record {
  parts = parts_are;
  encloses = λ p a order o items xs z e.
      has_parts p a order o items xs z e (parts_from p order (ends_at items)) (parts_are p order (ends_at items));
  encloses_masses = λ p a order o items xs z e.
      masses_have_parts p a order o items xs z e (parts_from p order (ends_at items)) (parts_are p order (ends_at items));
}
