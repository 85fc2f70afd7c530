use Rattle.state_certificate.proofs.MaximumPrinciple.{certificates_bound, certified_enclose, maximum_principle}
use Rattle.state_certificate.proofs.laws.law_certificate.Goals as goal

pub returns : goal.returns
returns c = record { maximum = maximum_principle; bounds = certificates_bound; encloses = certified_enclose }
