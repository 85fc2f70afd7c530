use Rattle.pair_dispatch.proofs.Contained.{enclosure_contains, enclosure_in_range, one_enclosure}
use Rattle.pair_dispatch.proofs.laws.law_pairs.Goals as goal

pub returns : goal.returns
returns c = record { alone = one_enclosure; contains = enclosure_contains; in_range = enclosure_in_range }
