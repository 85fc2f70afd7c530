use Rattle.std.proofs.Common.{rules}
use Rattle.fixed_interval.proofs.Rounding.{encloses_share, share-le_unit, share-ordered}
use Rattle.fixed_interval.proofs.wide.Wide.share.Goals as goal

pub returns-clause-encloses : goal.returns-clause-encloses
returns-clause-encloses c = encloses_share c.args.self c.args.rest _ c.args.unit (search rules)

pub invariant_of-result : goal.invariant_of-result
invariant_of-result c = rw (c.floor_of.ensures, c.ceil_of.ensures)
    (share-ordered _ _ _ _ _ c.self.invariant c.rest.invariant)

pub returns-clause-ordered : goal.returns-clause-ordered
returns-clause-ordered c = rw (c.floor_of.ensures, c.ceil_of.ensures)
    (share-ordered _ _ _ _ _ c.self.invariant c.rest.invariant)

pub returns-clause-at_most_whole : goal.returns-clause-at_most_whole
returns-clause-at_most_whole c = rw c.ceil_of.ensures (share-le_unit _ _ _)
