use Rattle.preference_rules.proofs.FullLists.{groups_of_row}
use Rattle.preference_rules.proofs.given.law_given_groups.Goals as goal

pub returns : goal.returns
returns c = groups_of_row
