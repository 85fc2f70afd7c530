use Rattle.busy_words.proofs.FirstGroups.{lists_grouped}
use Rattle.worked_chains.proofs.steps.sent_in.Goals as goal

pub first_free-requires-clause-grouped : goal.first_free-requires-clause-grouped
first_free-requires-clause-grouped c =
    lists_grouped c.args.plan.now c.law_accepted.ensures c.lists-lists.result.now c.lists-lists.ensures c.args.atom c.requires.atom

pub takers-requires-clause-grouped : goal.takers-requires-clause-grouped
takers-requires-clause-grouped c =
    lists_grouped c.args.plan.now c.law_accepted.ensures c.lists-lists.result.now c.lists-lists.ensures c.args.atom c.requires.atom
