use Rattle.command_words.proofs.Verbs.{without}
use Rattle.command_words.proofs.reading.asked_by.Goals as goal

pub returns-in_default-clause-given : goal.returns-in_default-clause-given
returns-in_default-clause-given c =
    without c.args.verb.now _ c.args.settings.now c.without_options.result c.in_default.not-solve c.in_default.not-compare
    c.in_default.not-fleet c.without_options.ensures.given
