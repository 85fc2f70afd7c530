use Rattle.std.proofs.Common.{arith}
use Rattle.busy_words.proofs.Levels.{ones_are_level}
use Rattle.busy_words.proofs.words.level.Goals as goal

pub returns-clause-busy : goal.returns-clause-busy
returns-clause-busy c units below = omega (arith, ones_are_level units c.args.word below)
