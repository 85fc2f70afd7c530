use Rattle.std.proofs.Common.{◌≢◌, ℕ, ◌<◌}
use Rattle.hyper_model.specs.Words.{turned_word}
use Rattle.rate_matrix.proofs.words.rate_between_words.Given as goal

abbrev pub invariant-loop-unit : goal.invariant-loop-unit
invariant-loop-unit l = (k : ℕ) → k < l.unit → l.next ≢ turned_word l.word k
