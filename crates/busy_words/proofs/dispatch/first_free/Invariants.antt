use Rattle.std.proofs.Common.{◌≡◌, drop}
use Rattle.hyper_model.specs.Groups.{list_of}
use Rattle.hyper_model.specs.Words.{first_free, first_free_of}
use Rattle.busy_words.proofs.dispatch.first_free.Given as goal

abbrev pub invariant-loop-place : goal.invariant-loop-place
invariant-loop-place l =
    first_free_of (drop l.place (list_of l.lists l.atom)) l.word ≡ first_free l.lists l.atom l.word
