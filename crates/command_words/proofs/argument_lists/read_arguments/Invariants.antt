use Rattle.std.proofs.Common.{◌≡◌, map, drop}
use Rattle.std.specs.String.{string_bytes}
use Rattle.command_words.specs.Arguments.{lists_from, lists_in, lists_of}
use Rattle.command_words.proofs.Lists.{after}
use Rattle.command_words.proofs.argument_lists.read_arguments.Given as goal

abbrev pub invariant-loop-text : goal.invariant-loop-text
invariant-loop-text l =
    after (lists_in l.arguments) (lists_from l.mode (drop l.text-index (map string_bytes l.words))) ≡ lists_of (map string_bytes l.words)
