use Rattle.std.proofs.Common.{◌≡◌, ◌++◌, take}
use Rattle.std.specs.List.{flat_map}
use Rattle.hypercube_cli.specs.Lines.{argument_field}
use Rattle.hypercube_cli.proofs.lines.push_arguments.Given as goal

abbrev pub invariant-loop-argument : goal.invariant-loop-argument
invariant-loop-argument l = l.text.items ≡ l.fn.text.items ++ flat_map argument_field (take l.argument-index l.arguments)
