use Rattle.std.proofs.Common.{◌≡◌, take}
use Rattle.std.specs.List.{filter_map}
use Rattle.std.specs.Option.{option_to_list}
use Rattle.command_words.specs.Options as spec
use Rattle.command_words.proofs.options.method_once.Given as goal

abbrev pub invariant-loop-setting : goal.invariant-loop-setting
invariant-loop-setting l =
    filter_map spec.method_of (take l.setting-index l.settings) ≡ option_to_list l.found
