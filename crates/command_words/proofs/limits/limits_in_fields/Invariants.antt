use Rattle.std.proofs.Common.{◌≡◌, ◌≤◌, ◌++◌, length, map, drop}
use Rattle.std.specs.Option.{option_map}
use Rattle.command_words.specs.Limits.{limits_from}
use Rattle.command_words.proofs.limits.limits_in_fields.Given as goal

abbrev pub invariant-loop-field : goal.invariant-loop-field
invariant-loop-field l = record {
  rest : limits_from 0 (map (λ x. x.now) l.fields)
      ≡ option_map (λ others. l.limits ++ others) (limits_from l.least (map (λ x. x.now) (drop l.field-index l.fields)));
  count : length l.limits ≡ l.field-index;
  most : l.least ≤ 100001;
}
