use Rattle.std.proofs.Common.{◌^◌, ap₂, ◌∙◌}
use Rattle.fixed_interval.specs.Ends.{share_ends}
use Rattle.busy_words.proofs.sums.unit_part.Goals as goal

pub returns : goal.returns
returns c = c.part_of.ensures.ends ∙ ap₂ (share_ends (2 ^ 62)) c.busy_sums-inside.ensures.inside c.busy_sums-inside.ensures.rest
