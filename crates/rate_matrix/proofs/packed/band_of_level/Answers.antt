use Rattle.std.specs.Prelude.{IfOk}
use Rattle.std.proofs.Common.{◌≡◌, ◌-◌, subst, ap, ◌∙◌}
use Rattle.rate_matrix.specs.LevelBands.{below_level}
use Rattle.rate_matrix.proofs.LevelRanks.{level_band_made}
use Rattle.rate_matrix.proofs.packed.band_of_level.Goals as goal

pub returns : goal.returns
returns c =
    subst (λ b. IfOk c.zeros.result (λ band. band ≡ b))
    (level_band_made c.args.levels.now c.args.level _ _ _ _ c.count_below-first.ensures.count
    (c.count_below-left.ensures.count ∙ ap (below_level c.args.levels.now) c.saturating_sub.ensures)
    (c.saturating_sub-rows.ensures ∙ ap (λ n. n - c.count_below-first.result) c.count_below.ensures.count)
    (c.saturating_sub-width.ensures ∙ ap (λ n. n - c.count_below-left.result) c.count_below-2.ensures.count))
    c.zeros.ensures
