use Rattle.std.proofs.Common.{sym, subst, ◌∙◌, arith}
use Rattle.std.proofs.lemmas.List.{get_or_read}
use Rattle.rate_matrix.specs.Bands.{no_band}
use Rattle.rate_matrix.specs.Rows.{CanUpdate}
use Rattle.rate_matrix.proofs.update.update_bands_alone.Goals as goal

pub update_alone-requires : goal.update_alone-requires
update_alone-requires g c =
    let same = sym c.index-bands-level.is
    ∙ get_or_read c.loop-level.bands c.loop-level.level c.index-bands-level.result (omega arith) c.index-bands-level.is no_band
    ∙ c.loop-level.invariant.rest c.loop-level.level (omega arith) in
    record {
      band = subst (CanUpdate c.args.elimination.now) (sym same) (c.requires.bands c.loop-level.level (omega arith));
    }
