use Rattle.std.proofs.Common.{◌<◌, inr, length, sym, arith}
use Rattle.std.proofs.lemmas.Result.{err_from_is_err_and}
use Rattle.atom_table.proofs.PairSteps.{pair-more, pair-refused}
use Rattle.unit_location.specs.Located.{share_in}
use Rattle.unit_location.specs.declared.refusal.LocationRefusal.TheVariants.{DuplicateLocation}
use Rattle.unit_location.proofs.LocationSteps.{share_in-inside}
use Rattle.unit_location.proofs.shares.read_shares.Goals as goal

pub returns-in_err-take_share-clause-refusal : goal.returns-in_err-take_share-clause-refusal
returns-in_err-take_share-clause-refusal c =
    let inv = c.loop-item.invariant in
    let lt : c.loop-item.item-index < length c.args.records.now = omega arith in
    let p = err_from_is_err_and c.from_residual-in_err-take_share.result c.from_residual-in_err-take_share.ensures.1 in
    rw (p.1, p.2) (inr (pair-refused DuplicateLocation (share_in c.args.names.now) _ _ c.args.records.now c.loop-item.item-index c.loop-item.shares
    inv.read c.item-item.result lt (sym c.item-item.is) (share_in-inside c.args.names.now c.item-item.result inv.units inv.atoms)
    c.in_err-take_share.field-0.0 c.in_err-take_share.ensures.refusal))

pub loop-item-preserved : goal.loop-item-preserved
loop-item-preserved c =
    let inv = c.loop-item.invariant in
    let lt : c.loop-item.item-index < length c.args.records.now = omega arith in
    record {
      units = inv.units;
      atoms = inv.atoms;
      read = pair-more DuplicateLocation (share_in c.args.names.now) _ _ c.args.records.now c.loop-item.item-index c.loop-item.shares inv.read
          c.item-item.result lt (sym c.item-item.is) (share_in-inside c.args.names.now c.item-item.result inv.units inv.atoms)
          _ c.in_ok-take_share.ensures.refusal c.in_ok-take_share.ensures.taken;
    }
