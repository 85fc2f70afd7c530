use Rattle.std.proofs.Common.{◌∙◌, ap, subst, ◌<◌}
use Rattle.std.proofs.lemmas.Option.{get_or_from_slice_get, slice_get_within}
use Rattle.hyper_model.specs.Plans.{atoms}
use Rattle.text_lines.proofs.Pieces.{one_gained, piece_next}
use Rattle.site_sweep.specs.Texts.{kept_row}
use Rattle.site_sweep.specs.declared.site_list.Site.{Site}
use Rattle.site_sweep.proofs.writing.push_kept.Goals as goal

pub push_if_kept-requires : goal.push_if_kept-requires
push_if_kept-requires c =
    let site = c.get.result in
    let at = c.get.ensures in
    subst (λ (s : Site). s.atom < atoms c.args.plan.now) (get_or_from_slice_get c.args.sites.now c.loop-k.k site site at)
    (c.requires c.loop-k.k site (slice_get_within c.args.sites.now c.loop-k.k site at))

pub loop-k-preserved : goal.loop-k-preserved
loop-k-preserved c =
    one_gained c.args.text.now.items c.loop-k.text.items _ _ _ c.push_if_kept.new.text.items c.loop-k.invariant
    c.in_ok-push_if_kept.ensures (piece_next (kept_row c.args.plan.now c.args.measure) c.args.sites.now c.loop-k.k c.get.result c.get.ensures)
