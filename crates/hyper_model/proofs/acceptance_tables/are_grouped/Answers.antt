use Rattle.std.proofs.Common.{◌<◌, refl, arith, below_more, length}
use Rattle.hyper_model.specs.Groups.{groups_in, IsGrouped}
use Rattle.hyper_model.proofs.Accepting.{grouped_at, full_at}
use Rattle.hyper_model.proofs.acceptance_tables.are_grouped.Goals as goal

pub returns-then-not-is_full : goal.returns-then-not-is_full
returns-then-not-is_full c =
    let inside : c.loop-j.j < length c.args.lists.now.rows = omega arith in (
      λ e. absurd (let f : ⊥ = cc in f),
      λ h.
          let full = c.is_full.ensures.1
          (full_at c.args.lists.now c.loop-j.j c.units-units.result c.list.result.now c.units-units.ensures.units c.list.ensures.units
          (h c.loop-j.j inside)) in
          absurd (let f : ⊥ = cc in f),
    )

pub loop-j-preserved : goal.loop-j-preserved
loop-j-preserved c =
    below_more (λ j. IsGrouped c.args.lists.now.units (groups_in c.args.lists.now j)) c.loop-j.j c.loop-j.invariant
    (grouped_at c.args.lists.now c.loop-j.j c.units-units.result c.list.result.now c.units-units.ensures.units c.list.ensures.units
    (c.is_full.ensures.0 c.if-not-is_full.false))

pub returns : goal.returns
returns c = (λ _ j h. c.loop-j.invariant j (omega arith), λ _. refl)
