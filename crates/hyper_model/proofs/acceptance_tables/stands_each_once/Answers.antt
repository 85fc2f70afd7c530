use Rattle.std.proofs.Common.{◌≡◌, ◌∙◌, ◌<◌, sym, refl, arith, below_more}
use Rattle.hyper_model.specs.Acceptance.{places_in}
use Rattle.hyper_model.proofs.acceptance_tables.stands_each_once.Goals as goal

pub returns-then-places_of-ne1 : goal.returns-then-places_of-ne1
returns-then-places_of-ne1 c =
    let inside : c.loop-unit.unit < c.args.units = omega arith in (
      λ e. absurd (let f : ⊥ = cc in f),
      λ h. absurd (c.if-places_of-ne1.true (c.places_of.ensures ∙ h c.loop-unit.unit inside)),
    )

pub loop-unit-preserved : goal.loop-unit-preserved
loop-unit-preserved c =
    below_more (λ u. places_in c.args.list.now u ≡ 1) c.loop-unit.unit c.loop-unit.invariant
    (sym c.places_of.ensures ∙ c.if-places_of-ne1.false)

pub returns : goal.returns
returns c = (λ _ u h. c.loop-unit.invariant u (omega arith), λ _. refl)
