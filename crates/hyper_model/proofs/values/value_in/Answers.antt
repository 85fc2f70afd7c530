use Rattle.std.proofs.Common.{◌∙◌, refl, sym}
use Rattle.hyper_model.specs.Values.{value_in, value_of}
use Rattle.hyper_model.proofs.ValueSteps.{said_here, said_past}
use Rattle.hyper_model.proofs.values.value_in.Goals as goal

pub returns-in-Some-clause-value : goal.returns-in-Some-clause-value
returns-in-Some-clause-value c =
    sym (c.loop-place.invariant
    ∙ said_here (value_of c.args.measure) (value_in c.args.measure) (λ e items. refl) c.args.list.now.items
    c.loop-place.place c.get.result c.in-Some.value c.get.ensures.item (sym c.value_of.ensures.value ∙ c.in-Some.is))

pub loop-place-preserved : goal.loop-place-preserved
loop-place-preserved c =
    c.loop-place.invariant
    ∙ said_past (value_of c.args.measure) (value_in c.args.measure) (λ e items. refl) c.args.list.now.items
    c.loop-place.place c.get.result c.get.ensures.item (sym c.value_of.ensures.value ∙ c.in_default.is)
