use Rattle.std.proofs.Common.{◌∙◌, refl, sym}
use Rattle.hyper_model.proofs.ValueSteps.{said_here, said_past}
use Rattle.day_replay.specs.Texts.{found_of, said_of}
use Rattle.day_replay.proofs.replay_rows.found_of.Goals as goal

pub returns-in-Some : goal.returns-in-Some
returns-in-Some c =
    sym (sym c.loop-place.invariant
    ∙ said_here (said_of c.args.measure) (found_of c.args.measure) (λ e items. refl) c.args.found.now.items
    c.loop-place.place c.get.result c.in-Some.said c.get.ensures.item (sym c.said_of.ensures ∙ c.in-Some.is))

pub loop-place-preserved : goal.loop-place-preserved
loop-place-preserved c =
    sym (said_past (said_of c.args.measure) (found_of c.args.measure) (λ e items. refl) c.args.found.now.items
    c.loop-place.place c.get.result c.get.ensures.item (sym c.said_of.ensures ∙ c.in_default.is))
    ∙ c.loop-place.invariant
