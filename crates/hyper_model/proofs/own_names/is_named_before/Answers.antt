use Rattle.std.proofs.Common.{◌≡◌, ◌∙◌, sym, refl, below_more}
use Rattle.std.proofs.lemmas.Slice.Eq.{bytes_eq-Decides}
use Rattle.hyper_model.specs.Acceptance.{name_at}
use Rattle.hyper_model.proofs.Accepting.{name_read}
use Rattle.hyper_model.proofs.own_names.is_named_before.Goals as goal

pub returns-then-eq : goal.returns-then-eq
returns-then-eq g c =
    let of = g.T.HasName.name_of in
    let here = name_read of c.args.things.now c.loop-m.m c.get-in-loop-m.result.now c.get-in-loop-m.ensures in
    let there = name_read of c.args.things.now c.args.n c.get.result.now c.get.ensures in
    let same = (bytes_eq-Decides c.name.result.now c.name-name.result.now).0 (sym c.eq.ensures ∙ c.if-eq.true) in
    (λ _. (c.loop-m.m, (c.loop-m-test.true, here ∙ sym c.name.ensures ∙ same ∙ c.name-name.ensures ∙ sym there)), λ _. refl)

pub loop-m-preserved : goal.loop-m-preserved
loop-m-preserved g c =
    let of = g.T.HasName.name_of in
    let here = name_read of c.args.things.now c.loop-m.m c.get-in-loop-m.result.now c.get-in-loop-m.ensures in
    let there = name_read of c.args.things.now c.args.n c.get.result.now c.get.ensures in
    below_more (λ i. name_at of c.args.things.now i ≡ name_at of c.args.things.now c.args.n → ⊥) c.loop-m.m c.loop-m.invariant
    (λ e. let tests = (bytes_eq-Decides c.name.result.now c.name-name.result.now).1
    (c.name.ensures ∙ sym here ∙ e ∙ there ∙ sym c.name-name.ensures) in
    let f : ⊥ = cc in f)
