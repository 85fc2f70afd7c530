use Rattle.std.proofs.Common.{◌≡◌, ◌∙◌, ap, sym, arith, List, [], ◌∷◌, ◌++◌}
use Rattle.std.proofs.lemmas.List.FromFn.{map-range_with_len_more}
use Rattle.plan_maker.specs.declared.atoms.DrawnAtom.{DrawnAtom}
use Rattle.plan_maker.specs.Draws.{drawn_atom, drawn_atoms, next_state}
use Rattle.plan_maker.proofs.States.{atom_here, three_draws}
use Rattle.plan_maker.proofs.atoms.draw_atoms.Goals as goal

pub loop-place-preserved : goal.loop-place-preserved
loop-place-preserved c =
    let number = c.args.number in
    let place = c.loop-place.place in
    let drawn : c.draw_atom.result ≡ drawn_atom number place =
    atom_here number place c.loop-place.generator.state c.draw_atom.result c.loop-place.invariant.state
    c.draw_atom.ensures.place c.draw_atom.ensures.rate c.draw_atom.ensures.x c.draw_atom.ensures.y in
    record {
      state = c.draw_atom.ensures.state
          ∙ ap (λ s. next_state (next_state (next_state s))) c.loop-place.invariant.state
          ∙ sym (three_draws number place);
      drawn = c.in_ok-push.ensures.items
          ∙ ap (λ (before : List DrawnAtom). before ++ c.draw_atom.result ∷ []) c.loop-place.invariant.drawn
          ∙ ap (λ (atom : DrawnAtom). drawn_atoms number place ++ atom ∷ []) drawn
          ∙ sym (map-range_with_len_more (drawn_atom number) 0 place place (omega arith));
    }

pub returns : goal.returns
returns c =
    let all : c.loop-place.place ≡ c.args.count = omega arith in
    c.loop-place.invariant.drawn ∙ ap (λ count. drawn_atoms c.args.number count) all
