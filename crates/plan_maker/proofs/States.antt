-- The states of the generator, three draws for each atom.
use Rattle.std.proofs.Common.{◌≡◌, ℕ, suc, ◌+◌, ◌*◌, ap, ◌∙◌, sym, arith}
use Rattle.plan_maker.specs.declared.atoms.DrawnAtom.{DrawnAtom}
use Rattle.plan_maker.specs.Draws.{number_from, drawn_atom, next_state, state_after}

-- one more draw
state_after-next : (number draws later : ℕ) → later ≡ suc draws
    → state_after number later ≡ next_state (state_after number draws)
state_after-next number draws later is = ap (λ k. state_after number k) is

-- the three draws of the atom with this place
pub first_draw : (number place : ℕ) → state_after number (3 * place + 1) ≡ next_state (state_after number (3 * place))
first_draw number place = state_after-next number (3 * place) (3 * place + 1) (omega arith)

pub second_draw : (number place : ℕ)
    → state_after number (3 * place + 2) ≡ next_state (next_state (state_after number (3 * place)))
second_draw number place =
    state_after-next number (3 * place + 1) (3 * place + 2) (omega arith) ∙ ap next_state (first_draw number place)

pub third_draw : (number place : ℕ)
    → state_after number (3 * place + 3) ≡ next_state (next_state (next_state (state_after number (3 * place))))
third_draw number place =
    state_after-next number (3 * place + 2) (3 * place + 3) (omega arith) ∙ ap next_state (second_draw number place)

-- and the state when they are done
pub three_draws : (number place : ℕ)
    → state_after number (3 * (place + 1)) ≡ next_state (next_state (next_state (state_after number (3 * place))))
three_draws number place =
    ap (λ k. state_after number k) (let e : 3 * (place + 1) ≡ 3 * place + 3 = omega arith in e)
    ∙ third_draw number place

abbrev atom_of : ℕ → ℕ → ℕ → ℕ → DrawnAtom
atom_of place rate x y = record { place = place; rate = rate; x = x; y = y }

atom_of-same : (p q r s x u y v : ℕ) → p ≡ q → r ≡ s → x ≡ u → y ≡ v → atom_of p r x y ≡ atom_of q s u v
atom_of-same p q r s x u y v place rate across along = cc

-- an atom that is drawn from the state after the draws of those before it
pub atom_here : (number place state : ℕ) (atom : DrawnAtom) → state ≡ state_after number (3 * place)
    → atom.place ≡ place → atom.rate ≡ 1 + number_from (next_state state) 4
    → atom.x ≡ number_from (next_state (next_state state)) 10000
    → atom.y ≡ number_from (next_state (next_state (next_state state))) 10000
    → atom ≡ drawn_atom number place
atom_here number place state atom is place_is rate_is x_is y_is =
    atom_of-same _ _ _ _ _ _ _ _ place_is
    (rate_is ∙ ap (λ s. 1 + number_from s 4) (ap next_state is ∙ sym (first_draw number place)))
    (x_is ∙ ap (λ s. number_from s 10000) (ap (λ s. next_state (next_state s)) is ∙ sym (second_draw number place)))
    (y_is
    ∙ ap (λ s. number_from s 10000)
    (ap (λ s. next_state (next_state (next_state s))) is ∙ sym (third_draw number place)))
