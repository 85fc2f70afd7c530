-- Numbers that look as if they were drawn by chance, and the atoms that are drawn with them.
use Rattle.std.specs.Prelude.{ℕ, zero, suc, ◌+◌, ◌*◌, ◌/◌, ◌%◌, ◌^◌, List, map}
use Rattle.std.specs.List.{range_with_len}
use Rattle.plan_maker.specs.declared.atoms.DrawnAtom.{DrawnAtom}

-- a linear congruential generator
abbrev pub next_state : ℕ → ℕ
next_state state = (1664525 * state + 1013904223) % 2 ^ 32

-- the generator's state after so many draws, begun with this number
abbrev pub state_after : ℕ → ℕ → ℕ
state_after number zero = number
state_after number (suc draws) = next_state (state_after number draws)

-- what a draw below a bound gives, once it has moved the state: the upper half of it, modulo the bound
abbrev pub number_from : ℕ → ℕ → ℕ
number_from state bound = state / 65536 % bound

-- the nth draw, from 1 on
abbrev pub draw : ℕ → ℕ → ℕ → ℕ
draw number nth bound = number_from (state_after number nth) bound

-- each atom takes three draws, in this order; places are counted from 0
abbrev pub drawn_atom : ℕ → ℕ → DrawnAtom
drawn_atom number place = record {
  place = place;
  rate = 1 + draw number (3 * place + 1) 4;
  x = draw number (3 * place + 2) 10000;
  y = draw number (3 * place + 3) 10000;
}

abbrev pub drawn_atoms : ℕ → ℕ → List DrawnAtom
drawn_atoms number count = map (drawn_atom number) (range_with_len 0 count)
