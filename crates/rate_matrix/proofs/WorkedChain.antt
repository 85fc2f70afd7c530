-- A worked chain of three states, each of which leads to both others. Its solution was found by hand: of 26 masses
-- the states have 10, 7 and 9.
use Rattle.std.proofs.Common.{◌≡◌, ℕ, zero, suc, ◌*◌, ◌<◌, List, [], ◌∷◌, slice_index, refl, arith}
use Rattle.std.specs.Prelude.{slice_index_or}
use Rattle.hyper_model.specs.Solutions.{mass_in}
use Rattle.hyper_model.specs.Tables.{Descends, IsBalancedState, IsTableSolution, RateTable}
use Rattle.hyper_model.proofs.Chains.{are_proportional, is_first_positive}

abbrev three_states : RateTable
three_states i j =
    slice_index (slice_index_or ((0 ∷ 1 ∷ 2 ∷ []) ∷ (3 ∷ 0 ∷ 1 ∷ []) ∷ (1 ∷ 2 ∷ 0 ∷ []) ∷ []) i []) j

abbrev three_masses : List ℕ
three_masses = 10 ∷ 7 ∷ 9 ∷ []

three_descend : Descends 3 three_states
three_descend zero some inside = absurd (omega (arith, some))
three_descend (suc zero) some inside = (0, omega arith, omega arith)
three_descend (suc (suc zero)) some inside = (0, omega arith, omega arith)
three_descend (suc (suc (suc m))) some inside = absurd (omega (arith, inside))

-- what leaves each state is what comes: 10 * 3, 7 * 4 and 9 * 3
three_balance : (j : ℕ) → j < 3 → IsBalancedState 3 three_states (mass_in three_masses) j
three_balance zero inside = refl
three_balance (suc zero) inside = refl
three_balance (suc (suc zero)) inside = refl
three_balance (suc (suc (suc j))) inside = absurd (omega (arith, inside))

three_solved : IsTableSolution 3 three_states three_masses
three_solved = record { one_each = refl; solves = record { positive = omega arith; balanced = three_balance } }

-- the first state has a mass, as in every solution
pub first_of_three : 0 < mass_in three_masses 0
first_of_three = is_first_positive 3 three_states three_descend three_masses three_solved

-- and every other solution is a multiple of this one
pub multiple_of_three : (ys : List ℕ) → IsTableSolution 3 three_states ys
    → (10 * mass_in ys 1 ≡ 7 * mass_in ys 0) × (10 * mass_in ys 2 ≡ 9 * mass_in ys 0)
multiple_of_three ys solves = (
  are_proportional 3 three_states three_descend three_masses ys three_solved solves 0 1 (omega arith) (omega arith),
  are_proportional 3 three_states three_descend three_masses ys three_solved solves 0 2 (omega arith) (omega arith),
)
