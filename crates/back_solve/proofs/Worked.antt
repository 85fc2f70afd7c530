-- Worked weights, in numbers that were computed elsewhere: three states, whose weights are shifted twice.
use Rattle.std.proofs.Common.{ℕ, zero, suc, ◌^◌, ◌<◌, ◌≤◌, List, [], ◌∷◌, refl, arith}
use Rattle.std.specs.Int.{div_ceil}
use Rattle.std.specs.Prelude.{slice_index_or}
use Rattle.fixed_interval.specs.Ends.{Ends, between, exact_ends}
use Rattle.fixed_interval.specs.WeightList.{PushesShifted}
use Rattle.rate_matrix.specs.Elimination.{Entries}
use Rattle.rate_matrix.specs.Weights.{AreWeightsOf, weight_of}
use Rattle.back_solve.proofs.WeightLists.{weights-first, weights-next}

-- entries row by row
abbrev rows_of : List (List Ends) → Entries
rows_of rows i j = slice_index_or (slice_index_or rows i []) j (exact_ends 0)

abbrev thirds : Entries
thirds =
    rows_of (
    (exact_ends 0 ∷ between 3458764513820540927 3458764513820540929 ∷ exact_ends 3458764513820540928 ∷ [])
    ∷ (between 1921535841011411626 1921535841011411627 ∷ exact_ends 0 ∷ exact_ends 2305843009213693952 ∷ [])
    ∷ (exact_ends 1152921504606846976 ∷ exact_ends 2305843009213693952 ∷ exact_ends 0 ∷ [])
    ∷ [])

abbrev two_weights : List Ends
two_weights = exact_ends 2251799813685248 ∷ between 4053239664633446 4053239664633447 ∷ []

abbrev three_weights : List Ends
three_weights =
    exact_ends 1125899906842624 ∷ between 2026619832316723 2026619832316724 ∷ between 2476979795053772 2476979795053773 ∷ []

half_or_more : (high k : ℕ) → 4503599627370496 < high → div_ceil high (2 ^ k) ≤ 2 ^ 52 → 1 ≤ k
half_or_more high zero past fits = absurd (omega (arith, fits))
half_or_more high (suc k) past fits = omega arith

second_pushed : PushesShifted (exact_ends (2 ^ 52) ∷ []) two_weights (weight_of thirds (exact_ends (2 ^ 52) ∷ []) 1)
second_pushed = record {
  power = 1;
  least = record { fits = omega arith; least = λ k fits. half_or_more _ k (omega arith) fits };
  items = refl;
}

third_pushed : PushesShifted two_weights three_weights (weight_of thirds two_weights 2)
third_pushed = record {
  power = 1;
  least = record { fits = omega arith; least = λ k fits. half_or_more _ k (omega arith) fits };
  items = refl;
}

thirds_weights : AreWeightsOf thirds 3 three_weights
thirds_weights =
    weights-next thirds 2 two_weights three_weights (omega arith)
    (weights-next thirds 1 (exact_ends (2 ^ 52) ∷ []) two_weights (omega arith)
    (weights-first thirds (exact_ends (2 ^ 52) ∷ []) refl) second_pushed)
    third_pushed
