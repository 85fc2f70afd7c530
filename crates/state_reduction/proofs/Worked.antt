-- Worked runs, in numbers that were computed elsewhere. Two units with areas of their own have the states none, A,
-- B and both; three further states have parts that are thirds, which are rounded outward.
use Rattle.std.proofs.Common.{◌≡◌, ℕ, ◌*◌, List, [], ◌∷◌, slice_index, refl}
use Rattle.std.specs.Prelude.{slice_index_or}
use Rattle.fixed_interval.specs.Ends.{between, exact_ends}
use Rattle.rate_matrix.specs.Elimination.{Entries, entries_after, entries_left_after, part_to, raised_entries}

-- rates in one scale, row by row
abbrev pub scaled_rows : ℕ → List (List ℕ) → Entries
scaled_rows scale rows i j = exact_ends (scale * slice_index (slice_index_or rows i []) j)

abbrev pub scaled_caps : ℕ → List ℕ → ℕ → ℕ
scaled_caps scale outflows i = scale * slice_index outflows i

two_units : Entries
two_units =
    scaled_rows 576460752303423488
    ((0 ∷ 1 ∷ 1 ∷ 0 ∷ []) ∷ (3 ∷ 0 ∷ 0 ∷ 2 ∷ []) ∷ (3 ∷ 0 ∷ 0 ∷ 2 ∷ []) ∷ (0 ∷ 3 ∷ 3 ∷ 0 ∷ []) ∷ [])

two_units_left : Entries
two_units_left = entries_left_after two_units (scaled_caps 576460752303423488 (2 ∷ 5 ∷ 5 ∷ 6 ∷ [])) 4 3

-- a way from none over B and both to A is one eighth of all that leaves none
none_to_a : two_units_left 0 1 ≡ exact_ends 720575940379279360
unfolding two_units_left two_units entries_left_after entries_after raised_entries part_to
none_to_a = refl

a_to_none : two_units_left 1 0 ≡ exact_ends 2161727821137838080
unfolding two_units_left two_units entries_left_after entries_after raised_entries part_to
a_to_none = refl

a_to_b : two_units_left 1 2 ≡ exact_ends 576460752303423488
unfolding two_units_left two_units entries_left_after entries_after raised_entries part_to
a_to_b = refl

b_to_a : two_units_left 2 1 ≡ exact_ends 576460752303423488
unfolding two_units_left two_units entries_left_after entries_after raised_entries part_to
b_to_a = refl

none_to_b : two_units_left 0 2 ≡ exact_ends 576460752303423488
unfolding two_units_left two_units entries_left_after entries_after raised_entries part_to
none_to_b = refl

both_to_a : two_units_left 3 1 ≡ exact_ends 1729382256910270464
unfolding two_units_left two_units entries_left_after entries_after raised_entries part_to
both_to_a = refl

pub thirds_left : Entries
thirds_left =
    entries_left_after (scaled_rows 1152921504606846976 ((0 ∷ 1 ∷ 3 ∷ []) ∷ (1 ∷ 0 ∷ 2 ∷ []) ∷ (1 ∷ 2 ∷ 0 ∷ []) ∷ []))
    (scaled_caps 1152921504606846976 (4 ∷ 3 ∷ 3 ∷ [])) 3 2

pub thirds_first : thirds_left 0 1 ≡ between 3458764513820540927 3458764513820540929
unfolding thirds_left entries_left_after entries_after raised_entries part_to
thirds_first = refl

pub thirds_second : thirds_left 1 0 ≡ between 1921535841011411626 1921535841011411627
unfolding thirds_left entries_left_after entries_after raised_entries part_to
thirds_second = refl
