-- Lists cut into groups, and who takes a call in a word.
use Rattle.std.proofs.Common.{◌≡◌, ◌*◌, [], ◌∷◌, true, false, refl}
use Rattle.std.specs.Prelude.{Some, None}
use Rattle.hyper_model.specs.Groups.{GroupLists, groups_in, list_of}
use Rattle.hyper_model.specs.Words.{first_free_of, is_taker}
use Rattle.hyper_model.specs.Plans.{common_multiple}
use Rattle.hyper_model.proofs.Worked.{row_of_units}

-- of five units: the third by itself, the first with the fourth, and the other two
abbrev three_groups : GroupLists
three_groups = record {
  units = 5;
  rows = row_of_units (2 ∷ 0 ∷ 3 ∷ 1 ∷ 4 ∷ []) (true ∷ true ∷ false ∷ true ∷ false ∷ []) ∷ [];
}

pub three_groups_list : list_of three_groups 0 ≡ 2 ∷ 0 ∷ 3 ∷ 1 ∷ 4 ∷ []
three_groups_list = refl

pub three_groups_cut : groups_in three_groups 0 ≡ (2 ∷ []) ∷ (0 ∷ 3 ∷ []) ∷ (1 ∷ 4 ∷ []) ∷ []
three_groups_cut = refl

-- twelve units, the last two in one group
abbrev twelve_units : GroupLists
twelve_units = record {
  units = 12;
  rows =
      row_of_units (0 ∷ 1 ∷ 2 ∷ 3 ∷ 4 ∷ 5 ∷ 6 ∷ 7 ∷ 8 ∷ 9 ∷ 10 ∷ 11 ∷ [])
      (true ∷ true ∷ true ∷ true ∷ true ∷ true ∷ true ∷ true ∷ true ∷ true ∷ true ∷ false ∷ [])
      ∷ [];
}

pub twelve_units_cut :
    groups_in twelve_units 0
    ≡ (0 ∷ []) ∷ (1 ∷ []) ∷ (2 ∷ []) ∷ (3 ∷ []) ∷ (4 ∷ []) ∷ (5 ∷ []) ∷ (6 ∷ []) ∷ (7 ∷ []) ∷ (8 ∷ []) ∷ (9 ∷ [])
    ∷ (10 ∷ 11 ∷ []) ∷ []
twelve_units_cut = refl

-- with the third unit busy (word 4), one of the first and the fourth takes the call, and nobody else
pub second_group_takes :
    (is_taker (groups_in three_groups 0) 4 0 ≡ true)
    × (is_taker (groups_in three_groups 0) 4 1 ≡ false)
    × (is_taker (groups_in three_groups 0) 4 2 ≡ false)
    × (is_taker (groups_in three_groups 0) 4 3 ≡ true)
    × (is_taker (groups_in three_groups 0) 4 4 ≡ false)
second_group_takes = (refl, refl, refl, refl, refl)

-- with the first busy too (word 5), the fourth is by itself
pub rest_of_group_takes :
    (is_taker (groups_in three_groups 0) 5 0 ≡ false)
    × (is_taker (groups_in three_groups 0) 5 3 ≡ true)
    × (is_taker (groups_in three_groups 0) 5 4 ≡ false)
rest_of_group_takes = (refl, refl, refl)

-- with all five busy (word 31), nobody takes it
pub none_takes : (is_taker (groups_in three_groups 0) 31 0 ≡ false) × (is_taker (groups_in three_groups 0) 31 4 ≡ false)
none_takes = (refl, refl)

-- the first free unit is the least place's, not the least number's and not the last place's
pub first_free_units :
    (first_free_of (list_of three_groups 0) 0 ≡ Some 2)
    × (first_free_of (list_of three_groups 0) 4 ≡ Some 0)
    × (first_free_of (list_of three_groups 0) 13 ≡ Some 1)
    × (first_free_of (list_of three_groups 0) 31 ≡ None)
first_free_units = (refl, refl, refl, refl)

-- what the numbers of units divide: up to twelve, and from thirteen on
pub common_multiples :
    (common_multiple 1 ≡ 27720) × (common_multiple 12 ≡ 27720) × (common_multiple 13 ≡ 6227020800)
    × (6227020800 ≡ 13 * 479001600)
unfolding Rattle.hyper_model.specs.Plans.factorial
common_multiples = (refl, refl, refl, refl)
