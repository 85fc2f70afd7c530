-- The plan of unequal rates is accepted with either line: the conditions can be met, all of them together.
use Rattle.std.proofs.Common.{◌≡◌, ◌≢◌, ℕ, ◌<◌, List, [], ◌∷◌, length, slice_index, All, refl, ap, arith}
use Rattle.std.proofs.lemmas.List.Elements.{All-nil, All-cons}
use Rattle.hyper_model.specs.declared.kinds.Line.{Line}
use Rattle.hyper_model.specs.declared.kinds.Line.TheVariants as line
use Rattle.hyper_model.specs.Groups.{IsGrouped}
use Rattle.hyper_model.specs.Plans.{HasUnits, HasAtoms, HasLists, HasLocations, HasTravel, IsAccepted, IsStable}
use Rattle.hyper_model.proofs.Worked.{each_below, each_pair}
use Rattle.hyper_model.proofs.WorkedMixed.{mixed}

-- names with different letters are different
other_name : (a b n m : ℕ) → a ≢ b → (a ∷ [] ≡ b ∷ []) → n ≡ m
other_name a b n m differ same = absurd (differ (ap (λ (name : List ℕ). slice_index name 0) same))

units_accepted : (waits : Line) → HasUnits (mixed waits)
units_accepted waits = record {
  number = omega arith;
  named = each_pair 2 _ (
    (
      tt,
      ((tt, λ same. refl), other_name 65 66 0 1 (omega arith)),
    ),
    ((tt, other_name 66 65 1 0 (omega arith)), λ same. refl),
  );
  rates = each_below 2 _ ((tt, omega arith), omega arith);
  service = omega arith;
}

atoms_accepted : (waits : Line) → HasAtoms (mixed waits)
atoms_accepted waits = record {
  number = omega arith;
  named = each_pair 3 _ (
    (
      (
        tt,
        (((tt, λ same. refl), other_name 80 81 0 1 (omega arith)), other_name 80 82 0 2 (omega arith)),
      ),
      (((tt, other_name 81 80 1 0 (omega arith)), λ same. refl), other_name 81 82 1 2 (omega arith)),
    ),
    (((tt, other_name 82 80 2 0 (omega arith)), other_name 82 81 2 1 (omega arith)), λ same. refl),
  );
  placed = each_below 3 _ (((tt, omega arith), omega arith), omega arith);
  calls = omega arith;
}

all_one : {X : Type 0} (P : X → Type 0) (a : X) → P a → All P (a ∷ [])
all_one P a holds = All-cons P a [] holds (All-nil P)

all_two : {X : Type 0} (P : X → Type 0) (a b : X) → P a → P b → All P (a ∷ b ∷ [])
all_two P a b first second = All-cons P a (b ∷ []) first (all_one P b second)

abbrev IsUnit : ℕ → Type 0
IsUnit unit = unit < 2

abbrev IsFilled : List ℕ → Type 0
IsFilled group = 0 < length group

first_then_second : IsGrouped 2 ((0 ∷ []) ∷ (1 ∷ []) ∷ [])
first_then_second = record {
  filled = all_two IsFilled (0 ∷ []) (1 ∷ []) (omega arith) (omega arith);
  within =
      all_two (All IsUnit) (0 ∷ []) (1 ∷ []) (all_one IsUnit 0 (omega arith)) (all_one IsUnit 1 (omega arith));
  once = each_below 2 _ ((tt, refl), refl);
}

second_then_first : IsGrouped 2 ((1 ∷ []) ∷ (0 ∷ []) ∷ [])
second_then_first = record {
  filled = all_two IsFilled (1 ∷ []) (0 ∷ []) (omega arith) (omega arith);
  within =
      all_two (All IsUnit) (1 ∷ []) (0 ∷ []) (all_one IsUnit 1 (omega arith)) (all_one IsUnit 0 (omega arith));
  once = each_below 2 _ ((tt, refl), refl);
}

either_of_two : IsGrouped 2 ((0 ∷ 1 ∷ []) ∷ [])
either_of_two = record {
  filled = all_one IsFilled (0 ∷ 1 ∷ []) (omega arith);
  within = all_one (All IsUnit) (0 ∷ 1 ∷ []) (all_two IsUnit 0 1 (omega arith) (omega arith));
  once = each_below 2 _ ((tt, refl), refl);
}

lists_accepted : (waits : Line) → HasLists (mixed waits)
lists_accepted waits = record {
  one_each = refl;
  width = refl;
  grouped = each_below 3 _ (((tt, first_then_second), either_of_two), second_then_first);
}

locations_accepted : (waits : Line) → HasLocations (mixed waits)
locations_accepted waits = record { rows = refl; cols = refl; whole = each_below 2 _ ((tt, refl), refl) }

travel_accepted : (waits : Line) → HasTravel (mixed waits)
travel_accepted waits = record {
  rows = refl;
  cols = refl;
  within = each_pair 3 _ (
    (
      (
        tt,
        (((tt, omega arith), omega arith), omega arith),
      ),
      (((tt, omega arith), omega arith), omega arith),
    ),
    (((tt, omega arith), omega arith), omega arith),
  );
}

mixed_stable : (waits : Line) → IsStable waits 4 5
mixed_stable line.Zero = tt
mixed_stable line.Infinite = omega arith

pub mixed_accepted : (waits : Line) → IsAccepted (mixed waits)
mixed_accepted waits = record {
  units = units_accepted waits;
  atoms = atoms_accepted waits;
  lists = lists_accepted waits;
  locations = locations_accepted waits;
  travel = travel_accepted waits;
  period = omega arith;
  stable = mixed_stable waits;
}
