-- The plan of two stations is accepted with either line: the conditions can be met, all of them together.
use Rattle.std.proofs.Common.{◌≡◌, ◌≢◌, ℕ, ◌<◌, List, [], ◌∷◌, length, slice_index, All, refl, ap, arith}
use Rattle.std.proofs.lemmas.List.Elements.{All-nil, All-cons}
use Rattle.hyper_model.specs.declared.kinds.Line.{Line}
use Rattle.hyper_model.specs.declared.kinds.Line.TheVariants as line
use Rattle.hyper_model.specs.Groups.{IsGrouped}
use Rattle.hyper_model.specs.Plans.{HasAtoms, HasLists, HasTravel, IsStable}
use Rattle.hyper_model.proofs.Worked.{each_below, each_pair}
use Rattle.crew_stations.specs.Stations.{IsAcceptedFleet}
use Rattle.crew_stations.proofs.WorkedStations.{two_stations}

-- names with different letters are different
other_name : (a b n m : ℕ) → a ≢ b → (a ∷ [] ≡ b ∷ []) → n ≡ m
other_name a b n m differ same = absurd (differ (ap (λ (name : List ℕ). slice_index name 0) same))

all_one : {X : Type 0} (P : X → Type 0) (a : X) → P a → All P (a ∷ [])
all_one P a holds = All-cons P a [] holds (All-nil P)

all_two : {X : Type 0} (P : X → Type 0) (a b : X) → P a → P b → All P (a ∷ b ∷ [])
all_two P a b first second = All-cons P a (b ∷ []) first (all_one P b second)

abbrev IsStation : ℕ → Type 0
IsStation k = k < 2

abbrev IsFilled : List ℕ → Type 0
IsFilled group = 0 < length group

first_then_second : IsGrouped 2 ((0 ∷ []) ∷ (1 ∷ []) ∷ [])
first_then_second = record {
  filled = all_two IsFilled (0 ∷ []) (1 ∷ []) (omega arith) (omega arith);
  within =
      all_two (All IsStation) (0 ∷ []) (1 ∷ []) (all_one IsStation 0 (omega arith)) (all_one IsStation 1 (omega arith));
  once = each_below 2 _ ((tt, refl), refl);
}

second_then_first : IsGrouped 2 ((1 ∷ []) ∷ (0 ∷ []) ∷ [])
second_then_first = record {
  filled = all_two IsFilled (1 ∷ []) (0 ∷ []) (omega arith) (omega arith);
  within =
      all_two (All IsStation) (1 ∷ []) (0 ∷ []) (all_one IsStation 1 (omega arith)) (all_one IsStation 0 (omega arith));
  once = each_below 2 _ ((tt, refl), refl);
}

atoms_accepted : (waits : Line) → HasAtoms (two_stations waits).parts
atoms_accepted waits = record {
  number = omega arith;
  named = each_pair 2 _ (
    (
      tt,
      ((tt, λ same. refl), other_name 80 81 0 1 (omega arith)),
    ),
    ((tt, other_name 81 80 1 0 (omega arith)), λ same. refl),
  );
  placed = each_below 2 _ ((tt, omega arith), omega arith);
  calls = omega arith;
}

lists_accepted : (waits : Line) → HasLists (two_stations waits).parts
lists_accepted waits = record {
  one_each = refl;
  width = refl;
  grouped = each_below 2 _ ((tt, first_then_second), second_then_first);
}

travel_accepted : (waits : Line) → HasTravel (two_stations waits).parts
travel_accepted waits = record {
  rows = refl;
  cols = refl;
  within = each_pair 2 _ ((tt, ((tt, omega arith), omega arith)), ((tt, omega arith), omega arith));
}

two_stable : (waits : Line) → IsStable waits 3 7
two_stable line.Zero = tt
two_stable line.Infinite = omega arith

-- with 3 crews at most, which it has
pub two_stations_accepted : (waits : Line) → IsAcceptedFleet 3 (two_stations waits)
two_stations_accepted waits = record {
  one_each = refl;
  some = each_below 2 _ ((tt, omega arith), omega arith);
  number = omega arith;
  named = each_pair 2 _ (
    (
      tt,
      ((tt, λ same. refl), other_name 65 66 0 1 (omega arith)),
    ),
    ((tt, other_name 66 65 1 0 (omega arith)), λ same. refl),
  );
  rates = each_below 2 _ ((tt, omega arith), omega arith);
  service = omega arith;
  single = each_below 2 _ ((tt, refl), refl);
  atoms = atoms_accepted waits;
  lists = lists_accepted waits;
  locations = record { rows = refl; cols = refl; whole = each_below 2 _ ((tt, refl), refl) };
  travel = travel_accepted waits;
  period = omega arith;
  stable = two_stable waits;
}
