-- The parts of a plan's weights from which its measures are made. Weights stand in the order of the words, and on
-- the infinite line one more stands for the calls that wait. All units are busy there, so its word is the full one.
use Rattle.std.specs.Prelude.{◌≡◌, ℕ, ◌+◌, ◌-◌, ◌^◌, ◌<◌, nat_le, if◌then◌else◌, List, [], ◌∷◌, ◌++◌, map}
use Rattle.fixed_interval.specs.Ends.{Ends}
use Rattle.fixed_interval.specs.WeightList.{EnclosesAll}
use Rattle.hyper_model.specs.declared.kinds.Line.{Line}
use Rattle.hyper_model.specs.declared.kinds.Line.TheVariants as line
use Rattle.hyper_model.specs.declared.parts.PlanParts.{PlanParts}
use Rattle.hyper_model.specs.Plans.{units, split}
use Rattle.hyper_model.specs.Words.{words, full_word, is_busy, takes, portion}
use Rattle.hyper_model.specs.Measures.{base}
use Rattle.hyper_model.specs.Solutions.{mass_in, IsSolution, IsTail}
use Rattle.busy_words.specs.Order.{WordOrder, IsInOrder, word_or_full}
use Rattle.busy_words.specs.Parts.{part, set_part}

-- how many weights a plan has
abbrev pub places_on : Line → PlanParts → ℕ
places_on line.Zero p = words p
places_on line.Infinite p = words p + 1

abbrev pub places : PlanParts → ℕ
places p = places_on p.line p

-- how many of them are of states in which a call that comes is answered: the full word is the last
abbrev pub base_places_on : Line → PlanParts → ℕ
base_places_on line.Zero p = full_word p
base_places_on line.Infinite p = words p + 1

abbrev pub base_places : PlanParts → ℕ
base_places p = base_places_on p.line p

-- the order is that of the words of the plan's units
pub record IsOrderOf (p : PlanParts) (order : WordOrder) : Type 0 where
  pub same_units : order.units ≡ units p
  pub ordered : IsInOrder (units p) order.words

-- the masses of a solution, place by place
abbrev pub tail_masses : Line → ℕ → List ℕ
tail_masses line.Zero z = []
tail_masses line.Infinite z = z ∷ []

abbrev pub masses_by_place : PlanParts → WordOrder → List ℕ → ℕ → List ℕ
masses_by_place p order xs z = map (mass_in xs) order.words ++ tail_masses p.line z

-- xs and z solve the plan, and these weights in this order enclose their masses up to one common factor
pub record EnclosesSolution (p : PlanParts) (order : WordOrder) (items : List Ends) (xs : List ℕ) (z : ℕ) : Type 0 where
  pub solves : IsSolution p xs z
  pub encloses : EnclosesAll items (masses_by_place p order xs z)

-- These weights in this order enclose the masses xs of words and z of the calls that wait, whether or not they are a plan's
-- solution, up to one common factor: z is the tail of xs, and some mass is of states in which a call is answered.
pub record EnclosesMasses (p : PlanParts) (order : WordOrder) (items : List Ends) (xs : List ℕ) (z : ℕ) : Type 0 where
  pub tail : IsTail p.line p xs z
  pub some : 0 < base p (mass_in xs) z
  pub encloses : EnclosesAll items (masses_by_place p order xs z)

-- the part of the states in which unit n is busy
abbrev pub busy_part : PlanParts → WordOrder → (ℕ → Ends) → ℕ → Ends
busy_part p order w n = set_part (2 ^ 62) (places p) (λ i. is_busy (word_or_full order i) n) w

-- the part of the states in which all units are busy
abbrev pub full_part : PlanParts → (ℕ → Ends) → Ends
full_part p w = set_part (2 ^ 62) (places p) (λ i. nat_le (full_word p) i) w

-- the part of the states in which a call waits
abbrev pub tail_part : PlanParts → (ℕ → Ends) → Ends
tail_part p w = set_part (2 ^ 62) (places p) (λ i. nat_le (words p) i) w

-- how many of the `split p` shares of a call of atom j go to unit n at once in a word, and how many do not
abbrev pub taken_shares : PlanParts → ℕ → ℕ → ℕ → ℕ
taken_shares p n j word = if takes p j word n then portion p j word else 0

abbrev pub other_shares : PlanParts → ℕ → ℕ → ℕ → ℕ
other_shares p n j word = if takes p j word n then split p - portion p j word else split p

-- the part of the answered calls of atom j that go to unit n at once
abbrev pub taken_part : PlanParts → WordOrder → (ℕ → Ends) → ℕ → ℕ → Ends
taken_part p order w n j =
    part (2 ^ 62) (base_places p) (split p) (λ i. taken_shares p n j (word_or_full order i))
    (λ i. other_shares p n j (word_or_full order i)) w
