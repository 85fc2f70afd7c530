-- Words of a plan, and what it is for a plan to be accepted.
use Rattle.std.specs.Prelude.{◌≡◌, ℕ, zero, suc, ◌*◌, ◌<◌, ◌≤◌, ◌==◌, nat_le, Bool, if◌then◌else◌, List, [], length, slice_index_or}
use Rattle.std.specs.List.{list_all}
use Rattle.hyper_model.specs.declared.TheConstants.{MOST_UNITS, MOST_ATOMS, MOST_RATE, MOST_COORDINATE, MOST_PERIOD, MOST_TRAVEL, WHOLE_TIME, SHARES}
use Rattle.hyper_model.specs.Sums.{sum_below}
use Rattle.hyper_model.specs.Grid.{cell}
use Rattle.hyper_model.specs.Groups.{groups_in, IsGrouped}
use Rattle.hyper_model.specs.declared.kinds.Line.{Line}
use Rattle.hyper_model.specs.declared.kinds.Line.TheVariants as line
use Rattle.hyper_model.specs.declared.parts.Unit as declared_unit
use Rattle.hyper_model.specs.declared.parts.Atom.{Atom}
use Rattle.hyper_model.specs.declared.parts.PlanParts.{PlanParts}

-- what stands past the last unit and the last atom
abbrev pub no_unit : declared_unit.Unit
no_unit = record { name = []; rate = 0 }

abbrev pub no_atom : Atom
no_atom = record { name = []; rate = 0; x = 0; y = 0; district = 0 }

-- how many units and atoms there are
abbrev pub units : PlanParts → ℕ
units p = length p.units

abbrev pub atoms : PlanParts → ℕ
atoms p = length p.atoms

abbrev pub unit_at : PlanParts → ℕ → declared_unit.Unit
unit_at p n = slice_index_or p.units n no_unit

abbrev pub atom_at : PlanParts → ℕ → Atom
atom_at p j = slice_index_or p.atoms j no_atom

-- their names
abbrev pub unit_name : PlanParts → ℕ → List ℕ
unit_name p n = (unit_at p n).name

abbrev pub atom_name : PlanParts → ℕ → List ℕ
atom_name p j = (atom_at p j).name

-- the rate at which unit n serves, and the rate of the calls of atom j, per period
abbrev pub service_of : PlanParts → ℕ → ℕ
service_of p n = (unit_at p n).rate

abbrev pub calls_of : PlanParts → ℕ → ℕ
calls_of p j = (atom_at p j).rate

-- the rate of all calls, and the rate at which all units serve when all are busy
abbrev pub calls_in : List Atom → ℕ
calls_in list = sum_below (length list) (λ j. (slice_index_or list j no_atom).rate)

abbrev pub service_in : List declared_unit.Unit → ℕ
service_in list = sum_below (length list) (λ n. (slice_index_or list n no_unit).rate)

abbrev pub all_calls : PlanParts → ℕ
all_calls p = calls_in p.atoms

abbrev pub all_service : PlanParts → ℕ
all_service p = service_in p.units

-- the unit whose district atom j belongs to
abbrev pub district_of : PlanParts → ℕ → ℕ
district_of p j = (atom_at p j).district

-- whether atom j is in unit n's district
abbrev pub is_inside : PlanParts → ℕ → ℕ → Bool
is_inside p n j = district_of p j == n

-- the rate of the calls of unit n's district
abbrev pub district_calls : PlanParts → ℕ → ℕ
district_calls p n = sum_below (atoms p) (λ j. if is_inside p n j then calls_of p j else 0)

-- the groups of atom j's preference list
abbrev pub groups_of : PlanParts → ℕ → List (List ℕ)
groups_of p j = groups_in p.lists j

-- the thousandths of its free time that unit n spends at atom k
abbrev pub located : PlanParts → ℕ → ℕ → ℕ
located p n k = cell p.located n k

-- the seconds of travel from atom k to atom j
abbrev pub travel : PlanParts → ℕ → ℕ → ℕ
travel p k j = cell p.travel k j

-- whether each group has one unit
abbrev pub are_single : List (List ℕ) → Bool
are_single groups = list_all (λ group. length group == 1) groups

-- whether each number below n passes the test
abbrev pub all_below : ℕ → (ℕ → Bool) → Bool
all_below n test = sum_below n (λ k. if test k then 0 else 1) == 0

-- the product of the numbers from 1 to n
unfoldable pub factorial : ℕ → ℕ
factorial zero = 1
factorial (suc n) = factorial n * suc n

-- what each number from 1 to n divides: 27,720 up to 12 units, else the product of all
abbrev pub common_multiple : ℕ → ℕ
common_multiple n = if nat_le n MOST_UNITS then SHARES else factorial n

-- The number by which all rates are multiplied, so that the free units of a group share a call equally in
-- whole numbers: 1 if every group has one unit, else what each number of units divides.
abbrev pub split : PlanParts → ℕ
split p = if all_below (atoms p) (λ j. are_single (groups_of p j)) then 1 else common_multiple (units p)

-- an infinite line needs more service than calls
abbrev pub IsStable : Line → ℕ → ℕ → Type 0
IsStable line.Zero calls service = Prim.Unit {0}
IsStable line.Infinite calls service = calls < service

pub record IsBetween (least most value : ℕ) : Type 0 where
  pub low : least ≤ value
  pub high : value ≤ most

-- 1 to so many units with names of their own, each with a service rate, of 1,000,000 in all at most
pub record HasUnitsUpTo (most : ℕ) (p : PlanParts) : Type 0 where
  pub number : IsBetween 1 most (units p)
  pub named : (n m : ℕ) → n < units p → m < units p → unit_name p n ≡ unit_name p m → n ≡ m
  pub rates : (n : ℕ) → n < units p → IsBetween 1 MOST_RATE (service_of p n)
  pub service : all_service p ≤ MOST_RATE

-- and that they are 12 at most
abbrev pub HasUnits : PlanParts → Type 0
HasUnits p = HasUnitsUpTo MOST_UNITS p

-- an atom's calls, its point, and a district among n units
pub record IsAtomWithin (n : ℕ) (atom : Atom) : Type 0 where
  pub rate : atom.rate ≤ MOST_RATE
  pub x : atom.x ≤ MOST_COORDINATE
  pub y : atom.y ≤ MOST_COORDINATE
  pub district : atom.district < n

-- 1 to 200 atoms with names of their own, and 1 to 1,000,000 calls in all
pub record HasAtoms (p : PlanParts) : Type 0 where
  pub number : IsBetween 1 MOST_ATOMS (atoms p)
  pub named : (i j : ℕ) → i < atoms p → j < atoms p → atom_name p i ≡ atom_name p j → i ≡ j
  pub placed : (j : ℕ) → j < atoms p → IsAtomWithin (units p) (atom_at p j)
  pub calls : IsBetween 1 MOST_RATE (all_calls p)

-- a list of groups for each atom
pub record HasLists (p : PlanParts) : Type 0 where
  pub one_each : length p.lists.rows ≡ atoms p
  pub width : p.lists.units ≡ units p
  pub grouped : (j : ℕ) → j < atoms p → IsGrouped (units p) (groups_of p j)

-- where each unit is: its thousandths over the atoms are 1000 in all
pub record HasLocations (p : PlanParts) : Type 0 where
  pub rows : p.located.rows ≡ units p
  pub cols : p.located.cols ≡ atoms p
  pub whole : (n : ℕ) → n < units p → sum_below (atoms p) (located p n) ≡ WHOLE_TIME

-- the seconds of each ordered pair of atoms
pub record HasTravel (p : PlanParts) : Type 0 where
  pub rows : p.travel.rows ≡ atoms p
  pub cols : p.travel.cols ≡ atoms p
  pub within : (k j : ℕ) → k < atoms p → j < atoms p → travel p k j ≤ MOST_TRAVEL

-- a plan of so many units at most. The laws of the model hold of each, however many they are
pub record IsAcceptedUpTo (most : ℕ) (p : PlanParts) : Type 0 where
  pub units : HasUnitsUpTo most p
  pub atoms : HasAtoms p
  pub lists : HasLists p
  pub locations : HasLocations p
  pub travel : HasTravel p
  pub period : IsBetween 1 MOST_PERIOD p.period
  pub stable : IsStable p.line (all_calls p) (all_service p)

-- the plans that are solved have 12 units at most
abbrev pub IsAccepted : PlanParts → Type 0
IsAccepted p = IsAcceptedUpTo MOST_UNITS p

-- an accepted plan with its sums of rates and its factor
pub record IsSummed (p : PlanParts) (calls service factor : ℕ) : Type 0 where
  pub accepted : IsAccepted p
  pub same_calls : calls ≡ all_calls p
  pub same_service : service ≡ all_service p
  pub same_factor : factor ≡ split p
