-- Words of the checks that accept a plan's parts.
use Rattle.std.specs.Prelude.{◌≡◌, ◌==◌, ℕ, ◌<◌, ◌≤◌, List, [], length, map, slice_index_or, All, count_by}
use Rattle.hyper_model.specs.declared.TheConstants.{MOST_RATE, MOST_TRAVEL, WHOLE_TIME}
use Rattle.hyper_model.specs.declared.parts.PlanParts.{PlanParts}
use Rattle.hyper_model.specs.Grid.{Grid, cell}
use Rattle.hyper_model.specs.Groups.{GroupLists, groups_in, IsGrouped}
use Rattle.hyper_model.specs.Sums.{sum_below}
use Rattle.hyper_model.specs.Plans.{units, atoms, unit_at, atom_at, IsBetween, IsAtomWithin}

-- the name of the thing at place k of a list
abbrev pub name_at : {A : Type 0} → (A → List ℕ) → List A → ℕ → List ℕ
name_at name things k = slice_index_or (map name things) k []

-- the first n names are all different
abbrev pub HaveOwnNames : ℕ → (ℕ → List ℕ) → Type 0
HaveOwnNames n name = (i j : ℕ) → i < n → j < n → name i ≡ name j → i ≡ j

-- a name before place n is the name at place n
abbrev pub IsNamedBefore : ℕ → (ℕ → List ℕ) → Type 0
IsNamedBefore n name = (i : ℕ) × ((i < n) × (name i ≡ name n))

-- each of the n units has a rate of service within its limits
abbrev pub HaveRates : PlanParts → Type 0
HaveRates p = (n : ℕ) → n < units p → IsBetween 1 MOST_RATE (unit_at p n).rate

-- each atom is within its limits
abbrev pub AreAtomsWithin : PlanParts → Type 0
AreAtomsWithin p = (j : ℕ) → j < atoms p → IsAtomWithin (units p) (atom_at p j)

-- at how many places of a list the unit stands
abbrev pub places_in : List ℕ → ℕ → ℕ
places_in list unit = count_by (λ m. m == unit) list

-- each of the first n units stands once in the list
abbrev pub EachStandsOnce : ℕ → List ℕ → Type 0
EachStandsOnce n list = (unit : ℕ) → unit < n → places_in list unit ≡ 1

-- a list of the first n units, each once
pub record IsFullList (n : ℕ) (list : List ℕ) : Type 0 where
  pub within : All (λ unit. unit < n) list
  pub once : EachStandsOnce n list

-- a list for each atom, with a place for each unit
pub record HasListSizes (p : PlanParts) : Type 0 where
  pub one_each : length p.lists.rows ≡ atoms p
  pub width : p.lists.units ≡ units p

-- the first n lists are groups of all units
abbrev pub AreGrouped : GroupLists → ℕ → Type 0
AreGrouped lists n = (j : ℕ) → j < n → IsGrouped lists.units (groups_in lists j)

-- each row of the table is a whole time
abbrev pub AreWhole : Grid → Type 0
AreWhole table = (r : ℕ) → r < table.rows → sum_below table.cols (cell table r) ≡ WHOLE_TIME

-- the cells of a row are times of travel
abbrev pub IsRowWithin : Grid → ℕ → Type 0
IsRowWithin table r = (c : ℕ) → c < table.cols → cell table r c ≤ MOST_TRAVEL
