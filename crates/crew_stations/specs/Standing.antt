-- Plans whose units stand at stations, in whatever order the units are numbered.
use Rattle.std.specs.Prelude.{◌≡◌, ℕ, ◌*◌, ◌<◌, ◌==◌, if◌then◌else◌, List, [], ◌∷◌, All}
use Rattle.std.specs.List.{list_any}
use Rattle.hyper_model.specs.declared.parts.PlanParts.{PlanParts}
use Rattle.hyper_model.specs.Plans.{units, atoms, service_of, calls_of, district_of, groups_of, located}
use Rattle.hyper_model.specs.Sums.{sum_below}
use Rattle.hyper_model.specs.Words.{words, is_busy, turned_word}
use Rattle.crew_stations.specs.Lumps.{class_sum}
use Rattle.crew_stations.specs.Stations.{StationPlan, stations, crews_at, stride_of, order_of}

-- a group of exactly the units of station k
pub record IsCrewGroup (count : ℕ) (station : ℕ → ℕ) (k : ℕ) (group : List ℕ) : Type 0 where
  pub within : All (λ n. n < count) group
  pub members : (n : ℕ) → n < count → list_any (λ m. m == n) group ≡ (k == station n)

-- a list of stations, and the groups of their units in the same order
abbrev pub AreCrewGroups : ℕ → (ℕ → ℕ) → ℕ → List ℕ → List (List ℕ) → Type 0
AreCrewGroups count station stations [] [] = Prim.Unit {0}
AreCrewGroups count station stations [] (group ∷ groups) = ⊥
AreCrewGroups count station stations (k ∷ order) [] = ⊥
AreCrewGroups count station stations (k ∷ order) (group ∷ groups) =
    (k < stations) × IsCrewGroup count station k group × AreCrewGroups count station stations order groups

-- unit n of the plan is a crew of the station `station n`
pub record IsStationed (p : PlanParts) (s : StationPlan) (station : ℕ → ℕ) : Type 0 where
  pub inside : (n : ℕ) → n < units p → station n < stations s
  pub crews : (k : ℕ) → k < stations s → class_sum (units p) station (λ n. 1) k ≡ crews_at s k
  pub service : (n : ℕ) → n < units p → service_of p n ≡ service_of s.parts (station n)
  pub same_atoms : atoms p ≡ atoms s.parts
  pub calls : (j : ℕ) → j < atoms p → calls_of p j ≡ calls_of s.parts j
  pub districts : (j : ℕ) → j < atoms p → station (district_of p j) ≡ district_of s.parts j
  pub groups : (j : ℕ) → j < atoms p → AreCrewGroups (units p) station (stations s) (order_of s j) (groups_of p j)
  pub columns : p.located.cols ≡ s.parts.located.cols
  pub located : (n k : ℕ) → n < units p → k < atoms p → located p n k ≡ located s.parts (station n) k
  pub travel : p.travel ≡ s.parts.travel
  pub line : p.line ≡ s.parts.line
  pub period : p.period ≡ s.parts.period

-- how many crews of station k are busy in a word, and the number of the word's state
abbrev pub busy_at : ℕ → (ℕ → ℕ) → ℕ → ℕ → ℕ
busy_at count station word k = class_sum count station (λ n. if is_busy word n then 1 else 0) k

abbrev pub state_of : PlanParts → StationPlan → (ℕ → ℕ) → ℕ → ℕ
state_of p s station word = sum_below (stations s) (λ k. busy_at (units p) station word k * stride_of s k)

-- the mass of a state: that of its words together
abbrev pub state_mass : PlanParts → StationPlan → (ℕ → ℕ) → (ℕ → ℕ) → ℕ → ℕ
state_mass p s station x a = class_sum (words p) (state_of p s station) x a

-- the word in which units a and b have changed places
abbrev pub exchanged_word : ℕ → ℕ → ℕ → ℕ
exchanged_word a b word =
    if is_busy word a
    then (if is_busy word b then word else turned_word (turned_word word a) b)
    else (if is_busy word b then turned_word (turned_word word a) b else word)
