-- The lists of the plan with a unit for each crew: the groups that are written as a list are cut out of it again.
use Rattle.std.proofs.Common.{◌≡◌, ℕ, ◌+◌, ◌<◌, true, false, cond, List, [], ◌∷◌, ◌++◌, length, map, drop, refl, sym, ap, ◌∙◌, arith}
use Rattle.std.specs.List.{count_by}
use Rattle.std.specs.Prelude.{All, ◌==◌}
use Rattle.std.proofs.lemmas.List.Elements.{All-nil, All-cons, All-head, All-tail, All-append}
use Rattle.std.proofs.lemmas.List.Sums.{sum_by-append, sum_by-cons}
use Rattle.hyper_model.specs.Groups.{put_before, groups_from}
use Rattle.crew_stations.specs.Expanded.{joined, beginnings}

abbrev pub IsFilled : List ℕ → Type 0
IsFilled group = 0 < length group

-- a group before groups that are cut as they were
group_kept : (unit : ℕ) (units : List ℕ) (groups : List (List ℕ)) → All IsFilled groups
    → groups_from (joined groups) (drop 1 (beginnings groups)) ≡ groups
    → groups_from (unit ∷ units ++ joined groups) (map (λ _. false) units ++ beginnings groups)
    ≡ (unit ∷ units) ∷ groups
group_kept unit [] [] h e = refl
group_kept unit [] ([] ∷ groups) h e = absurd (let none = All-head IsFilled [] groups h in omega (arith, none))
group_kept unit [] ((next ∷ group) ∷ groups) h e = ap (λ c. put_before unit true c) e
group_kept unit (next ∷ units) groups h e = ap (λ c. put_before unit false c) (group_kept next units groups h e)

pub groups_kept : (groups : List (List ℕ)) → All IsFilled groups
    → groups_from (joined groups) (drop 1 (beginnings groups)) ≡ groups
groups_kept [] h = refl
groups_kept ([] ∷ groups) h = absurd (let none = All-head IsFilled [] groups h in omega (arith, none))
groups_kept ((unit ∷ units) ∷ groups) h =
    group_kept unit units groups (All-tail IsFilled (unit ∷ units) groups h)
    (groups_kept groups (All-tail IsFilled (unit ∷ units) groups h))

-- what holds of all units of the groups holds of their list
pub joined_all : (P : ℕ → Type 0) (groups : List (List ℕ)) → All (λ group. All P group) groups → All P (joined groups)
joined_all P [] h = All-nil P
joined_all P (group ∷ groups) h =
    All-append P group (joined groups) (All-head (λ g. All P g) group groups h)
    (joined_all P groups (All-tail (λ g. All P g) group groups h))

-- the groups of an order of stations
module _ (crews : ℕ → List ℕ) (count : ℕ) where
  pub each_filled : (order : List ℕ) → All (λ k. k < count) order → ((k : ℕ) → k < count → 0 < length (crews k))
      → All IsFilled (map crews order)
  each_filled [] h f = All-nil IsFilled
  each_filled (k ∷ order) h f =
      All-cons IsFilled (crews k) (map crews order) (f k (All-head (λ i. i < count) k order h))
      (each_filled order (All-tail (λ i. i < count) k order h) f)

  pub each_within : (P : ℕ → Type 0) (order : List ℕ) → All (λ k. k < count) order
      → ((k : ℕ) → k < count → All P (crews k)) → All (λ group. All P group) (map crews order)
  each_within P [] h f = All-nil (λ group. All P group)
  each_within P (k ∷ order) h f =
      All-cons (λ group. All P group) (crews k) (map crews order) (f k (All-head (λ i. i < count) k order h))
      (each_within P order (All-tail (λ i. i < count) k order h) f)

  -- a unit stands in the list as often as its station in the order
  pub count_joined : (n station : ℕ) (order : List ℕ) → All (λ k. k < count) order
      → ((k : ℕ) → k < count → count_by (λ m. m == n) (crews k) ≡ cond (k == station) 1 0)
      → count_by (λ m. m == n) (joined (map crews order)) ≡ count_by (λ k. k == station) order
  count_joined n station [] h f = refl
  count_joined n station (k ∷ order) h f =
      sum_by-append (λ (m : ℕ). cond {A = ℕ} (m == n) 1 0) (crews k) (joined (map crews order))
      ∙ ap (λ c. c + count_by (λ m. m == n) (joined (map crews order))) (f k (All-head (λ i. i < count) k order h))
      ∙ ap (λ c. cond (k == station) 1 0 + c) (count_joined n station order (All-tail (λ i. i < count) k order h) f)
      ∙ sym (sum_by-cons (λ (i : ℕ). cond {A = ℕ} (i == station) 1 0) k order)
