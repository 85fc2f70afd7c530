-- Sums over the units and atoms of a plan under its mean travel times, and that none exceeds the longest.
use Rattle.std.proofs.Common.{◌≡◌, ℕ, ◌+◌, ◌*◌, ◌<◌, ◌≤◌, Bool, true, false, cond, refl, sym, ap, ◌∙◌, arith}
use Rattle.std.specs.Prelude.{Option, None}
use Rattle.std.proofs.Math.Nat.{mul-le-mul_left}
use Rattle.hyper_model.specs.declared.parts.PlanParts.{PlanParts}
use Rattle.hyper_model.specs.Sums.{sum_below}
use Rattle.hyper_model.specs.Plans.{units, atoms, service_of, calls_of, all_calls, all_service, split, IsAccepted}
use Rattle.hyper_model.specs.Measures.{queued_mass, base, taken_mass, dispatch_flow, dispatch_flow_by, mean_travel, travel_from_calls, travel_to}
use Rattle.hyper_model.proofs.Sums.{sum-same, sum-add, sum-scaled, sum-swap, sum-le, sum_none}
use Rattle.hyper_model.proofs.Masses.{taken_room}
use Rattle.travel_measures.specs.TravelEnds.{is_among, travel_to_calls, longest_mean}
use Rattle.travel_measures.proofs.Sums.{mean_fits, from_calls_fits}

-- a sum of choices, term by term
cond_linear : (b : Bool) (r c a k d : ℕ) → cond b (r * (c * a + k * d)) 0 ≡ c * cond b (r * a) 0 + k * cond b (r * d) 0
cond_linear true r c a k d = omega arith
cond_linear false r c a k d = omega arith

pub choices_linear : (n : ℕ) (test : ℕ → Bool) (rate a d : ℕ → ℕ) (c k : ℕ)
    → sum_below n (λ j. cond (test j) (rate j * (c * a j + k * d j)) 0)
    ≡ c * sum_below n (λ j. cond (test j) (rate j * a j) 0) + k * sum_below n (λ j. cond (test j) (rate j * d j) 0)
choices_linear n test rate a d c k =
    sum-same n (λ j. cond (test j) (rate j * (c * a j + k * d j)) 0)
    (λ j. c * cond (test j) (rate j * a j) 0 + k * cond (test j) (rate j * d j) 0)
    (λ j l. cond_linear (test j) (rate j) c (a j) k (d j))
    ∙ sum-add n (λ j. c * cond (test j) (rate j * a j) 0) (λ j. k * cond (test j) (rate j * d j) 0)
    ∙ (let first = sum-scaled n c (λ j. cond (test j) (rate j * a j) 0) in
    let second = sum-scaled n k (λ j. cond (test j) (rate j * d j) 0) in
    omega (arith, first, second))

cond_sum : (b : Bool) (n r : ℕ) (f : ℕ → ℕ) → sum_below n (λ i. cond b (r * f i) 0) ≡ cond b (r * sum_below n f) 0
cond_sum true n r f = sum-scaled n r f
cond_sum false n r f = sum_none n (λ i. 0) (λ i l. refl)

cond_same : (b : Bool) (a k : ℕ) → a ≡ k → cond b a 0 ≡ cond b k 0
cond_same b a k e = ap (λ c. cond b c 0) e

cond_le : (b : Bool) (r a k : ℕ) → a ≤ k → cond b (r * a) 0 ≤ k * cond b r 0
cond_le true r a k le = omega (arith, mul-le-mul_left r le)
cond_le false r a k le = omega arith

-- a sum of choices of terms that are at most k
pub choices_le : (n : ℕ) (test : ℕ → Bool) (rate f : ℕ → ℕ) (k : ℕ) → ((j : ℕ) → j < n → f j ≤ k)
    → sum_below n (λ j. cond (test j) (rate j * f j) 0) ≤ k * sum_below n (λ j. cond (test j) (rate j) 0)
choices_le n test rate f k h =
    omega (
      arith,
      sum-le n (λ j. cond (test j) (rate j * f j) 0) (λ j. k * cond (test j) (rate j) 0)
          (λ j l. cond_le (test j) (rate j) (f j) k (h j l)),
      sum-scaled n k (λ j. cond (test j) (rate j) 0),
    )

-- of what is at most `cap` each, u at once and l that wait come to at most `cap` times all
room_fits : (c a g l k u b cap : ℕ) → a ≤ cap * u → 1000 * k ≤ cap * c → u + g * l ≡ g * b
    → c * a + 1000 * g * l * k ≤ cap * (c * g * b)
room_fits c a g l k u b cap travels waits all =
    let first : c * a ≤ c * (cap * u) = mul-le-mul_left c travels in
    let second : g * l * (1000 * k) ≤ g * l * (cap * c) = mul-le-mul_left (g * l) waits in
    let whole : cap * c * (u + g * l) ≡ cap * c * (g * b) = ap (λ n. cap * c * n) all in
    omega (arith, first, second, whole)

unit_fits_at : (c m t g s l q v cap : ℕ) → t ≤ cap * v → 1000 * q ≤ cap * c * c
    → c * m * t + 1000 * g * s * l * q ≤ cap * (c * (m * v + g * s * l * c))
unit_fits_at c m t g s l q v cap travels waits =
    let first : c * m * t ≤ c * m * (cap * v) = mul-le-mul_left (c * m) travels in
    let second : g * s * l * (1000 * q) ≤ g * s * l * (cap * c * c) = mul-le-mul_left (g * s * l) waits in
    omega (arith, first, second)

times_le : (n : ℕ) (f t : ℕ → ℕ) (cap : ℕ) → ((i : ℕ) → i < n → t i ≤ cap)
    → sum_below n (λ i. f i * t i) ≤ cap * sum_below n f
times_le n f t cap h =
    omega (
      arith,
      sum-le n (λ i. f i * t i) (λ i. cap * f i) (λ i l. omega (arith, mul-le-mul_left (f i) (h i l))),
      sum-scaled n cap f,
    )

three_factors : (a b c : ℕ) → a * b * c ≡ a * (b * c)
three_factors a b c = omega arith

-- what is travelled to atom j at once, by all units
abbrev pub trips_to_mass : PlanParts → (ℕ → ℕ) → ℕ → ℕ
trips_to_mass p x j = sum_below (units p) (λ n. taken_mass p x n j * mean_travel p n j)

-- what unit n travels at once to the atoms of a district, or of the region
abbrev pub trip_mass : PlanParts → (ℕ → ℕ) → Option ℕ → ℕ → ℕ
trip_mass p x district n =
    sum_below (atoms p) (λ j. cond (is_among p district j) (calls_of p j * taken_mass p x n j * mean_travel p n j) 0)

-- the calls of those atoms
abbrev pub calls_among : PlanParts → Option ℕ → ℕ
calls_among p district = sum_below (atoms p) (λ j. cond (is_among p district j) (calls_of p j) 0)

-- the flow of calls that unit n takes at once
abbrev pub taken_calls : PlanParts → (ℕ → ℕ) → ℕ → ℕ
taken_calls p x n = sum_below (atoms p) (λ j. calls_of p j * taken_mass p x n j)

module _ (p : PlanParts) (a : IsAccepted p) (x : ℕ → ℕ) (z : ℕ) where
  -- unit by unit or atom by atom
  pub trips_swapped : (district : Option ℕ)
      → sum_below (units p) (trip_mass p x district)
      ≡ sum_below (atoms p) (λ j. cond (is_among p district j) (calls_of p j * trips_to_mass p x j) 0)
  trips_swapped district =
      sum-swap (units p) (atoms p)
      (λ n j. cond (is_among p district j) (calls_of p j * taken_mass p x n j * mean_travel p n j) 0)
      ∙ sum-same (atoms p)
      (λ j. sum_below (units p) (λ n. cond (is_among p district j) (calls_of p j * taken_mass p x n j * mean_travel p n j) 0))
      (λ j. cond (is_among p district j) (calls_of p j * trips_to_mass p x j) 0)
      (λ j l.
      sum-same (units p) (λ n. cond (is_among p district j) (calls_of p j * taken_mass p x n j * mean_travel p n j) 0)
      (λ n. cond (is_among p district j) (calls_of p j * (taken_mass p x n j * mean_travel p n j)) 0)
      (λ n h. cond_same (is_among p district j) _ _ (three_factors (calls_of p j) (taken_mass p x n j) (mean_travel p n j)))
      ∙ cond_sum (is_among p district j) (units p) (calls_of p j) (λ n. taken_mass p x n j * mean_travel p n j))

  -- what is travelled to all atoms of a district, or of the region, is made of what is travelled to each
  pub travel_made : (district : Option ℕ)
      → sum_below (atoms p) (λ j. cond (is_among p district j) (calls_of p j * travel_to p x z j) 0)
      ≡ all_calls p * sum_below (units p) (trip_mass p x district) + 1000 * split p * queued_mass p x z * travel_to_calls p district
  travel_made district =
      choices_linear (atoms p) (is_among p district) (calls_of p) (trips_to_mass p x) (travel_from_calls p) (all_calls p)
      (1000 * split p * queued_mass p x z)
      ∙ ap (λ t. all_calls p * t + 1000 * split p * queued_mass p x z * travel_to_calls p district) (sym (trips_swapped district))

  pub atom_fits : (j : ℕ) → j < atoms p → travel_to p x z j ≤ longest_mean p * (all_calls p * split p * base p x z)
  atom_fits j l =
      room_fits (all_calls p) (trips_to_mass p x j) (split p) (queued_mass p x z) (travel_from_calls p j)
      (sum_below (units p) (λ n. taken_mass p x n j)) (base p x z) (longest_mean p)
      (times_le (units p) (λ n. taken_mass p x n j) (λ n. mean_travel p n j) (longest_mean p) (λ n h. mean_fits p a n j h l))
      (from_calls_fits p j l) (taken_room p a x z j l)

  mean_grouped : (cap c g b m : ℕ) → cap * (c * g * b) * m ≡ cap * (c * m * g * b)
  mean_grouped cap c g b m = omega arith

  pub district_fits : (district : Option ℕ)
      → all_calls p * sum_below (units p) (trip_mass p x district) + 1000 * split p * queued_mass p x z * travel_to_calls p district
      ≤ longest_mean p * (all_calls p * calls_among p district * split p * base p x z)
  district_fits district =
      omega (
        arith,
        travel_made district,
        choices_le (atoms p) (is_among p district) (calls_of p) (travel_to p x z)
            (longest_mean p * (all_calls p * split p * base p x z)) atom_fits,
        mean_grouped (longest_mean p) (all_calls p) (split p) (base p x z) (calls_among p district),
      )

  region_waits : 1000 * travel_to_calls p None ≤ longest_mean p * all_calls p * all_calls p
  region_waits =
      omega (
        arith,
        sum-scaled (atoms p) 1000 (λ j. calls_of p j * travel_from_calls p j),
        sum-le (atoms p) (λ j. 1000 * (calls_of p j * travel_from_calls p j))
            (λ j. longest_mean p * all_calls p * calls_of p j)
            (λ j l. omega (arith, mul-le-mul_left (calls_of p j) (from_calls_fits p j l))),
        sum-scaled (atoms p) (longest_mean p * all_calls p) (calls_of p),
      )

  pub unit_fits : (n : ℕ) → n < units p
      → all_calls p * all_service p * trip_mass p x None n
      + 1000 * split p * service_of p n * queued_mass p x z * travel_to_calls p None
      ≤ longest_mean p * (all_calls p * (all_service p * taken_calls p x n + split p * service_of p n * queued_mass p x z * all_calls p))
  unit_fits n l =
      unit_fits_at (all_calls p) (all_service p) (trip_mass p x None n) (split p) (service_of p n) (queued_mass p x z)
      (travel_to_calls p None) (taken_calls p x n) (longest_mean p)
      (times_le (atoms p) (λ j. calls_of p j * taken_mass p x n j) (λ j. mean_travel p n j) (longest_mean p)
      (λ j h. mean_fits p a n j l h))
      region_waits

  -- all dispatches of unit n are those at once and those out of the queue
  dispatch_grouped : (r m t w : ℕ) → r * (m * t + w) ≡ m * (r * t) + w * r
  dispatch_grouped r m t w = omega arith

  pub dispatched_made : (n : ℕ)
      → dispatch_flow_by p x z n ≡ all_service p * taken_calls p x n + split p * service_of p n * queued_mass p x z * all_calls p
  dispatched_made n =
      sum-same (atoms p) (dispatch_flow p x z n)
      (λ j. all_service p * (calls_of p j * taken_mass p x n j) + split p * service_of p n * queued_mass p x z * calls_of p j)
      (λ j l. dispatch_grouped (calls_of p j) (all_service p) (taken_mass p x n j) (split p * service_of p n * queued_mass p x z))
      ∙ sum-add (atoms p) (λ j. all_service p * (calls_of p j * taken_mass p x n j))
      (λ j. split p * service_of p n * queued_mass p x z * calls_of p j)
      ∙ (let first = sum-scaled (atoms p) (all_service p) (λ j. calls_of p j * taken_mass p x n j) in
      let second = sum-scaled (atoms p) (split p * service_of p n * queued_mass p x z) (calls_of p) in
      omega (arith, first, second))
