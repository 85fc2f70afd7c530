-- One more weight: it is in range, and stands in ratio to those before it as the masses that the entries hold.
use Rattle.std.proofs.Common.{◌≡◌, ℕ, ◌*◌, ◌/◌, ◌^◌, ◌<◌, ◌≤◌, List, [], ◌∷◌, ◌++◌, All, length, slice_index, arith}
use Rattle.std.specs.Int.{div_ceil}
use Rattle.std.proofs.Math.Nat.{div-mul-le_self, le_of_mul-le-mul_right, mul-le-mul_left, mul-le-mul_right, mul-pos}
use Rattle.std.proofs.lemmas.Nat.{mul-le}
use Rattle.std.proofs.lemmas.Grind.{div_ceil_times}
use Rattle.fixed_interval.specs.Ends.{Ends, between}
use Rattle.fixed_interval.specs.WeightList.{EnclosesAll, IsWeight, ends_at}
use Rattle.fixed_interval.proofs.Rounding.{div_ceil-le, div_ceil-positive, factor-positive}
use Rattle.fixed_interval.proofs.Shifts.{encloses_push}
use Rattle.hyper_model.specs.Sums.{sum_below}
use Rattle.hyper_model.proofs.Sums.{place_le_sum, positive_place, sum-constant, sum-le, sum-scaled}
use Rattle.rate_matrix.specs.Elimination.{AreSoundEntries, Entries}
use Rattle.busy_words.specs.Algebra.{total_ends}
use Rattle.rate_matrix.specs.Weights.{inflow_ends, weight_of}
use Rattle.back_solve.specs.Laws.{NextWeightFits}

-- each weight of a list of weights
pub weight_at : (items : List Ends) (i : ℕ) → i < length items → All IsWeight items → IsWeight (ends_at items i)
weight_at items i inside all = all i (between 0 0) inside

-- sums of products, if one factor of each has its place in a ratio
cross_high : (m l a : ℕ) (x e : ℕ → Ends) (y : ℕ → ℕ) → ((i : ℕ) → i < m → l * y i ≤ (x i).hi * a)
    → l * sum_below m (λ i. y i * (e i).hi) ≤ a * sum_below m (λ i. (x i).hi * (e i).hi)
cross_high m l a x e y cross =
    omega (
      arith,
      sum-scaled m l (λ i. y i * (e i).hi),
      sum-scaled m a (λ i. (x i).hi * (e i).hi),
      sum-le m (λ i. l * (y i * (e i).hi)) (λ i. a * ((x i).hi * (e i).hi))
          (λ i inside. omega (arith, mul-le-mul_right (e i).hi (cross i inside))),
    )

cross_low : (m h a : ℕ) (x e : ℕ → Ends) (y : ℕ → ℕ) → ((i : ℕ) → i < m → (x i).lo * a ≤ h * y i)
    → a * sum_below m (λ i. (x i).lo * (e i).lo) ≤ h * sum_below m (λ i. y i * (e i).lo)
cross_low m h a x e y cross =
    omega (
      arith,
      sum-scaled m a (λ i. (x i).lo * (e i).lo),
      sum-scaled m h (λ i. y i * (e i).lo),
      sum-le m (λ i. a * ((x i).lo * (e i).lo)) (λ i. h * (y i * (e i).lo))
          (λ i inside. omega (arith, mul-le-mul_right (e i).lo (cross i inside))),
    )

-- a flow over what leaves, rounded up: l * y * out ≤ l * held ≤ a * flow
over_rounded_up : (flow out l a y held : ℕ) → 0 < out → y * out ≤ held → l * held ≤ a * flow
    → l * y ≤ div_ceil flow out * a
over_rounded_up flow out l a y held some least cross =
    let rounded : flow * a ≤ div_ceil flow out * out * a = mul-le-mul_right a ((div_ceil_times flow out some).0) in
    let whole : l * y * out ≤ div_ceil flow out * a * out =
    omega (arith, mul-le-mul_left l least, cross, rounded) in
    le_of_mul-le-mul_right whole some

-- and rounded down
over_rounded_down : (flow out h a y held : ℕ) → 0 < out → held ≤ y * out → a * flow ≤ h * held
    → flow / out * a ≤ h * y
over_rounded_down flow out h a y held some most cross =
    let rounded : flow / out * out * a ≤ flow * a = mul-le-mul_right a (div-mul-le_self flow out) in
    let whole : flow / out * a * out ≤ h * y * out = omega (arith, rounded, cross, mul-le-mul_left h most) in
    le_of_mul-le-mul_right whole some

-- a mass is held by a flow from some state that has a mass
some_flow : (m : ℕ) (x e : ℕ → Ends) (y : ℕ → ℕ) → ((i : ℕ) → i < m → 1 ≤ y i → 1 ≤ (x i).hi)
    → 0 < sum_below m (λ i. y i * (e i).hi) → 0 < sum_below m (λ i. (x i).hi * (e i).hi)
some_flow m x e y live flow =
    let from = positive_place m (λ i. y i * (e i).hi) flow in
    let entry : 0 < (e from.0).hi = factor-positive 0 (y from.0) (e from.0).hi from.2 in
    let mass : 0 < y from.0 = factor-positive 0 (e from.0).hi (y from.0) (omega (arith, from.2)) in
    let weight : 0 < (x from.0).hi = live from.0 from.1 mass in
    omega (arith, mul-pos weight entry, place_le_sum m (λ i. (x i).hi * (e i).hi) from.0 from.1)

-- the ends of a quotient of two intervals are in order
quotient-ordered : (a b l h : ℕ) → a ≤ b → 0 < l → l ≤ h → a / h ≤ div_ceil b l
quotient-ordered a b l h flow some out =
    let low = div-mul-le_self a h in
    let high = (div_ceil_times b l some).0 in
    let whole : a / h * h ≤ div_ceil b l * h =
    omega (arith, low, high, flow, mul-le-mul_left (div_ceil b l) out) in
    le_of_mul-le-mul_right whole (let above : 0 < h = omega arith in above)

-- what the rows and the column of state m give to its weight
pub record IsReady (m : ℕ) (entries : Entries) (items : List Ends) : Type 0 where
  pub count : length items ≡ m
  pub weights : All IsWeight items
  pub out : 0 < (total_ends m (entries m)).lo
  pub row : (k : ℕ) → k < m → (entries m k).lo ≤ (entries m k).hi
  pub column : (i : ℕ) → i < m → (entries i m).lo ≤ (entries i m).hi

pub out-ordered : (m : ℕ) (entries : Entries) (items : List Ends) → IsReady m entries items
    → (total_ends m (entries m)).lo ≤ (total_ends m (entries m)).hi
out-ordered m entries items ready = sum-le m (λ k. (entries m k).lo) (λ k. (entries m k).hi) ready.row

pub inflow-ordered : (m : ℕ) (entries : Entries) (items : List Ends) → IsReady m entries items
    → (inflow_ends entries items m).lo ≤ (inflow_ends entries items m).hi
inflow-ordered m entries items ready =
    sum-le m (λ i. (ends_at items i).lo * (entries i m).lo) (λ i. (ends_at items i).hi * (entries i m).hi)
    (λ i inside.
    mul-le (ends_at items i).lo (entries i m).lo (ends_at items i).hi (entries i m).hi
    ((weight_at items i (omega (arith, ready.count)) ready.weights).0) (ready.column i inside))

pub weight_of-ordered : (m : ℕ) (entries : Entries) (items : List Ends) → IsReady m entries items
    → (weight_of entries items m).lo ≤ (weight_of entries items m).hi
weight_of-ordered m entries items ready =
    quotient-ordered (inflow_ends entries items m).lo (inflow_ends entries items m).hi
    (total_ends m (entries m)).lo (total_ends m (entries m)).hi
    (inflow-ordered m entries items ready) ready.out (out-ordered m entries items ready)

-- the flow into a state, of weights up to 2 ^ 52 and entries up to 2 ^ 62
pub inflow-in_range : (m : ℕ) (entries : Entries) (items : List Ends) → length items ≡ m → All IsWeight items
    → ((i : ℕ) → i < m → (entries i m).hi ≤ 2 ^ 62) → (inflow_ends entries items m).hi ≤ m * 2 ^ 114
inflow-in_range m entries items count weights column =
    omega (
      arith,
      sum-constant m (2 ^ 114),
      sum-le m (λ i. (ends_at items i).hi * (entries i m).hi) (λ i. 2 ^ 114)
          (λ i inside.
          let product = mul-le (ends_at items i).hi (entries i m).hi (2 ^ 52) (2 ^ 62)
          ((weight_at items i (omega (arith, count)) weights).1) (column i inside) in
          omega (arith, product)),
    )

below_limit : (m flow out : ℕ) → m ≤ 4095 → 2 ^ 26 ≤ out → flow ≤ m * 2 ^ 114 → div_ceil flow out < 2 ^ 100
below_limit m flow out few some flows =
    let room : 4095 * 2 ^ 88 * 2 ^ 26 ≤ 4095 * 2 ^ 88 * out = mul-le-mul_left (4095 * 2 ^ 88) some in
    let le : div_ceil flow out ≤ 4095 * 2 ^ 88 =
    div_ceil-le flow out (4095 * 2 ^ 88) (omega (arith, some)) (omega (arith, room, flows, few)) in
    omega (arith, le)

pub is_ready : (size least m : ℕ) (caps : ℕ → ℕ) (entries : Entries) (items : List Ends) → 1 ≤ least
    → AreSoundEntries size least caps entries → 0 < m → m < size → length items ≡ m → All IsWeight items
    → IsReady m entries items
is_ready size least m caps entries items some sound later inside count weights = record {
  count = count;
  weights = weights;
  out = omega (arith, sound.live.leaves m later inside);
  row = λ k l. sound.within.ordered m k inside (omega arith) (omega arith);
  column = λ i l. sound.within.ordered i m (omega arith) inside (omega arith);
}

pub next_weight_fits : NextWeightFits
next_weight_fits size least m caps entries items few some under sound later inside count weights = (
  weight_of-ordered m entries items
      (is_ready size least m caps entries items (omega (arith, some)) sound later inside count weights),
  below_limit m (inflow_ends entries items m).hi (total_ends m (entries m)).lo (omega arith)
      (omega (arith, some, sound.live.leaves m later inside))
      (inflow-in_range m entries items count weights
      (λ i l. omega (arith, sound.within.capped i m (omega arith) inside (omega arith), under i (omega arith)))),
)

-- the new weight, with a mass that the flows from the states before it hold
pub weight_of-encloses : (m : ℕ) (entries : Entries) (items : List Ends) (numbers : List ℕ) (y : ℕ)
    → IsReady m entries items → EnclosesAll items numbers
    → y * (total_ends m (entries m)).lo ≤ sum_below m (λ i. slice_index numbers i * (entries i m).hi)
    → sum_below m (λ i. slice_index numbers i * (entries i m).lo) ≤ y * (total_ends m (entries m)).hi
    → EnclosesAll (items ++ weight_of entries items m ∷ []) (numbers ++ y ∷ [])
weight_of-encloses m entries items numbers y ready e least most =
    encloses_push items numbers (weight_of entries items m) y (weight_of-ordered m entries items ready) e
    (λ i inside.
    over_rounded_up (inflow_ends entries items m).hi (total_ends m (entries m)).lo
    (ends_at items i).lo (slice_index numbers i) y (sum_below m (λ k. slice_index numbers k * (entries k m).hi))
    ready.out least
    (cross_high m (ends_at items i).lo (slice_index numbers i) (ends_at items) (λ k. entries k m)
    (slice_index numbers) (λ k l. e.in_ratio i k inside (omega (arith, ready.count)))))
    (λ i inside.
    over_rounded_down (inflow_ends entries items m).lo (total_ends m (entries m)).hi
    (ends_at items i).hi (slice_index numbers i) y (sum_below m (λ k. slice_index numbers k * (entries k m).lo))
    (omega (arith, ready.out, out-ordered m entries items ready)) most
    (cross_low m (ends_at items i).hi (slice_index numbers i) (ends_at items) (λ k. entries k m)
    (slice_index numbers) (λ k l. e.in_ratio k i (omega (arith, ready.count)) inside)))
    (λ some.
    div_ceil-positive (inflow_ends entries items m).hi (total_ends m (entries m)).lo ready.out
    (some_flow m (ends_at items) (λ k. entries k m) (slice_index numbers)
    (λ k l. e.positive k (omega (arith, ready.count)))
    (omega (arith, least, mul-pos some ready.out))))
