-- One common factor brings all numbers into the weights that enclose them.
use Rattle.std.proofs.Common.{◌≡◌, ℕ, suc, zero, ◌*◌, ◌<◌, ◌≤◌, ◌⊎◌, List, length, slice_index, refl, arith, inl, inr}
use Rattle.std.proofs.Math.Nat.{le_of_mul-le-mul_right, mul-le-mul_right, eq-or-lt_of_le}
use Rattle.std.proofs.lemmas.Bool.{cases_lt}
use Rattle.fixed_interval.proofs.Rounding.{factor-positive}
use Rattle.fixed_interval.specs.Ends.{Ends, Encloses}
use Rattle.fixed_interval.specs.WeightList.{EnclosesAll, ends_at}

-- The weights of the first n places enclose their numbers up to one common factor.
pub record Holds (n : ℕ) (w : ℕ → Ends) (y : ℕ → ℕ) : Type 0 where
  pub cross : (i k : ℕ) → i < n → k < n → (w i).lo * y k ≤ (w k).hi * y i
  pub live : (k : ℕ) → k < n → 1 ≤ y k → 1 ≤ (w k).hi

-- Such a factor, as a fraction.
pub record AreScaled (n : ℕ) (w : ℕ → Ends) (y : ℕ → ℕ) : Type 0 where
  pub factor : ℕ
  pub den : ℕ
  pub some : 0 < factor
  pub below : 0 < den
  pub inside : (i : ℕ) → i < n → Encloses (w i) (factor * y i) den

-- A place whose number is not 0, and at which the high end is least for its number.
record IsTightest (n : ℕ) (high y : ℕ → ℕ) : Type 0 where
  place : ℕ
  inside : place < n
  some : 0 < y place
  least : (i : ℕ) → i < n → high place * y i ≤ high i * y place

-- The list of weights, by place.
pub holds_of_list : (items : List Ends) (numbers : List ℕ) → EnclosesAll items numbers
    → Holds (length items) (ends_at items) (slice_index numbers)
holds_of_list items numbers e = record { cross = e.in_ratio; live = e.positive }

at_last : (n i : ℕ) → i < suc n → (i ≡ n) ⊎ (i < n)
at_last n i inside = eq-or-lt_of_le (let le : i ≤ n = omega arith in le)

-- The new place is tighter than the tightest before, and so than all of them.
tighter_than_all : (hn yn hp yp hi yi : ℕ) → 0 < yp → hp * yi ≤ hi * yp → hn * yp < hp * yn → hn * yi ≤ hi * yn
tighter_than_all hn yn hp yp hi yi some least tighter =
    let first : hn * yp * yi ≤ hp * yn * yi = mul-le-mul_right yi (let le : hn * yp ≤ hp * yn = omega arith in le) in
    let second : hp * yi * yn ≤ hi * yp * yn = mul-le-mul_right yn least in
    let whole : hn * yi * yp ≤ hi * yn * yp = omega (arith, first, second) in
    le_of_mul-le-mul_right whole some

-- The last of n + 1 places, if no number before it is above 0.
first_place : (n v : ℕ) (high y : ℕ → ℕ) → y n ≡ v → ((i : ℕ) → i < n → y i ≡ 0)
    → ((i : ℕ) → i < suc n → y i ≡ 0) ⊎ IsTightest (suc n) high y
first_place n zero high y is none = inl (λ i inside. elim (at_last n i inside) [
  | inl last ↦ rw last is
  | inr before ↦ none i before
])
first_place n (suc v) high y is none = inr (record {
  place = n;
  inside = omega arith;
  some = omega arith;
  least = λ i inside. elim (at_last n i inside) [
    | inl last ↦ rw last (omega arith)
    | inr before ↦ rw (none i before) (omega arith)
  ];
})

next_place : (n : ℕ) (high y : ℕ → ℕ) → IsTightest n high y → IsTightest (suc n) high y
next_place n high y t = elim (cases_lt (high n * y t.place) (high t.place * y n)) [
  | inl tighter ↦ record {
    place = n;
    inside = omega arith;
    some = factor-positive _ (high t.place) (y n) tighter;
    least = λ i inside. elim (at_last n i inside) [
      | inl last ↦ rw last (omega arith)
      | inr before ↦ tighter_than_all (high n) (y n) (high t.place) (y t.place) (high i) (y i) t.some (t.least i before) tighter
    ];
  }
  | inr keeps ↦ record {
    place = t.place;
    inside = (let in_more : t.place < suc n = omega (arith, t.inside) in in_more);
    some = t.some;
    least = λ i inside. elim (at_last n i inside) [ inl last ↦ rw last keeps | inr before ↦ t.least i before ];
  }
]

tightest_or_none : (n : ℕ) (high y : ℕ → ℕ) → ((i : ℕ) → i < n → y i ≡ 0) ⊎ IsTightest n high y
tightest_or_none zero high y = inl (λ i inside. absurd (omega arith))
tightest_or_none (suc n) high y = elim (tightest_or_none n high y) [
  | inl none ↦ first_place n _ high y refl none
  | inr t ↦ inr (next_place n high y t)
]

tightest : (n m : ℕ) (high y : ℕ → ℕ) → m < n → 0 < y m → IsTightest n high y
tightest n m high y inside some = elim (tightest_or_none n high y) [
  | inl none ↦ absurd (omega (arith, none m inside))
  | inr t ↦ t
]

-- If some number is not 0, one common factor brings all the numbers into their weights.
pub scaled_by : (n : ℕ) (w : ℕ → Ends) (y : ℕ → ℕ) → Holds n w y → (m : ℕ) → m < n → 0 < y m → AreScaled n w y
scaled_by n w y holds m inside some =
    let t = tightest n m (λ k. (w k).hi) y inside some in
    record {
      factor = (w t.place).hi;
      den = y t.place;
      some = holds.live t.place t.inside t.some;
      below = t.some;
      inside = λ i i_inside. record {
        low = holds.cross i t.place i_inside t.inside;
        high = t.least i i_inside;
      };
    }
