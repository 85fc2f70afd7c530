-- What the ends of mean times contain, over plain numbers. Of g * b shares t are travelled at once; l of b calls
-- wait; c are all calls.
use Rattle.std.proofs.Common.{◌≡◌, ℕ, ◌+◌, ◌*◌, ◌^◌, ◌<◌, ◌≤◌, refl, arith}
use Rattle.std.proofs.Math.Nat.{mul-le-mul_left}
use Rattle.fixed_interval.specs.Ends.{Ends, Encloses, exact_ends, plus_ends, product_ends, scaled_ends, ratio_ends, quotient_ends}
use Rattle.fixed_interval.proofs.Rounding.{encloses_same, encloses_times, encloses_exact, encloses_plus, encloses_product, encloses_scaled, encloses_ratio, encloses_quotient}
use Rattle.hyper_model.specs.Measures.{Ratio, ContainsRatio}

-- the ends of a mean time are those of an interval that contains it in thousandths
pub contains_time : (i : Ends) (num den : ℕ) (r : Ratio) → num ≡ r.numerator → 1000 * den ≡ r.denominator
    → Encloses i num den → ContainsRatio i.lo i.hi 1000 r
contains_time i num den r same_num same_den e =
    record {
      least = rw (← same_num, ← same_den) (omega (arith, mul-le-mul_left 1000 e.low));
      most = rw (← same_num, ← same_den) (omega (arith, mul-le-mul_left 1000 e.high));
    }

pub late_is : (s c : ℕ) → 0 < c → Encloses (ratio_ends (exact_ends s) 4096000 c) (s * 1 * 4096000) (c * 1)
late_is s c some =
    encloses_ratio (exact_ends s) (ratio_ends (exact_ends s) 4096000 c) 4096000 c some refl (s * 1) 1
    (encloses_exact s (exact_ends s) refl 1)

-- the region's time, and a district's of `mine` calls
pub mean_is : (trips wait late : Ends) (c mine g b l s t cap : ℕ) → Encloses trips (2 ^ 62 * t) (g * b)
    → Encloses wait (2 ^ 62 * l) b → Encloses late (s * 1 * 4096000) (c * 1)
    → c * t + 1000 * g * l * s ≤ cap * (c * mine * g * b)
    → Encloses
    (quotient_ends (plus_ends (scaled_ends 4096 trips) (product_ends wait late)) (exact_ends (4096 * mine * 2 ^ 62)) cap)
    (c * t + 1000 * g * l * s) (c * mine * g * b)
mean_is trips wait late c mine g b l s t cap at_once waits lates fits =
    let top : Ends = plus_ends (scaled_ends 4096 trips) (product_ends wait late) in
    let first = encloses_times (scaled_ends 4096 trips) c (4096 * (2 ^ 62 * t)) (g * b) (c * (4096 * (2 ^ 62 * t))) (g * b * c)
    refl (omega arith) (encloses_scaled trips (scaled_ends 4096 trips) 4096 refl (2 ^ 62 * t) (g * b) at_once) in
    let second = encloses_times (product_ends wait late) g (2 ^ 62 * l * (s * 1 * 4096000)) (b * (c * 1))
    (g * (2 ^ 62 * l * (s * 1 * 4096000))) (g * b * c) refl (omega arith)
    (encloses_product wait late (product_ends wait late) refl (2 ^ 62 * l) b (s * 1 * 4096000) (c * 1) waits lates) in
    let both = encloses_plus (scaled_ends 4096 trips) (product_ends wait late) top refl (c * (4096 * (2 ^ 62 * t)))
    (g * (2 ^ 62 * l * (s * 1 * 4096000))) (g * b * c) first second in
    let whole = encloses_exact (4096 * mine * 2 ^ 62) (exact_ends (4096 * mine * 2 ^ 62)) refl (g * b * c) in
    let quotient = encloses_quotient top (exact_ends (4096 * mine * 2 ^ 62))
    (quotient_ends top (exact_ends (4096 * mine * 2 ^ 62)) cap) cap refl
    (c * (4096 * (2 ^ 62 * t)) + g * (2 ^ 62 * l * (s * 1 * 4096000))) (4096 * mine * 2 ^ 62 * (g * b * c)) (g * b * c) both
    whole (omega (arith, mul-le-mul_left (4096 * 2 ^ 62) fits)) in
    encloses_same (quotient_ends top (exact_ends (4096 * mine * 2 ^ 62)) cap) (4096 * 2 ^ 62) (c * t + 1000 * g * l * s)
    (c * mine * g * b) (c * (4096 * (2 ^ 62 * t)) + g * (2 ^ 62 * l * (s * 1 * 4096000)))
    (4096 * mine * 2 ^ 62 * (g * b * c)) (omega arith) (omega arith) (omega arith) quotient

-- an atom's time, of which k is what those that wait travel
pub atom_is : (trips wait : Ends) (c g b l k t cap : ℕ) → Encloses trips (2 ^ 62 * t) (g * b) → Encloses wait (2 ^ 62 * l) b
    → c * t + 1000 * g * l * k ≤ cap * (c * g * b)
    → Encloses
    (quotient_ends (plus_ends (scaled_ends c trips) (scaled_ends (1000 * k) wait)) (exact_ends (c * 2 ^ 62)) cap)
    (c * t + 1000 * g * l * k) (c * g * b)
atom_is trips wait c g b l k t cap at_once waits fits =
    let top : Ends = plus_ends (scaled_ends c trips) (scaled_ends (1000 * k) wait) in
    let first = encloses_scaled trips (scaled_ends c trips) c refl (2 ^ 62 * t) (g * b) at_once in
    let second = encloses_times (scaled_ends (1000 * k) wait) g (1000 * k * (2 ^ 62 * l)) b (g * (1000 * k * (2 ^ 62 * l)))
    (g * b) refl refl (encloses_scaled wait (scaled_ends (1000 * k) wait) (1000 * k) refl (2 ^ 62 * l) b waits) in
    let both = encloses_plus (scaled_ends c trips) (scaled_ends (1000 * k) wait) top refl (c * (2 ^ 62 * t))
    (g * (1000 * k * (2 ^ 62 * l))) (g * b) first second in
    let whole = encloses_exact (c * 2 ^ 62) (exact_ends (c * 2 ^ 62)) refl (g * b) in
    let quotient = encloses_quotient top (exact_ends (c * 2 ^ 62)) (quotient_ends top (exact_ends (c * 2 ^ 62)) cap) cap refl
    (c * (2 ^ 62 * t) + g * (1000 * k * (2 ^ 62 * l))) (c * 2 ^ 62 * (g * b)) (g * b) both whole
    (omega (arith, mul-le-mul_left (2 ^ 62) fits)) in
    encloses_same (quotient_ends top (exact_ends (c * 2 ^ 62)) cap) (2 ^ 62) (c * t + 1000 * g * l * k) (c * g * b)
    (c * (2 ^ 62 * t) + g * (1000 * k * (2 ^ 62 * l))) (c * 2 ^ 62 * (g * b)) (omega arith) (omega arith) (omega arith) quotient

-- a unit's time: it takes v calls at once, and s of m of those that wait
pub unit_is : (trips taken help late : Ends) (c m g s l q t v b cap : ℕ) → Encloses trips (2 ^ 62 * t) (g * b)
    → Encloses taken (2 ^ 62 * v) (g * b) → Encloses help (2 ^ 62 * l * s) (m * b)
    → Encloses late (q * 1 * 4096000) (c * 1)
    → c * m * t + 1000 * g * s * l * q ≤ cap * (c * (m * v + g * s * l * c))
    → Encloses
    (quotient_ends (plus_ends (scaled_ends 4096 trips) (product_ends help late))
    (scaled_ends 4096 (plus_ends taken (scaled_ends c help))) cap)
    (c * m * t + 1000 * g * s * l * q) (c * (m * v + g * s * l * c))
unit_is trips taken help late c m g s l q t v b cap at_once takes helps lates fits =
    let den : ℕ = g * b * m * c in
    let top : Ends = plus_ends (scaled_ends 4096 trips) (product_ends help late) in
    let answered : Ends = plus_ends taken (scaled_ends c help) in
    let travels = encloses_times (scaled_ends 4096 trips) (m * c) (4096 * (2 ^ 62 * t)) (g * b) (m * c * (4096 * (2 ^ 62 * t)))
    den refl (omega arith) (encloses_scaled trips (scaled_ends 4096 trips) 4096 refl (2 ^ 62 * t) (g * b) at_once) in
    let waits = encloses_times (product_ends help late) g (2 ^ 62 * l * s * (q * 1 * 4096000)) (m * b * (c * 1))
    (g * (2 ^ 62 * l * s * (q * 1 * 4096000))) den refl (omega arith)
    (encloses_product help late (product_ends help late) refl (2 ^ 62 * l * s) (m * b) (q * 1 * 4096000) (c * 1) helps lates) in
    let above = encloses_plus (scaled_ends 4096 trips) (product_ends help late) top refl (m * c * (4096 * (2 ^ 62 * t)))
    (g * (2 ^ 62 * l * s * (q * 1 * 4096000))) den travels waits in
    let first = encloses_times taken (m * c) (2 ^ 62 * v) (g * b) (m * c * (2 ^ 62 * v)) den refl (omega arith) takes in
    let second = encloses_times (scaled_ends c help) (g * c) (c * (2 ^ 62 * l * s)) (m * b) (g * c * (c * (2 ^ 62 * l * s))) den
    refl (omega arith) (encloses_scaled help (scaled_ends c help) c refl (2 ^ 62 * l * s) (m * b) helps) in
    let both = encloses_plus taken (scaled_ends c help) answered refl (m * c * (2 ^ 62 * v)) (g * c * (c * (2 ^ 62 * l * s))) den
    first second in
    let below = encloses_scaled answered (scaled_ends 4096 answered) 4096 refl
    (m * c * (2 ^ 62 * v) + g * c * (c * (2 ^ 62 * l * s))) den both in
    let quotient = encloses_quotient top (scaled_ends 4096 answered) (quotient_ends top (scaled_ends 4096 answered) cap) cap refl
    (m * c * (4096 * (2 ^ 62 * t)) + g * (2 ^ 62 * l * s * (q * 1 * 4096000)))
    (4096 * (m * c * (2 ^ 62 * v) + g * c * (c * (2 ^ 62 * l * s)))) den above below
    (omega (arith, mul-le-mul_left (4096 * 2 ^ 62) fits)) in
    encloses_same (quotient_ends top (scaled_ends 4096 answered) cap) (4096 * 2 ^ 62) (c * m * t + 1000 * g * s * l * q)
    (c * (m * v + g * s * l * c)) (m * c * (4096 * (2 ^ 62 * t)) + g * (2 ^ 62 * l * s * (q * 1 * 4096000)))
    (4096 * (m * c * (2 ^ 62 * v) + g * c * (c * (2 ^ 62 * l * s)))) (omega arith) (omega arith) (omega arith) quotient
