-- What flows contain, over plain numbers: flows count in 2 ^ 62, which falls out of each share and quotient.
use Rattle.std.proofs.Common.{◌≡◌, ℕ, ◌+◌, ◌*◌, ◌^◌, ◌≤◌, refl, subst, arith}
use Rattle.fixed_interval.specs.Ends.{Ends, Encloses, exact_ends, plus_ends, scaled_ends, share_ends, quotient_ends}
use Rattle.fixed_interval.proofs.Rounding.{encloses_same, encloses_times, encloses_exact, encloses_plus, encloses_scaled, encloses_share, encloses_quotient}

-- c calls, of which t of g * b are taken at once, and s of m of the l of b that wait
pub flow_is : (taken help : Ends) (c m g t s l b : ℕ) → Encloses taken (2 ^ 62 * t) (g * b)
    → Encloses help (2 ^ 62 * l * s) (m * b)
    → Encloses (scaled_ends c (plus_ends taken help)) (2 ^ 62 * (c * (m * t + g * s * l))) (m * g * b)
flow_is taken help c m g t s l b at_once waited =
    let first = encloses_times taken m (2 ^ 62 * t) (g * b) (m * (2 ^ 62 * t)) (m * g * b) refl (omega arith) at_once in
    let second = encloses_times help g (2 ^ 62 * l * s) (m * b) (g * (2 ^ 62 * l * s)) (m * g * b) refl (omega arith) waited in
    let both = encloses_plus taken help (plus_ends taken help) refl _ _ (m * g * b) first second in
    subst (λ k. Encloses (scaled_ends c (plus_ends taken help)) k (m * g * b))
    (let same : c * (m * (2 ^ 62 * t) + g * (2 ^ 62 * l * s)) ≡ 2 ^ 62 * (c * (m * t + g * s * l)) = omega arith in same)
    (encloses_scaled (plus_ends taken help) (scaled_ends c (plus_ends taken help)) c refl _ (m * g * b) both)

-- a flow v among c calls that are all of d each
pub fraction_is : (flow : Ends) (c v d : ℕ) → v ≤ c * d → Encloses flow (2 ^ 62 * v) d
    → Encloses (quotient_ends (scaled_ends 1000000 flow) (exact_ends (c * 2 ^ 62)) 1000000) (1000000 * v) (c * d)
fraction_is flow c v d part h =
    let ends : Ends = quotient_ends (scaled_ends 1000000 flow) (exact_ends (c * 2 ^ 62)) 1000000 in
    let top = encloses_scaled flow (scaled_ends 1000000 flow) 1000000 refl (2 ^ 62 * v) d h in
    let whole = encloses_exact (c * 2 ^ 62) (exact_ends (c * 2 ^ 62)) refl d in
    let quotient = encloses_quotient (scaled_ends 1000000 flow) (exact_ends (c * 2 ^ 62)) ends 1000000 refl
    (1000000 * (2 ^ 62 * v)) (c * 2 ^ 62 * d) d top whole (omega arith) in
    encloses_same ends (2 ^ 62) (1000000 * v) (c * d) (1000000 * (2 ^ 62 * v)) (c * 2 ^ 62 * d) (omega arith)
    (omega arith) (omega arith) quotient

-- the share of a flow x in two, x and y
pub share_is : (flow rest : Ends) (unit x y d : ℕ) → Encloses flow (2 ^ 62 * x) d → Encloses rest (2 ^ 62 * y) d
    → Encloses (share_ends unit flow rest) (unit * x) (x + y)
share_is flow rest unit x y d h other =
    encloses_same (share_ends unit flow rest) (2 ^ 62) (unit * x) (x + y) (unit * (2 ^ 62 * x)) (2 ^ 62 * x + 2 ^ 62 * y)
    (omega arith) (omega arith) (omega arith)
    (encloses_share flow rest (share_ends unit flow rest) unit refl (2 ^ 62 * x) (2 ^ 62 * y) d h other)
