-- The ends that each call on an interval answers, and what it is for an interval to contain a number.
-- All numbers are unbounded. `n / 0` is 0, and so is `div_ceil n 0` if n is 0.
use Rattle.std.specs.Prelude.{ℕ, ◌+◌, ◌*◌, ◌/◌, ◌^◌, ◌≤◌, min, nat_eq, if◌then◌else◌}
use Rattle.std.specs.Int.{div_ceil}

-- the two ends of an interval
pub record Ends : Type 0 where
  pub lo : ℕ
  pub hi : ℕ

-- the interval contains the fraction num / den, by cross-multiplication
pub record Encloses (i : Ends) (num den : ℕ) : Type 0 where
  pub low : i.lo * den ≤ num
  pub high : num ≤ i.hi * den

abbrev pub between : ℕ → ℕ → Ends
between lo hi = record { lo = lo; hi = hi }

abbrev pub exact_ends : ℕ → Ends
exact_ends v = between v v

-- the sum, with neither end above the cap
abbrev pub plus_capped_ends : Ends → Ends → ℕ → Ends
plus_capped_ends a b cap = between (min (a.lo + b.lo) cap) (min (a.hi + b.hi) cap)

-- the product with a part, which is counted in units of 1 / 2 ^ 62
abbrev pub times_part_ends : Ends → Ends → Ends
times_part_ends a part = between (a.lo * part.lo / 2 ^ 62) (div_ceil (a.hi * part.hi) (2 ^ 62))

abbrev pub product_ends : Ends → Ends → Ends
product_ends a b = between (a.lo * b.lo) (a.hi * b.hi)

-- a part of 2 ^ 62 in the given unit
abbrev pub outward_ends : ℕ → Ends → Ends
outward_ends unit a = between (unit * a.lo / 2 ^ 62) (div_ceil (unit * a.hi) (2 ^ 62))

abbrev pub plus_ends : Ends → Ends → Ends
plus_ends a b = between (a.lo + b.lo) (a.hi + b.hi)

abbrev pub scaled_ends : ℕ → Ends → Ends
scaled_ends k a = between (k * a.lo) (k * a.hi)

-- the interval times num / den
abbrev pub ratio_ends : Ends → ℕ → ℕ → Ends
ratio_ends a num den = between (a.lo * num / den) (div_ceil (a.hi * num) den)

-- the share of a in a and rest, in the given unit: a * unit / (a + rest)
abbrev pub share_ends : ℕ → Ends → Ends → Ends
share_ends unit a rest = between (unit * a.lo / (a.lo + rest.hi)) (div_ceil (unit * a.hi) (a.hi + rest.lo))

-- the quotient a / d, with neither end above the cap, which is the high end if d may be 0
abbrev pub quotient_ends : Ends → Ends → ℕ → Ends
quotient_ends a d cap =
    between (min (a.lo / d.hi) cap) (if nat_eq d.lo 0 then cap else min (div_ceil a.hi d.lo) cap)

-- the interval divided by 2 ^ power
abbrev pub shifted_ends : ℕ → Ends → Ends
shifted_ends power a = between (a.lo / 2 ^ power) (div_ceil a.hi (2 ^ power))
