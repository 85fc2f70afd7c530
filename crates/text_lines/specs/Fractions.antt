-- Decimal fractions: the whole part of a number, a point, and as many digits as its scale has zeros.
use Rattle.std.specs.Prelude.{◌≡◌, ℕ, zero, suc, ◌+◌, ◌/◌, ◌%◌, ◌^◌, ◌==◌, ◌⊎◌, if◌then◌else◌, List, [], ◌∷◌, ◌++◌, codes, decimal}

-- numbers count thousandths or millionths
abbrev pub IsScale : ℕ → Type 0
IsScale scale = (scale ≡ 1000) ⊎ (scale ≡ 1000000)

-- how many digits stand after the point
abbrev pub places : ℕ → ℕ
places scale = if scale == 1000 then 3 else 6

-- the last k decimal digits of a number, in ASCII
abbrev pub last_digits : ℕ → ℕ → List ℕ
last_digits zero value = []
last_digits (suc k) value = (48 + value / 10 ^ k % 10) ∷ last_digits k value

abbrev pub number_bytes : ℕ → ℕ → List ℕ
number_bytes value scale = decimal (value / scale) ++ codes "." ++ last_digits (places scale) value

-- a low and a high end
abbrev pub ends_bytes : ℕ → ℕ → ℕ → List ℕ
ends_bytes lo hi scale = number_bytes lo scale ++ codes "," ++ number_bytes hi scale
