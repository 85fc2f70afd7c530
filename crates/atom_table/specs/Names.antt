-- Names in a row.
use Rattle.std.specs.Prelude.{ℕ, Bool, List, Option, position, unwrap_or}
use Rattle.std.specs.List.{list_any}
use Rattle.std.specs.Str.{bytes_eq}

abbrev pub is_among : List (List ℕ) → List ℕ → Bool
is_among names name = list_any (bytes_eq name) names

-- the place at which a name stands, counted from 0
abbrev pub place_of : List (List ℕ) → List ℕ → Option ℕ
place_of names name = position (bytes_eq name) names

-- the same, and 0 for a name that does not stand there, so that each name has a place
abbrev pub place_or_zero : List (List ℕ) → List ℕ → ℕ
place_or_zero names name = unwrap_or (place_of names name) 0
