-- The limits that an argument says: one number of seconds or several with commas between.
use Rattle.std.specs.Prelude.{ℕ, ◌+◌, ◌==◌, ◌&&◌, nat_le, if◌then◌else◌, List, [], ◌∷◌, Option, Some, None, length}
use Rattle.std.specs.List.{slice_split}
use Rattle.std.specs.Option.{option_and_then, option_map}
use Rattle.hyper_model.specs.declared.TheConstants.{MOST_TRAVEL}
use Rattle.text_lines.specs.Numbers.{number_in}
use Rattle.hyper_model.specs.declared.TheConstants.{MOST_LIMITS}

-- a limit that is at least so great: at most six digits, and at most 100,000 seconds
abbrev pub limit_in : ℕ → List ℕ → Option ℕ
limit_in least text =
    option_and_then (λ n. if nat_le least n && nat_le n MOST_TRAVEL then Some n else None) (number_in 6 text)

-- the limits that fields say: the first is at least so great, and each other one greater than the one before
abbrev pub limits_from : ℕ → List (List ℕ) → Option (List ℕ)
limits_from least [] = Some []
limits_from least (field ∷ fields) =
    option_and_then (λ n. option_map (λ others. n ∷ others) (limits_from (n + 1) fields)) (limit_in least field)

-- at most 16 of them
abbrev pub limits_in_fields : List (List ℕ) → Option (List ℕ)
limits_in_fields fields = if nat_le (length fields) MOST_LIMITS then limits_from 0 fields else None

unfoldable pub limits_in : List ℕ → Option (List ℕ)
limits_in text = limits_in_fields (slice_split (λ byte. byte == 44) text)
