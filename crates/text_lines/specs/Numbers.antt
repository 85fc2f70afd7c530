-- Whole numbers in decimal digits.
use Rattle.std.specs.Prelude.{ℕ, Bool, ◌&&◌, if◌then◌else◌, nat_le, List, length, Option, Some, None}
use Rattle.std.specs.Char.{is_ascii_digit}
use Rattle.std.specs.List.{list_all}
use Rattle.std.specs.Str.Parse.{digits_value}

-- one digit or more, at most so many
abbrev pub is_number : ℕ → List ℕ → Bool
is_number most_digits text = nat_le 1 (length text) && nat_le (length text) most_digits && list_all is_ascii_digit text

-- the number that the text is, if it is one
abbrev pub number_in : ℕ → List ℕ → Option ℕ
number_in most_digits text = if is_number most_digits text then Some (digits_value 10 text) else None
