use Rattle.std.specs.Prelude.{ℕ, List, Bool, not, ◌&&◌, length, nat_le, nat_eq}
use Rattle.std.specs.List.{list_all}
use Rattle.std.specs.Str.{is_utf8}

-- no control code of ASCII, no comma (44) and no double quote (34)
abbrev pub may_stand : ℕ → Bool
may_stand byte = nat_le 32 byte && not (nat_eq byte 127) && not (nat_eq byte 44) && not (nat_eq byte 34)

-- 1 to 32 bytes
abbrev pub is_short : List ℕ → Bool
is_short bytes = nat_le 1 (length bytes) && nat_le (length bytes) 32

-- the name of a unit, of an atom or of a text
abbrev pub is_name : List ℕ → Bool
is_name bytes = is_short bytes && list_all may_stand bytes && is_utf8 bytes
