use Rattle.std.specs.Prelude.{ℕ, ◌+◌, ◌<◌, ◌≤◌, ◌^◌, ◌-◌, min, List, Bool, ◌&&◌, Option, None, Some, nat_lt, nat_eq}
use Rattle.std.specs.List.{list_any}

-- a count of faults is greater than it was, or stands at the last value that it can have
abbrev pub Rose : Option ℕ → ℕ → ℕ → Type 0
Rose None before now = before < now
Rose (Some last) before now = min (before + 1) last ≤ now

-- the call after so many calls is one of those that are to fail: calls are numbered from 1, and
-- none after number 2^64 - 1 fails
abbrev pub is_planned : List ℕ → ℕ → Bool
is_planned fails calls = nat_lt calls (2 ^ 64 - 1) && list_any (λ x. nat_eq x (calls + 1)) fails
