-- Faults that a shelf has counted, and the error of a result.
use Rattle.std.proofs.Common.{◌≡◌, ℕ, ◌≤◌, arith}
use Rattle.std.specs.Prelude.{Option, Some, None, Result, Err}
use Rattle.outer_world.specs.Faults.{Rose}

-- a count that rose since later rose since before
pub rose_before : (last : Option ℕ) (before later now : ℕ) → before ≤ later → Rose last later now → Rose last before now
rose_before None before later now le rose = omega arith
rose_before (Some most) before later now le rose = omega arith

pub same_error : {T E : Type 0} (result : Result T E) (e f : E) → result ≡ Err e → result ≡ Err f → e ≡ f
same_error result e f is also = cc
