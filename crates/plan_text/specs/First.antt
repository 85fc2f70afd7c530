-- Which row a refusal is for.
use Rattle.std.specs.Prelude.{◌≡◌, ℕ, ◌<◌, List, [], length, take, slice_index_or, Err, IsOk}
use Rattle.plan_text.specs.Reading.{row_reading}
use Rattle.plan_text.specs.Rows.{Fields}
use Rattle.plan_text.specs.declared.kind.AddedKind.{AddedKind}
use Rattle.plan_text.specs.declared.refusal.TextRefusal.{TextRefusal}

-- the row at this place is refused so, and none before it is refused, each judged after the rows before it
pub record IsFirstRefused (more : AddedKind) (rows : List Fields) (place : ℕ) (e : TextRefusal) : Type 0 where
  pub within : place < length rows
  pub refused : row_reading more (take place rows) (slice_index_or rows place []) ≡ Err e
  pub earlier : (k : ℕ) → k < place → IsOk (row_reading more (take k rows) (slice_index_or rows k []))
