use Rattle.std.specs.Prelude.{ℕ, ◌≡◌, ◌<◌, ◌≤◌, List, [], ◌++◌, length, take, Option, None, Some}
use Rattle.std.specs.Global.{Vec}
use Rattle.std.specs.Io.KnownBytes.{Appends, Keeps}
use Rattle.outer_world.specs.declared.sink.Writing.{Writing}
use Rattle.outer_world.specs.declared.sink.Writing.TheVariants as writing

-- what an answer to `write` says of the bytes that were taken before and after the call
abbrev pub Takes : Option (List ℕ) → Option (List ℕ) → List ℕ → Writing → Type 0
Takes before after piece (writing.Took n) =
    (0 < n) × (n ≤ length piece) × Appends before after (take n piece)
Takes before after piece writing.Failed = Keeps before after
Takes before after piece writing.NoMemory = Keeps before after

-- the bytes that were taken grew by the front of this text
abbrev pub AppendsFront : Option (List ℕ) → Option (List ℕ) → List ℕ → Type 0
AppendsFront before after text =
    (front back : List ℕ) × (text ≡ front ++ back) × Appends before after front

-- what a sink in memory has taken: no list before its first write
abbrev pub kept_bytes : Option (Vec ℕ) → List ℕ
kept_bytes None = []
kept_bytes (Some bytes) = bytes.items
