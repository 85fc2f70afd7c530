-- What the rows of a text are.
use Rattle.std.specs.Prelude.{ℕ, Bool, if◌then◌else◌, ◌==◌, ◌||◌, List, [], ◌∷◌, length, map, reverse}
use Rattle.csv.specs.Reading.{default_config, is_bom, records}

-- a row's fields, each as its bytes
abbrev pub Fields : Type 0
Fields = List (List ℕ)

-- a list from the first thing on that fails the test
abbrev pub drop_while : {X : Type 0} → (X → Bool) → List X → List X
drop_while test [] = []
drop_while test (x ∷ xs) = if test x then drop_while test xs else x ∷ xs

-- a list up to the last thing that fails the test
abbrev pub drop_last_while : {X : Type 0} → (X → Bool) → List X → List X
drop_last_while test xs = reverse (drop_while test (reverse xs))

-- a space or a tab
abbrev pub is_blank : ℕ → Bool
is_blank byte = (byte == 32) || (byte == 9)

-- a field with no blank at either end
abbrev pub without_blanks : List ℕ → List ℕ
without_blanks field = drop_last_while is_blank (drop_while is_blank field)

abbrev pub is_empty_field : List ℕ → Bool
is_empty_field field = length field == 0

-- what counts of a record: its fields without blanks, up to the last that has a byte
abbrev pub clean_row : Fields → Fields
clean_row fields = drop_last_while is_empty_field (map without_blanks fields)

-- a text after all byte order marks at its start
abbrev pub without_marks : List ℕ → List ℕ
without_marks (a ∷ b ∷ c ∷ rest) = if is_bom a b c then without_marks rest else a ∷ b ∷ c ∷ rest
without_marks rest = rest

-- each record of a text of comma-separated values, as far as it counts, in order
abbrev pub rows_of : List ℕ → List Fields
rows_of bytes = map clean_row (records default_config (without_marks bytes))
