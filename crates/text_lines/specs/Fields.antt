-- Fields after commas, and a row of two fields.
use Rattle.std.specs.Prelude.{ℕ, List, ◌++◌, codes, decimal}

-- a comma and a text
abbrev pub text_field : List ℕ → List ℕ
text_field text = codes "," ++ text

-- a comma and a number
abbrev pub number_field : ℕ → List ℕ
number_field n = codes "," ++ decimal n

-- a row of a word and a number
abbrev pub count_row : List ℕ → ℕ → List ℕ
count_row word n = word ++ number_field n ++ codes "\n"
