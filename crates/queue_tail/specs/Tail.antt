-- A further weight that is a multiple of the last one, and the tail, which is one: the weight of all states in which a
-- call waits.
use Rattle.std.specs.Prelude.{◌≡◌, ℕ, ◌-◌, ◌*◌, List, length}
use Rattle.fixed_interval.specs.Ends.{Ends, ratio_ends}
use Rattle.fixed_interval.specs.WeightList.{PushesShifted, ends_at}
use Rattle.hyper_model.specs.Solutions.{mass_in}

-- num / den times the last weight goes after the others, with the same shift for all
abbrev pub GainsMultiple : ℕ → ℕ → List Ends → List Ends → Type 0
GainsMultiple num den old new = PushesShifted old new (ratio_ends (ends_at old (length old - 1)) num den)

-- z is num / den times the last of the masses
abbrev pub IsMultipleOf : ℕ → ℕ → List ℕ → ℕ → Type 0
IsMultipleOf num den masses z = den * z ≡ num * mass_in masses (length masses - 1)

-- calls wait with calls / (service - calls) times the mass of the word in which all units are busy
abbrev pub tail_weight : ℕ → ℕ → Ends → Ends
tail_weight calls service full = ratio_ends full calls (service - calls)

-- the tail's weight goes after that of this word, which is the last, with the same shift for all
abbrev pub GainsTail : ℕ → ℕ → List Ends → List Ends → Type 0
GainsTail calls service old new = PushesShifted old new (tail_weight calls service (ends_at old (length old - 1)))

-- z is the mass of all states in which a call waits, if the last of the masses is that of the word in which
-- all units are busy
abbrev pub IsTailOf : ℕ → ℕ → List ℕ → ℕ → Type 0
IsTailOf calls service masses z = (service - calls) * z ≡ calls * mass_in masses (length masses - 1)
