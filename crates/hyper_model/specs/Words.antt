-- Words: the states of the fleet. A word is a number below 2 ^ N; unit n is busy in it if bit n is set.
use Rattle.std.specs.Prelude.{ℕ, ◌-◌, ◌/◌, ◌^◌, ◌==◌, Bool, false, not, ◌&&◌, if◌then◌else◌, List, [], ◌∷◌, Option, bit_xor}
use Rattle.std.specs.List.{find, list_any}
use Rattle.std.specs.Int.{bit_at}
use Rattle.hyper_model.specs.declared.parts.PlanParts.{PlanParts}
use Rattle.hyper_model.specs.Sums.{sum_below}
use Rattle.hyper_model.specs.Groups.{GroupLists, list_of}
use Rattle.hyper_model.specs.Plans.{units, groups_of, split}

abbrev pub words : PlanParts → ℕ
words p = 2 ^ units p

abbrev pub is_busy : ℕ → ℕ → Bool
is_busy word n = bit_at word n == 1

abbrev pub is_free : ℕ → ℕ → Bool
is_free word n = not (is_busy word n)

-- the word in which all units are busy
abbrev pub full_word : PlanParts → ℕ
full_word p = 2 ^ units p - 1

-- the word in which only unit n has changed, from free to busy or from busy to free
abbrev pub turned_word : ℕ → ℕ → ℕ
turned_word word n = bit_xor word (2 ^ n)

-- the first unit of a list that is free
abbrev pub first_free_of : List ℕ → ℕ → Option ℕ
first_free_of list word = find (is_free word) list

-- the unit at the least place of an atom's list that is free, or none if all are busy
abbrev pub first_free : GroupLists → ℕ → ℕ → Option ℕ
first_free lists atom word = first_free_of (list_of lists atom) word

abbrev pub has_free : List ℕ → ℕ → Bool
has_free group word = list_any (is_free word) group

-- unit n is free, and is one of the first group that has a free unit
abbrev pub is_taker : List (List ℕ) → ℕ → ℕ → Bool
is_taker [] word n = false
is_taker (group ∷ groups) word n =
    if has_free group word then list_any (λ m. m == n) group && is_free word n else is_taker groups word n

-- a call of atom j in this word can go to unit n
abbrev pub takes : PlanParts → ℕ → ℕ → ℕ → Bool
takes p j word n = is_taker (groups_of p j) word n

-- to how many units a call of atom j can go
abbrev pub taker_count : PlanParts → ℕ → ℕ → ℕ
taker_count p j word = sum_below (units p) (λ n. if takes p j word n then 1 else 0)

-- the share of such a call that each of them has, of `split p` shares
abbrev pub portion : PlanParts → ℕ → ℕ → ℕ
portion p j word = split p / taker_count p j word
