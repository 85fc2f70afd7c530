-- All rates of a plan's words in one list: unit by unit, of each word the rate at which the unit changes in it.
use Rattle.std.specs.Prelude.{◌≡◌, ℕ, ◌+◌, ◌*◌, ◌<◌, nat_lt, if◌then◌else◌, List, length, slice_index}
use Rattle.hyper_model.specs.declared.parts.PlanParts.{PlanParts}
use Rattle.hyper_model.specs.Plans.{units, calls_of}
use Rattle.hyper_model.specs.Rates.{down}
use Rattle.hyper_model.specs.Sums.{sum_below}
use Rattle.hyper_model.specs.Tables.{turn_rate}
use Rattle.hyper_model.specs.Words.{words, portion, takes}

-- where unit n stands in a word
abbrev pub turn_place : PlanParts → ℕ → ℕ → ℕ
turn_place p word n = n * words p + word

-- the list has these rates, each at its place
pub record HasRates (p : PlanParts) (rate : ℕ → ℕ → ℕ) (rates : List ℕ) : Type 0 where
  pub one_each : length rates ≡ units p * words p
  pub each : (word n : ℕ) → word < words p → n < units p → slice_index rates (turn_place p word n) ≡ rate word n

-- the rate at which unit n is sent to calls of atom j
abbrev pub atom_rate : PlanParts → ℕ → ℕ → ℕ → ℕ
atom_rate p word n j = if takes p j word n then calls_of p j * portion p j word else 0

-- the rate at which unit n changes in the word, as far as its services and the calls of the first atoms make it
abbrev pub rate_of_first : ℕ → PlanParts → ℕ → ℕ → ℕ
rate_of_first count p word n = down p word n + sum_below count (atom_rate p word n)

-- and with the calls of one atom more at the first places, taken word by word, and unit by unit in each word
abbrev pub rate_in_turn : PlanParts → ℕ → ℕ → ℕ → ℕ → ℕ
rate_in_turn p atom done word n = rate_of_first (if nat_lt (word * units p + n) done then atom + 1 else atom) p word n

-- of each word, the rate out of it
pub record HasLeavings (p : PlanParts) (leavings : List ℕ) : Type 0 where
  pub one_each : length leavings ≡ words p
  pub each : (word : ℕ) → word < words p → slice_index leavings word ≡ sum_below (units p) (turn_rate p word)
