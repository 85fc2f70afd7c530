-- Calls of which some need two units, on the zero line. Of a hundred calls of each atom `percent` need two: the first
-- free unit of the atom's list goes, and then the first free one of the others, if there is one. The other calls take
-- the first free unit. Each unit serves by itself. All rates are 100 times the rates per period.
use Rattle.std.specs.Prelude.{ℕ, ◌+◌, ◌-◌, ◌*◌, ◌==◌, ◌&&◌, if◌then◌else◌, List, Option, Some, None, map}
use Rattle.hyper_model.specs.declared.parts.PlanParts.{PlanParts}
use Rattle.hyper_model.specs.Sums.{sum_below}
use Rattle.hyper_model.specs.Plans.{units, atoms, calls_of, service_of, all_calls, all_service}
use Rattle.hyper_model.specs.Words.{words, is_busy, turned_word, first_free}
use Rattle.hyper_model.specs.Tables.{RateTable, HasTableSolution, IsTableSolution, relabelled}
use Rattle.busy_words.specs.Order.{WordOrder, word_at}

-- the word in which this unit is sent, and the same word if there is none
abbrev pub with_sent : Option ℕ → ℕ → ℕ
with_sent None word = word
with_sent (Some n) word = turned_word word n

-- the word after a call of atom j that needs one unit: the first free unit of the list is sent, if one is free
abbrev pub after_one : PlanParts → ℕ → ℕ → ℕ
after_one p j word = with_sent (first_free p.lists j word) word

-- and after one that needs two: then the first free unit of the others is sent as well, if one is free
abbrev pub after_two : PlanParts → ℕ → ℕ → ℕ
after_two p j word = after_one p j (after_one p j word)

-- of a hundred calls of atom j that come in the word v, how many lead to the word w
abbrev pub calls_leading : PlanParts → ℕ → ℕ → ℕ → ℕ → ℕ
calls_leading p percent j v w =
    (if w == after_one p j v then 100 - percent else 0) + (if w == after_two p j v then percent else 0)

-- the rate at which calls lead from v to w
abbrev pub sending_rate : PlanParts → ℕ → ℕ → ℕ → ℕ
sending_rate p percent v w = sum_below (atoms p) (λ j. calls_of p j * calls_leading p percent j v w)

-- the rate at which a unit that is busy in v ends its service, if w is v without it
abbrev pub ending_rate : PlanParts → ℕ → ℕ → ℕ
ending_rate p v w =
    sum_below (units p) (λ n. if is_busy v n && (w == turned_word v n) then 100 * service_of p n else 0)

-- The rates between words. That from a word to itself, of calls that are lost, stands on both sides of a balance.
abbrev pub pair_table : PlanParts → ℕ → RateTable
pair_table p percent v w = sending_rate p percent v w + ending_rate p v w

-- masses of the words, not all 0, that balance at every word
abbrev pub IsPairSolution : PlanParts → ℕ → List ℕ → Type 0
IsPairSolution p percent xs = IsTableSolution (words p) (pair_table p percent) xs

abbrev pub HasPairSolution : PlanParts → ℕ → Type 0
HasPairSolution p percent = HasTableSolution (words p) (pair_table p percent)

-- the rates between words, by rank
abbrev pub pair_rates : PlanParts → ℕ → WordOrder → RateTable
pair_rates p percent order = relabelled (word_at order) (pair_table p percent)

-- no word is left faster than at the rate of all calls and all services
abbrev pub pair_top : PlanParts → ℕ
pair_top p = 100 * (all_calls p + all_service p)
