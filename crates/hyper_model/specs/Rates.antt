-- Rates of change between words, and the balance of a word (Larson 1974). All rates are `split p` times the
-- rates per period, so that a group's equal choice keeps them whole.
use Rattle.std.specs.Prelude.{◌≡◌, ℕ, ◌+◌, ◌*◌, ◌==◌, if◌then◌else◌}
use Rattle.hyper_model.specs.declared.parts.PlanParts.{PlanParts}
use Rattle.hyper_model.specs.Sums.{sum_below}
use Rattle.hyper_model.specs.Plans.{units, atoms, service_of, calls_of, all_calls, split}
use Rattle.hyper_model.specs.Words.{is_busy, full_word, turned_word, takes, portion}

-- the rate at which unit n, free in the word, is sent to a call
abbrev pub up : PlanParts → ℕ → ℕ → ℕ
up p word n = sum_below (atoms p) (λ j. if takes p j word n then calls_of p j * portion p j word else 0)

-- the rate at which unit n, busy in the word, ends its service
abbrev pub down : PlanParts → ℕ → ℕ → ℕ
down p word n = if is_busy word n then split p * service_of p n else 0

-- the rate out of the word: a call comes, unless all units are busy, or a busy unit ends its service
abbrev pub leaving_rate : PlanParts → ℕ → ℕ
leaving_rate p word = (if word == full_word p then 0 else split p * all_calls p) + sum_below (units p) (down p word)

-- the flow into the word, where x(v) is the mass of the word v: a unit that is busy in it was sent, or a
-- unit that is free in it ended its service
abbrev pub coming_flow : PlanParts → (ℕ → ℕ) → ℕ → ℕ
coming_flow p x word =
    sum_below (units p) (λ n. if is_busy word n then x (turned_word word n) * up p (turned_word word n) n else 0)
    + sum_below (units p) (λ n. if is_busy word n then 0 else x (turned_word word n) * (split p * service_of p n))

abbrev pub IsBalancedWord : PlanParts → (ℕ → ℕ) → ℕ → Type 0
IsBalancedWord p x word = x word * leaving_rate p word ≡ coming_flow p x word
