-- The laws of the model. They hold of every accepted plan, whatever its number of units. That a solution exists is
-- `HasSolution`.
use Rattle.std.specs.Prelude.{◌≡◌, ◌≢◌, ℕ, ◌+◌, ◌*◌, ◌^◌, ◌<◌, ◌≤◌, ◌==◌, if◌then◌else◌, false, List}
use Rattle.hyper_model.specs.declared.kinds.Line.TheVariants as line
use Rattle.hyper_model.specs.declared.kinds.Measure.{Measure}
use Rattle.hyper_model.specs.declared.parts.PlanParts.{PlanParts}
use Rattle.hyper_model.specs.Sums.{sum_below}
use Rattle.hyper_model.specs.Plans.{units, service_of, all_calls, all_service, split, IsAcceptedUpTo}
use Rattle.hyper_model.specs.Words.{words, is_busy, full_word}
use Rattle.hyper_model.specs.Rates.{leaving_rate, coming_flow, IsBalancedWord}
use Rattle.hyper_model.specs.Solutions.{mass_in, IsSolution}
use Rattle.hyper_model.specs.Measures.{Ratio, measure_of, is_without, IsInRange}

-- a law holds of each plan within the limits, however many units it has
abbrev pub HoldsForAnyUnits : (PlanParts → Type 0) → Type 0
HoldsForAnyUnits law = (most : ℕ) (p : PlanParts) → IsAcceptedUpTo most p → law p

-- in every solution each word has a mass
abbrev pub AreWordsPositive : PlanParts → Type 0
AreWordsPositive p =
    (xs : List ℕ) (z : ℕ) → IsSolution p xs z → (w : ℕ) → w < words p → 1 ≤ mass_in xs w

-- and so have the waiting calls, if calls wait
abbrev pub IsTailPositive : PlanParts → Type 0
IsTailPositive p = (xs : List ℕ) (z : ℕ) → IsSolution p xs z → p.line ≡ line.Infinite → 1 ≤ z

-- and each measure that has a value is a ratio over what is not 0
abbrev pub HavePositiveDenominators : PlanParts → Type 0
HavePositiveDenominators p =
    (xs : List ℕ) (z : ℕ) → IsSolution p xs z
    → (m : Measure) → IsInRange p m → is_without p m ≡ false → 0 < (measure_of p (mass_in xs) z m).denominator

-- any two solutions are proportional
abbrev pub AreWordsProportional : PlanParts → Type 0
AreWordsProportional p =
    (xs ys : List ℕ) (z t : ℕ) → IsSolution p xs z → IsSolution p ys t
    → (v w : ℕ) → v < words p → w < words p → mass_in xs v * mass_in ys w ≡ mass_in xs w * mass_in ys v

-- by the same factor at the waiting calls
abbrev pub IsTailProportional : PlanParts → Type 0
IsTailProportional p =
    (xs ys : List ℕ) (z t : ℕ) → IsSolution p xs z → IsSolution p ys t
    → (v : ℕ) → v < words p → mass_in xs v * t ≡ z * mass_in ys v

-- equal ratios, by cross-multiplication
abbrev pub IsSameRatio : Ratio → Ratio → Type 0
IsSameRatio r s = r.numerator * s.denominator ≡ s.numerator * r.denominator

-- and so each measure has one value, whichever solution it is taken from
abbrev pub HaveOneValue : PlanParts → Type 0
HaveOneValue p =
    (xs ys : List ℕ) (z t : ℕ) → IsSolution p xs z → IsSolution p ys t
    → (m : Measure) → IsSameRatio (measure_of p (mass_in xs) z m) (measure_of p (mass_in ys) t m)

-- The fleet with places for `room` waiting calls: x(w) is the mass of the word w, and q(k) that of the state in
-- which all units are busy and k calls wait. Each state has its balance.
pub record SolvesQueue (p : PlanParts) (room : ℕ) (x q : ℕ → ℕ) : Type 0 where
  pub nobody_waits : q 0 ≡ x (full_word p)
  pub not_full : (w : ℕ) → w < words p → w ≢ full_word p → IsBalancedWord p x w
  pub full :
      x (full_word p) * leaving_rate p (full_word p) + split p * all_calls p * x (full_word p)
      ≡ coming_flow p x (full_word p) + split p * all_service p * q 1
  pub between : (k : ℕ) → k + 1 < room
      → q (k + 1) * (all_calls p + all_service p) ≡ all_calls p * q k + all_service p * q (k + 2)
  pub last : (k : ℕ) → k + 1 ≡ room → q (k + 1) * all_service p ≡ all_calls p * q k

-- the mass of the states in which a call waits
abbrev pub waiting_in : ℕ → (ℕ → ℕ) → ℕ
waiting_in room q = sum_below room (λ k. q (k + 1))

-- the words have the balance that they have if nobody can wait, and the waiting calls that of the line
-- without end, but for the calls that find no place
pub record HasTail (p : PlanParts) (room : ℕ) (x q : ℕ → ℕ) : Type 0 where
  pub balanced : (w : ℕ) → w < words p → IsBalancedWord p x w
  pub last : all_service p ^ room * q room ≡ all_calls p ^ room * x (full_word p)
  pub waiting : all_service p * waiting_in room q + all_calls p * q room
      ≡ all_calls p * (x (full_word p) + waiting_in room q)

-- with at least one waiting place, every solution has the tail of the line without end
abbrev pub TailLaw : PlanParts → Type 0
TailLaw p = (room : ℕ) (x q : ℕ → ℕ) → 1 ≤ room → SolvesQueue p room x q → HasTail p room x q

-- how many of the first n units are busy
abbrev pub level : ℕ → ℕ → ℕ
level n word = sum_below n (λ k. if is_busy word k then 1 else 0)

-- the mass of the words with k busy units
abbrev pub level_mass : PlanParts → (ℕ → ℕ) → ℕ → ℕ
level_mass p x k = sum_below (words p) (λ w. if level (units p) w == k then x w else 0)

-- if all units serve at one rate, the numbers of busy units are those of Erlang's model
abbrev pub LevelsLaw : PlanParts → Type 0
LevelsLaw p =
    (rate : ℕ) → ((n : ℕ) → n < units p → service_of p n ≡ rate)
    → (xs : List ℕ) (z : ℕ) → IsSolution p xs z
    → (k : ℕ) → k < units p
    → (k + 1) * rate * level_mass p (mass_in xs) (k + 1) ≡ all_calls p * level_mass p (mass_in xs) k
