-- Masses that balance with waiting places: those of the words are not all 0, and the calls that wait are bounded by the places
-- and by the calls that are not lost.
use Rattle.std.proofs.Common.{◌≡◌, ℕ, zero, suc, ◌+◌, ◌-◌, ◌*◌, ◌<◌, ◌≤◌, List, refl, sym, ap, subst, inl, inr, arith}
use Rattle.std.proofs.lemmas.Bool.{cases_lt}
use Rattle.std.proofs.Math.Nat.{mul-le-mul_left, mul-le-mul_right, mul-pos}
use Rattle.hyper_model.specs.declared.kinds.Line.TheVariants as line
use Rattle.hyper_model.specs.declared.parts.PlanParts.{PlanParts}
use Rattle.hyper_model.specs.Sums.{sum_below}
use Rattle.hyper_model.specs.Plans.{all_calls, all_service, IsAccepted}
use Rattle.hyper_model.specs.Words.{words, full_word}
use Rattle.hyper_model.specs.Solutions.{mass_in, IsSolution, IsTail}
use Rattle.hyper_model.specs.Laws.{HasTail, waiting_in}
use Rattle.hyper_model.proofs.PlanLaws.{full_below}
use Rattle.hyper_model.proofs.PlanSums.{service_positive}
use Rattle.hyper_model.proofs.Sums.{place_le_sum, same_factor, sum-le, sum-scaled, sum_none}
use Rattle.hyper_model.proofs.WaitingPlaces.{cut, has_tail}
use Rattle.busy_words.proofs.Levels.{sum-front}
use Rattle.finite_line.specs.FiniteMeasures.{finite_ratio, queued_calls, HavePositiveFiniteDenominators}
use Rattle.finite_line.specs.FiniteSolutions.{IsFiniteSolution, queue_mass, whole_mass}
use Rattle.finite_line.specs.declared.kinds.FiniteMeasure.{FiniteMeasure}
use Rattle.finite_line.specs.declared.kinds.FiniteMeasure.TheVariants as measure

-- the number of waiting calls at a state is at most that of the places, and no call waits in the first
pub queued_most : (room : ℕ) (q : ℕ → ℕ) → queued_calls room q ≤ room * waiting_in room q
queued_most room q =
    omega (
      arith,
      ap (λ n. sum_below n (λ k. k * q k)) (let next : room + 1 ≡ suc room = omega arith in next),
      sum-front room (λ k. k * q k),
      sum-le room (λ k. suc k * q (suc k)) (λ k. room * q (k + 1)) (λ k l. one_state room k l),
      sum-scaled room room (λ k. q (k + 1)),
    )
  where
    one_state : (room k : ℕ) → k < room → suc k * q (suc k) ≤ room * q (k + 1)
    one_state room k l =
        let next : q (suc k) ≡ q (k + 1) = let same : suc k ≡ k + 1 = omega arith in ap q same in
        let le : suc k ≤ room = omega arith in
        omega (arith, mul-le-mul_right (q (suc k)) le, ap (λ c. room * c) next)

module _ (p : PlanParts) (a : IsAccepted p) (room : ℕ) (some : 1 ≤ room) (xs qs : List ℕ) (s : IsFiniteSolution p room xs qs) where
  abbrev x : ℕ → ℕ
  x = mass_in xs

  abbrev q : ℕ → ℕ
  q = queue_mass p xs qs

  served : 0 < all_service p
  served = service_positive p a.units

  -- each state of one more waiting call
  pub next_state : (k : ℕ) → k < room → all_service p * q (suc k) ≡ all_calls p * q k
  next_state k l =
      let next : q (suc k) ≡ q (k + 1) = let same : suc k ≡ k + 1 = omega arith in ap q same in
      omega (arith, cut p room x q some s.balanced k l, ap (λ c. all_service p * c) next)

  tail : HasTail p room x q
  tail = has_tail p room x q some s.balanced

  -- if no word has a mass, no state has
  none_waits : sum_below (words p) x ≡ 0 → (k : ℕ) → k ≤ room → q k ≡ 0
  none_waits none zero l = omega (arith, place_le_sum (words p) x (full_word p) (full_below p))
  none_waits none (suc k) l =
      same_factor (all_service p) (q (suc k)) 0 served
      (omega (arith, next_state k (omega arith), ap (λ c. all_calls p * c) (none_waits none k (omega arith))))

  pub words_positive : 0 < sum_below (words p) x
  words_positive = elim (cases_lt 0 (sum_below (words p) x)) [
    | inl l ↦ l
    | inr none ↦ absurd (omega (
      arith,
      s.positive,
      sum_none room (λ k. q (k + 1)) (λ k l. none_waits (omega arith) (k + 1) (omega arith)),
    ))
  ]

  -- with the line that turns calls away, the words' masses solve the plan
  pub solves_plan : p.line ≡ line.Zero → IsSolution p xs 0
  solves_plan zero_line = record {
    words = record { one_each = s.one_each; positive = words_positive; balanced = tail.balanced };
    tail = subst (λ l. IsTail l p xs 0) (sym zero_line) refl;
  }

  -- the state of all places taken is one of those in which calls wait
  last_waits : q room ≤ waiting_in room q
  last_waits =
      let last : room - 1 + 1 ≡ room = omega arith in
      omega (arith, place_le_sum room (λ k. q (k + 1)) (room - 1) (omega arith), ap q last)

  -- the mass of the states in which a call that comes is not lost
  pub answered_positive : 0 < whole_mass p room x q - q room
  answered_positive = omega (arith, words_positive, last_waits)

  -- as many calls leave the queue as come to it
  pub waiting_most : all_service p * waiting_in room q ≤ all_calls p * (whole_mass p room x q - q room)
  waiting_most =
      let rest : x (full_word p) + waiting_in room q - q room ≤ whole_mass p room x q - q room =
      omega (arith, place_le_sum (words p) x (full_word p) (full_below p)) in
      let parts : x (full_word p) + waiting_in room q - q room + q room ≡ x (full_word p) + waiting_in room q =
      omega (arith, last_waits) in
      omega (arith, tail.waiting, ap (λ c. all_calls p * c) parts, mul-le-mul_left (all_calls p) rest)

  pub denominator_positive : (m : FiniteMeasure) → 0 < (finite_ratio p room x q m).denominator
  denominator_positive measure.Lost = s.positive
  denominator_positive measure.Delayed = s.positive
  denominator_positive measure.Busy = s.positive
  denominator_positive measure.Queue = s.positive
  denominator_positive measure.Wait = mul-pos (let come : 0 < all_calls p = omega (arith, a.atoms.calls.low) in come) answered_positive
  denominator_positive (measure.Workload n) = s.positive

pub denominators_positive : (p : PlanParts) → IsAccepted p → (room : ℕ) → 1 ≤ room → HavePositiveFiniteDenominators p room
denominators_positive p a room some xs qs s m = denominator_positive p a room some xs qs s m
