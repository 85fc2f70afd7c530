-- A fleet of one unit with two waiting places, and a call in the time of two services: each state has half the
-- mass of the one before it.
use Rattle.std.proofs.Common.{◌≡◌, ℕ, zero, suc, ◌+◌, ◌*◌, ◌^◌, ◌<◌, refl, arith}
use Rattle.hyper_model.specs.declared.kinds.Line.TheVariants as line
use Rattle.hyper_model.specs.declared.parts.PlanParts.{PlanParts}
use Rattle.hyper_model.specs.Plans.{all_calls, all_service}
use Rattle.hyper_model.specs.Rates.{IsBalancedWord}
use Rattle.hyper_model.specs.Laws.{SolvesQueue, HasTail, waiting_in}
use Rattle.hyper_model.proofs.Worked.{each_below}
use Rattle.hyper_model.proofs.WorkedOneUnit.{one_unit}
use Rattle.hyper_model.proofs.WaitingPlaces.{has_tail}

abbrev waiting_unit : PlanParts
waiting_unit = one_unit line.Infinite 1 2

-- the unit is free, and it is busy while nobody waits
abbrev word_masses : ℕ → ℕ
word_masses zero = 8
word_masses (suc w) = 4

-- it is busy while this many calls wait
abbrev queue_masses : ℕ → ℕ
queue_masses zero = 4
queue_masses (suc zero) = 2
queue_masses (suc (suc k)) = 1

between_first : (k : ℕ) → k + 1 < 2
    → queue_masses (k + 1) * (all_calls waiting_unit + all_service waiting_unit)
    ≡ all_calls waiting_unit * queue_masses k + all_service waiting_unit * queue_masses (k + 2)
between_first zero below = refl
between_first (suc k) below = absurd (omega arith)

last_second : (k : ℕ) → k + 1 ≡ 2
    → queue_masses (k + 1) * all_service waiting_unit ≡ all_calls waiting_unit * queue_masses k
last_second zero is_last = absurd (omega arith)
last_second (suc zero) is_last = refl
last_second (suc (suc k)) is_last = absurd (omega arith)

solves_queue : SolvesQueue waiting_unit 2 word_masses queue_masses
solves_queue = record {
  nobody_waits = refl;
  not_full = each_below 2 _ ((tt, λ ne. refl), λ ne. absurd (ne refl));
  full = refl;
  between = between_first;
  last = last_second;
}

-- the balance without any place, the last state's mass, and the mass that waits
tail_holds : HasTail waiting_unit 2 word_masses queue_masses
tail_holds = has_tail waiting_unit 2 word_masses queue_masses (omega arith) solves_queue

free_word : IsBalancedWord waiting_unit word_masses 0
free_word = refl

last_place : 2 ^ 2 * queue_masses 2 ≡ 1 ^ 2 * word_masses 1
last_place = refl

some_wait : waiting_in 2 queue_masses ≡ 3
some_wait = refl
