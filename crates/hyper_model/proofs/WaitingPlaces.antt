-- The fleet with waiting places: each state of the queue has its balance with the next one, so that the words
-- are balanced by themselves, and the waiting calls sum as on a line without end.
use Rattle.std.proofs.Common.{◌≡◌, ℕ, zero, suc, ◌+◌, ◌-◌, ◌*◌, ◌^◌, ◌<◌, ◌≤◌, sym, ap, subst, inl, inr, arith}
use Rattle.std.proofs.lemmas.Bool.{cases_eq}
use Rattle.std.proofs.Math.Nat.{pow-zero, pow-suc}
use Rattle.hyper_model.specs.declared.parts.PlanParts.{PlanParts}
use Rattle.hyper_model.specs.Sums.{sum_below}
use Rattle.hyper_model.specs.Plans.{all_calls, all_service, split}
use Rattle.hyper_model.specs.Words.{full_word}
use Rattle.hyper_model.specs.Rates.{IsBalancedWord}
use Rattle.hyper_model.specs.Laws.{SolvesQueue, HasTail, TailLaw, waiting_in}

module _ (p : PlanParts) (room : ℕ) (x q : ℕ → ℕ) (some : 1 ≤ room) (s : SolvesQueue p room x q) where
  -- as many calls come while k wait as leave while k + 1 wait: from the last place back to the first
  cut_from_last : (left k : ℕ) → k + 1 + left ≡ room → all_service p * q (k + 1) ≡ all_calls p * q k
  cut_from_last zero k e = omega (arith, s.last k (omega arith))
  cut_from_last (suc left) k e =
      let next : q (k + 1 + 1) ≡ q (k + 2) = let same : k + 1 + 1 ≡ k + 2 = omega arith in ap q same in
      omega (
        arith,
        s.between k (omega arith),
        cut_from_last left (k + 1) (omega arith),
        ap (λ c. all_service p * c) next,
      )

  pub cut : (k : ℕ) → k < room → all_service p * q (k + 1) ≡ all_calls p * q k
  cut k l = cut_from_last (room - (k + 1)) k (omega arith)

  pub powers : (k : ℕ) → k ≤ room → all_service p ^ k * q k ≡ all_calls p ^ k * q 0
  powers zero l = omega (arith, ap (λ c. c * q 0) (pow-zero (all_service p)), ap (λ c. c * q 0) (pow-zero (all_calls p)))
  powers (suc k) l =
      let next : q (suc k) ≡ q (k + 1) = let same : suc k ≡ k + 1 = omega arith in ap q same in
      omega (
        arith,
        ap (λ c. c * q (suc k)) (pow-suc (all_service p) k),
        ap (λ c. c * q 0) (pow-suc (all_calls p) k),
        ap (λ c. all_service p ^ k * all_service p * c) next,
        ap (λ c. all_service p ^ k * c) (cut k (omega arith)),
        ap (λ c. all_calls p * c) (powers k (omega arith)),
      )

  served : (n : ℕ) → n ≤ room → all_service p * waiting_in n q ≡ all_calls p * sum_below n q
  served zero l = omega arith
  served (suc n) l = omega (arith, served n (omega arith), cut n (omega arith))

  shifted : (n : ℕ) → sum_below n q + q n ≡ q 0 + waiting_in n q
  shifted zero = omega arith
  shifted (suc n) =
      let next : q (suc n) ≡ q (n + 1) = let same : suc n ≡ n + 1 = omega arith in ap q same in
      omega (arith, shifted n, next)

  full_balanced : IsBalancedWord p x (full_word p)
  full_balanced =
      omega (
        arith,
        s.full,
        ap (λ c. split p * c) (cut 0 some),
        ap (λ c. split p * all_calls p * c) s.nobody_waits,
      )

  pub queue_tail : HasTail p room x q
  queue_tail = record {
    balanced = λ w l. elim (cases_eq w (full_word p)) [
      | inl e ↦ subst (IsBalancedWord p x) (sym e) full_balanced
      | inr ne ↦ s.not_full w l ne
    ];
    last = omega (arith, powers room (omega arith), ap (λ c. all_calls p ^ room * c) s.nobody_waits);
    waiting =
        omega (
          arith,
          served room (omega arith),
          ap (λ c. all_calls p * c) (shifted room),
          ap (λ c. all_calls p * c) s.nobody_waits,
        );
  }

pub has_tail : (p : PlanParts) → TailLaw p
has_tail p room x q some s = queue_tail p room x q some s
