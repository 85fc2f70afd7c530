-- The rates between words as one table: its balance is that of the words.
use Rattle.std.proofs.Common.{◌≡◌, ◌≢◌, ℕ, ◌+◌, ◌*◌, ◌<◌, ◌≤◌, ◌↔◌, Bool, true, false, not, cond, eqb, refl, sym, ap, ◌∙◌, inl, inr, eq-eqb, arith}
use Rattle.std.proofs.lemmas.Bool.{cases_eq, ne_eqb}
use Rattle.std.proofs.Math.Nat.{mul-pos}
use Rattle.hyper_model.specs.declared.parts.PlanParts.{PlanParts}
use Rattle.hyper_model.specs.Sums.{sum_below}
use Rattle.hyper_model.specs.Plans.{units, service_of, all_calls, split, IsAcceptedUpTo}
use Rattle.hyper_model.specs.Words.{words, is_busy, full_word, turned_word}
use Rattle.hyper_model.specs.Rates.{up, down, leaving_rate, coming_flow, IsBalancedWord}
use Rattle.hyper_model.specs.Tables.{IsBalancedState, Descends, turn_rate, word_table}
use Rattle.hyper_model.proofs.Sums.{on_test, same_test, cond_scaled, sum-same, sum-add, sum-scaled, sum-swap, sum-at, sum_none, place_le_sum}
use Rattle.hyper_model.proofs.Bits.{turned_twice, turned_lt, turned_down, busy_turned, full_busy, free_exists, busy_exists}
use Rattle.hyper_model.proofs.Takers.{up_busy, up_all, split_positive}

pub rate_busy : (p : PlanParts) (w n : ℕ) → is_busy w n ≡ true → turn_rate p w n ≡ split p * service_of p n
rate_busy p w n b = ap (λ c. cond c (split p * service_of p n) (up p w n)) b

pub rate_free : (p : PlanParts) (w n : ℕ) → is_busy w n ≡ false → turn_rate p w n ≡ up p w n
rate_free p w n b = ap (λ c. cond c (split p * service_of p n) (up p w n)) b

-- a unit changes by ending its service or by being sent
pub rate_parts : (p : PlanParts) (w n : ℕ) → turn_rate p w n ≡ up p w n + down p w n
rate_parts p w n = on_test (is_busy w n)
    (λ b. omega (arith, rate_busy p w n b, up_busy p w n b, ap (λ c. cond c (split p * service_of p n) 0) b))
    (λ b. omega (arith, rate_free p w n b, ap (λ c. cond c (split p * service_of p n) 0) b))

-- the rates out of a word
pub row_is : (p : PlanParts) (v : ℕ) → v < words p
    → sum_below (words p) (word_table p v) ≡ sum_below (units p) (turn_rate p v)
row_is p v l =
    sum-swap (words p) (units p) (λ w n. cond (eqb w (turned_word v n)) (turn_rate p v n) 0)
    ∙ sum-same (units p) (λ n. sum_below (words p) (λ w. cond (eqb w (turned_word v n)) (turn_rate p v n) 0))
    (turn_rate p v)
    (λ n k. sum-at (words p) (λ w. turn_rate p v n) (turned_word v n) (turned_lt (units p) v n l k))

-- the flow into a word
pub column_is : (p : PlanParts) (x : ℕ → ℕ) (w : ℕ) → w < words p
    → sum_below (words p) (λ v. x v * word_table p v w)
    ≡ sum_below (units p) (λ n. x (turned_word w n) * turn_rate p (turned_word w n) n)
column_is p x w l =
    sum-same (words p) (λ v. x v * word_table p v w)
    (λ v. sum_below (units p) (λ n. cond (eqb v (turned_word w n)) (x v * turn_rate p v n) 0))
    (λ v k. sym (sum-scaled (units p) (x v) (λ n. cond (eqb w (turned_word v n)) (turn_rate p v n) 0))
    ∙ sum-same (units p) (λ n. x v * cond (eqb w (turned_word v n)) (turn_rate p v n) 0)
    (λ n. cond (eqb v (turned_word w n)) (x v * turn_rate p v n) 0)
    (λ n h. cond_scaled (eqb w (turned_word v n)) (x v) (turn_rate p v n)
    ∙ ap (λ c. cond c (x v * turn_rate p v n) 0) (either_way w v n)))
    ∙ sum-swap (words p) (units p) (λ v n. cond (eqb v (turned_word w n)) (x v * turn_rate p v n) 0)
    ∙ sum-same (units p) (λ n. sum_below (words p) (λ v. cond (eqb v (turned_word w n)) (x v * turn_rate p v n) 0))
    (λ n. x (turned_word w n) * turn_rate p (turned_word w n) n)
    (λ n h. sum-at (words p) (λ v. x v * turn_rate p v n) (turned_word w n) (turned_lt (units p) w n l h))
  where
    either_way : (w v n : ℕ) → eqb w (turned_word v n) ≡ eqb v (turned_word w n)
    either_way w v n = same_test w (turned_word v n) v (turned_word w n)
        (λ e. sym (ap (λ a. turned_word a n) e ∙ turned_twice v n))
        (λ e. sym (ap (λ a. turned_word a n) e ∙ turned_twice w n))

pub leaving_full : (p : PlanParts) (w : ℕ) → w ≡ full_word p → leaving_rate p w ≡ sum_below (units p) (down p w)
leaving_full p w e =
    ap (λ c. cond c 0 (split p * all_calls p) + sum_below (units p) (down p w)) (eq-eqb w (full_word p) e)
    ∙ omega arith

pub leaving_other : (p : PlanParts) (w : ℕ) → w ≢ full_word p
    → leaving_rate p w ≡ split p * all_calls p + sum_below (units p) (down p w)
leaving_other p w ne =
    ap (λ c. cond c 0 (split p * all_calls p) + sum_below (units p) (down p w)) (ne_eqb w (full_word p) ne)

pub leaving_is : {most : ℕ} (p : PlanParts) → IsAcceptedUpTo most p → (w : ℕ) → w < words p
    → leaving_rate p w ≡ sum_below (units p) (turn_rate p w)
leaving_is p a w l =
    let parts = sum-same (units p) (turn_rate p w) (λ n. up p w n + down p w n) (λ n k. rate_parts p w n)
    ∙ sum-add (units p) (up p w) (down p w) in
    elim (cases_eq w (full_word p)) [
      | inl e ↦
          let none = sum_none (units p) (up p w)
          (λ n k. up_busy p w n (ap (λ c. is_busy c n) e ∙ full_busy (units p) n k)) in
          omega (arith, parts, none, leaving_full p w e)
      | inr ne ↦
          let free = free_exists (units p) w l ne in
          omega (arith, parts, up_all p a w free.0 free.1 free.2, leaving_other p w ne)
    ]

pub coming_is : (p : PlanParts) (x : ℕ → ℕ) (w : ℕ)
    → coming_flow p x w ≡ sum_below (units p) (λ n. x (turned_word w n) * turn_rate p (turned_word w n) n)
coming_is p x w =
    sym (sum-add (units p) (λ n. cond (is_busy w n) (x (turned_word w n) * up p (turned_word w n) n) 0)
    (λ n. cond (is_busy w n) 0 (x (turned_word w n) * (split p * service_of p n))))
    ∙ sum-same (units p)
    (λ n. cond (is_busy w n) (x (turned_word w n) * up p (turned_word w n) n) 0
    + cond (is_busy w n) 0 (x (turned_word w n) * (split p * service_of p n)))
    (λ n. x (turned_word w n) * turn_rate p (turned_word w n) n)
    (λ n k. of_unit n)
  where
    of_unit : (n : ℕ)
        → cond (is_busy w n) (x (turned_word w n) * up p (turned_word w n) n) 0
        + cond (is_busy w n) 0 (x (turned_word w n) * (split p * service_of p n))
        ≡ x (turned_word w n) * turn_rate p (turned_word w n) n
    of_unit n = on_test (is_busy w n)
        (λ b. omega (
          arith,
          ap (λ c. cond c (x (turned_word w n) * up p (turned_word w n) n) 0) b,
          ap (λ c. cond c 0 (x (turned_word w n) * (split p * service_of p n))) b,
          ap (λ a. x (turned_word w n) * a) (rate_free p (turned_word w n) n (busy_turned w n ∙ ap not b)),
        ))
        (λ b. omega (
          arith,
          ap (λ c. cond c (x (turned_word w n) * up p (turned_word w n) n) 0) b,
          ap (λ c. cond c 0 (x (turned_word w n) * (split p * service_of p n))) b,
          ap (λ a. x (turned_word w n) * a) (rate_busy p (turned_word w n) n (busy_turned w n ∙ ap not b)),
        ))

-- masses k times as large have flows k times as large
pub flow_scaled : (p : PlanParts) (k : ℕ) (x y : ℕ → ℕ) → ((v : ℕ) → v < words p → y v ≡ k * x v)
    → (w : ℕ) → w < words p → coming_flow p y w ≡ k * coming_flow p x w
flow_scaled p k x y larger w l =
    let at_turned : (n : ℕ) → n < units p → y (turned_word w n) ≡ k * x (turned_word w n) =
    λ n unit. larger (turned_word w n) (turned_lt (units p) w n l unit) in
    omega (
      arith,
      sum-same (units p) (λ n. cond (is_busy w n) (y (turned_word w n) * up p (turned_word w n) n) 0)
          (λ n. k * cond (is_busy w n) (x (turned_word w n) * up p (turned_word w n) n) 0)
          (λ n unit. taken (is_busy w n) k (x (turned_word w n)) (y (turned_word w n)) (up p (turned_word w n) n)
          (at_turned n unit)),
      sum-scaled (units p) k (λ n. cond (is_busy w n) (x (turned_word w n) * up p (turned_word w n) n) 0),
      sum-same (units p) (λ n. cond (is_busy w n) 0 (y (turned_word w n) * (split p * service_of p n)))
          (λ n. k * cond (is_busy w n) 0 (x (turned_word w n) * (split p * service_of p n)))
          (λ n unit. left (is_busy w n) k (x (turned_word w n)) (y (turned_word w n)) (split p * service_of p n)
          (at_turned n unit)),
      sum-scaled (units p) k (λ n. cond (is_busy w n) 0 (x (turned_word w n) * (split p * service_of p n))),
    )
  where
    taken : (b : Bool) (k a c r : ℕ) → c ≡ k * a → cond b (c * r) 0 ≡ k * cond b (a * r) 0
    taken true k a c r is = rw is (omega arith)
    taken false k a c r is = omega arith

    left : (b : Bool) (k a c r : ℕ) → c ≡ k * a → cond b 0 (c * r) ≡ k * cond b 0 (a * r)
    left true k a c r is = omega arith
    left false k a c r is = rw is (omega arith)

-- a word's balance is that of the table
pub balance_is : {most : ℕ} (p : PlanParts) → IsAcceptedUpTo most p → (x : ℕ → ℕ) (w : ℕ) → w < words p
    → IsBalancedWord p x w ↔ IsBalancedState (words p) (word_table p) x w
balance_is p a x w l =
    let out = ap (λ c. x w * c) (leaving_is p a w l ∙ sym (row_is p w l)) in
    let into = coming_is p x w ∙ sym (column_is p x w l) in
    (λ h. sym out ∙ h ∙ into, λ h. out ∙ h ∙ sym into)

-- the rate of the unit that changes is a part of the table's rate
pub turn_rate_le : (p : PlanParts) (v n : ℕ) → n < units p → turn_rate p v n ≤ word_table p v (turned_word v n)
turn_rate_le p v n k =
    omega (
      arith,
      ap (λ c. cond c (turn_rate p v n) 0) (eq-eqb (turned_word v n) (turned_word v n) refl),
      place_le_sum (units p) (λ i. cond (eqb (turned_word v n) (turned_word v i)) (turn_rate p v i) 0) n k,
    )

-- a busy unit ends its service
pub service_positive : {most : ℕ} (p : PlanParts) → IsAcceptedUpTo most p → (v n : ℕ) → n < units p → is_busy v n ≡ true
    → 0 < word_table p v (turned_word v n)
service_positive p a v n k b =
    omega (arith, turn_rate_le p v n k, rate_busy p v n b, mul-pos (split_positive p) (a.units.rates n k).low)

-- each word but 0 has a rate to the smaller word without one of its busy units
pub words_descend : {most : ℕ} (p : PlanParts) → IsAcceptedUpTo most p → Descends (words p) (word_table p)
words_descend p a m pos l =
    let n = busy_exists (units p) m l pos in
    (turned_word m n.0, turned_down m n.0 n.2, service_positive p a m n.0 n.1 n.2)
