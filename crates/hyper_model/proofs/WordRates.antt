-- The rates of the table of words one by one, and their sums.
use Rattle.std.proofs.Common.{◌≡◌, ◌≢◌, ℕ, ◌+◌, ◌*◌, ◌<◌, ◌≤◌, Bool, true, false, not, cond, eqb, sym, ap, ◌∙◌, inl, inr, true≢false, arith}
use Rattle.std.proofs.lemmas.Bool.{cases_eq, ne_eqb}
use Rattle.std.proofs.Math.Nat.{mul-le-mul}
use Rattle.hyper_model.specs.declared.parts.PlanParts.{PlanParts}
use Rattle.hyper_model.specs.Sums.{sum_below}
use Rattle.hyper_model.specs.Plans.{units, service_of, all_calls, all_service, split, IsAccepted, IsAcceptedUpTo}
use Rattle.hyper_model.specs.Words.{words, is_busy, full_word, turned_word}
use Rattle.hyper_model.specs.Rates.{up, down, leaving_rate}
use Rattle.hyper_model.specs.Tables.{RateTable, Descends, between_states, turn_rate, word_table}
use Rattle.hyper_model.proofs.Sums.{same_test, sum-same, sum-scaled, sum-at, sum-le, sum_none}
use Rattle.hyper_model.proofs.Bits.{busy_turned, busy_turned_other, free_exists}
use Rattle.hyper_model.proofs.Takers.{split_le, up_all}
use Rattle.hyper_model.proofs.WordTables.{row_is, leaving_is, leaving_full, leaving_other}

no_fixed_point : (b : Bool) → b ≢ not b
no_fixed_point true e = true≢false e
no_fixed_point false e = true≢false (sym e)

-- different units lead to different words
pub turned_apart : (v n i : ℕ) → n ≢ i → turned_word v n ≢ turned_word v i
turned_apart v n i ne e =
    no_fixed_point (is_busy v n)
    (sym (busy_turned_other v i n ne) ∙ sym (ap (λ w. is_busy w n) e) ∙ busy_turned v n)

-- the word itself is none of them
pub turned_moves : (v n : ℕ) → v ≢ turned_word v n
turned_moves v n e = no_fixed_point (is_busy v n) (ap (λ w. is_busy w n) e ∙ busy_turned v n)

-- the rate to the word in which only unit n has changed
pub table_at_turned : (p : PlanParts) (v n : ℕ) → n < units p → word_table p v (turned_word v n) ≡ turn_rate p v n
table_at_turned p v n l =
    sum-same (units p) (λ i. cond (eqb (turned_word v n) (turned_word v i)) (turn_rate p v i) 0)
    (λ i. cond (eqb i n) (turn_rate p v i) 0)
    (λ i k. ap (λ c. cond c (turn_rate p v i) 0) (same_test (turned_word v n) (turned_word v i) i n (unit_of i) (word_of i)))
    ∙ sum-at (units p) (turn_rate p v) n l
  where
    unit_of : (i : ℕ) → turned_word v n ≡ turned_word v i → i ≡ n
    unit_of i e = elim (cases_eq i n)
        [ inl same ↦ same | inr ne ↦ absurd (turned_apart v n i (λ q. ne (sym q)) e) ]

    word_of : (i : ℕ) → i ≡ n → turned_word v n ≡ turned_word v i
    word_of i e = ap (turned_word v) (sym e)

-- there is none to a word in which no unit or more than one has changed
pub table_elsewhere : (p : PlanParts) (v w : ℕ) → ((n : ℕ) → n < units p → w ≢ turned_word v n) → word_table p v w ≡ 0
table_elsewhere p v w h =
    sum_none (units p) (λ n. cond (eqb w (turned_word v n)) (turn_rate p v n) 0)
    (λ n l. ap (λ c. cond c (turn_rate p v n) 0) (ne_eqb w (turned_word v n) (h n l)))

pub table_itself : (p : PlanParts) (v : ℕ) → word_table p v v ≡ 0
table_itself p v = table_elsewhere p v v (λ n l. turned_moves v n)

-- the rate out of a word is at most that of all calls and all services
pub leaving_le : (p : PlanParts) (w : ℕ) → leaving_rate p w ≤ split p * (all_calls p + all_service p)
leaving_le p w =
    let services = sum-le (units p) (down p w) (λ n. split p * service_of p n)
    (λ n l. at_most (is_busy w n) (split p * service_of p n)) in
    let all = sum-scaled (units p) (split p) (service_of p) in
    elim (cases_eq w (full_word p)) [
      | inl e ↦ omega (arith, services, all, leaving_full p w e)
      | inr ne ↦ omega (arith, services, all, leaving_other p w ne)
    ]
  where
    at_most : (b : Bool) (k : ℕ) → cond b k 0 ≤ k
    at_most true k = omega arith
    at_most false k = omega arith

-- which is at most 27,720 times two millions up to 12 units
pub leaving_small : (p : PlanParts) → IsAccepted p → (w : ℕ) → leaving_rate p w ≤ 55440000000
leaving_small p a w =
    omega (
      arith,
      leaving_le p w,
      mul-le-mul (split_le p a.units.number.high) (let both : all_calls p + all_service p ≤ 2000000 =
          omega (arith, a.atoms.calls.high, a.units.service) in both),
    )

-- and it is the sum of the rates to the other words
pub leaving_row : {most : ℕ} (p : PlanParts) → IsAcceptedUpTo most p → (w : ℕ) → w < words p
    → sum_below (words p) (word_table p w) ≡ leaving_rate p w
leaving_row p a w l = row_is p w l ∙ sym (leaving_is p a w l)

-- a table descends with rates from states to themselves or without them
pub descends_between : (n : ℕ) (e : RateTable) → Descends n e → Descends n (between_states e)
descends_between n e d m pos l =
    let to = d m pos l in
    let apart : m ≢ to.0 = let below = to.1 in omega (arith, below) in
    (to.0, to.1, omega (arith, to.2, ap (λ c. cond c 0 (e m to.0)) (ne_eqb m to.0 apart)))

-- in a word that is not full, all calls go to somebody
pub up_not_full : {most : ℕ} (p : PlanParts) → IsAcceptedUpTo most p → (w : ℕ) → w < words p → w ≢ full_word p
    → sum_below (units p) (up p w) ≡ split p * all_calls p
up_not_full p a w l ne = let free = free_exists (units p) w l ne in up_all p a w free.0 free.1 free.2
