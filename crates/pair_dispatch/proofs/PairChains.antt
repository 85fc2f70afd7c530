-- The words of a plan as a chain when calls may need two units: no word is left too fast, each but the first has a rate
-- to an earlier one, and masses by rank solve its balance if those by number do.
use Rattle.std.proofs.Common.{◌≡◌, ◌≢◌, ℕ, ◌+◌, ◌-◌, ◌*◌, ◌^◌, ◌<◌, ◌≤◌, Bool, true, false, not, cond, eqb, ◌&&◌, List, refl, sym, ap, ap₂, subst, ◌∙◌, inl, inr, true≢false, eq-eqb, arith, pow_pos}
use Rattle.std.specs.Prelude.{bit_and}
use Rattle.std.proofs.lemmas.Bool.{cases_lt, ne_eqb}
use Rattle.hyper_model.specs.declared.parts.PlanParts.{PlanParts}
use Rattle.hyper_model.specs.Sums.{sum_below}
use Rattle.hyper_model.specs.Plans.{units, atoms, calls_of, service_of, all_calls, all_service, IsAccepted}
use Rattle.hyper_model.specs.Words.{words, is_busy, turned_word}
use Rattle.hyper_model.specs.Solutions.{mass_in}
use Rattle.hyper_model.specs.Tables.{Descends}
use Rattle.hyper_model.proofs.Sums.{on_test, sum-same, sum-add, sum-scaled, sum-swap, sum-at, sum-le, sum_none, place_le_sum}
use Rattle.hyper_model.proofs.Bits.{busy_exists, busy_turned, turned_down}
use Rattle.hyper_model.proofs.Chains.{has_table_solution, is_first_positive}
use Rattle.busy_words.specs.Order.{IsInOrder, WordOrder}
use Rattle.rate_matrix.specs.Elimination.{outflow_of}
use Rattle.rate_matrix.proofs.WordChains.{ranks_bounded, ranks_descend}
use Rattle.pair_dispatch.specs.PairRates.{HasPairSolution, IsPairSolution, after_one, after_two, calls_leading, ending_rate, pair_rates, pair_table, pair_top, sending_rate}
use Rattle.pair_dispatch.proofs.SentUnits.{common_busy, common_word, one_below, one_keeps, two_below, two_keeps}

module _ (p : PlanParts) (percent : ℕ) where
  module _ (a : IsAccepted p) (in_range : percent ≤ 100) where
    -- each of a hundred calls leads somewhere
    all_lead : (j v : ℕ) → j < atoms p → v < words p → sum_below (words p) (calls_leading p percent j v) ≡ 100
    all_lead j v inside below =
        omega (
          arith,
          sum-add (words p) (λ w. cond (eqb w (after_one p j v)) (100 - percent) 0) (λ w. cond (eqb w (after_two p j v)) percent 0),
          sum-at (words p) (λ w. 100 - percent) (after_one p j v) (one_below p a j inside v below),
          sum-at (words p) (λ w. percent) (after_two p j v) (two_below p a j inside v below),
        )

    all_sent : (v : ℕ) → v < words p → sum_below (words p) (sending_rate p percent v) ≡ 100 * all_calls p
    all_sent v below =
        sum-swap (words p) (atoms p) (λ w j. calls_of p j * calls_leading p percent j v w)
        ∙ sum-same (atoms p) (λ j. sum_below (words p) (λ w. calls_of p j * calls_leading p percent j v w))
        (λ j. 100 * calls_of p j)
        (λ j l.
        let each = sum-scaled (words p) (calls_of p j) (calls_leading p percent j v) in
        let all = ap (λ k. calls_of p j * k) (all_lead j v l below) in
        omega (arith, each, all))
        ∙ sum-scaled (atoms p) 100 (calls_of p)

    one_ends : (n rate to : ℕ) (b : Bool) → sum_below n (λ w. cond (b && eqb w to) rate 0) ≤ rate
    one_ends n rate to false = omega (arith, sum_none n (λ w. 0) (λ i l. refl))
    one_ends n rate to true = elim (cases_lt to n) [
      | inl l ↦ omega (arith, sum-at n (λ w. rate) to l)
      | inr g ↦
          omega (
            arith,
            sum_none n (λ w. cond (eqb w to) rate 0)
                (λ i l. ap (λ c. cond c rate 0) (ne_eqb i to (let ne : i ≢ to = omega arith in ne))),
          )
    ]

    all_ended : (v : ℕ) → sum_below (words p) (ending_rate p v) ≤ 100 * all_service p
    all_ended v =
        omega (
          arith,
          sum-swap (words p) (units p) (λ w n. cond (is_busy v n && eqb w (turned_word v n)) (100 * service_of p n) 0),
          sum-le (units p)
              (λ n. sum_below (words p) (λ w. cond (is_busy v n && eqb w (turned_word v n)) (100 * service_of p n) 0))
              (λ n. 100 * service_of p n) (λ n l. one_ends (words p) (100 * service_of p n) (turned_word v n) (is_busy v n)),
          sum-scaled (units p) 100 (service_of p),
        )

    pub row_bounded : (v : ℕ) → v < words p → sum_below (words p) (pair_table p percent v) ≤ pair_top p
    row_bounded v below =
        omega (
          arith,
          sum-add (words p) (sending_rate p percent v) (ending_rate p v),
          all_sent v below,
          all_ended v,
        )

    -- a busy unit ends its service
    service_positive : (v n : ℕ) → n < units p → is_busy v n ≡ true → 0 < pair_table p percent v (turned_word v n)
    service_positive v n l busy =
        omega (
          arith,
          (a.units.rates n l).low,
          place_le_sum (units p)
              (λ i. cond (is_busy v i && eqb (turned_word v n) (turned_word v i)) (100 * service_of p i) 0) n l,
          ap₂ (λ b c. cond (b && c) (100 * service_of p n) 0) busy (eq-eqb (turned_word v n) (turned_word v n) refl),
        )

    pub pairs_descend : Descends (words p) (pair_table p percent)
    pairs_descend m pos l =
        let n = busy_exists (units p) m l pos in
        (turned_word m n.0, turned_down m n.0 n.2, service_positive m n.0 n.1 n.2)

    pub has_pair_solution : HasPairSolution p percent
    has_pair_solution = has_table_solution (words p) (pair_table p percent) (pow_pos (units p)) pairs_descend

    pub none_busy_positive : (xs : List ℕ) → IsPairSolution p percent xs → 0 < mass_in xs 0
    none_busy_positive xs s = is_first_positive (words p) (pair_table p percent) pairs_descend xs s

    -- the same by rank
    module _ (order : WordOrder) (h : IsInOrder (units p) order.words) where
      pub pair_ranks_descend : Descends (words p) (pair_rates p percent order)
      pair_ranks_descend = ranks_descend (units p) order h (pair_table p percent) service_positive

      pub pair_ranks_bounded : (i : ℕ) → i < words p → outflow_of (words p) (pair_rates p percent order) i ≤ pair_top p
      pair_ranks_bounded = ranks_bounded (units p) order h (pair_table p percent) (pair_top p) row_bounded

  -- from a word to one in which all its units are busy only calls lead, and to others only the end of a service
  pub only_calls : (v w : ℕ) → bit_and v w ≡ v → pair_table p percent v w ≡ sending_rate p percent v w
  only_calls v w same =
      omega (
        arith,
        sum_none (units p) (λ n. cond (is_busy v n && eqb w (turned_word v n)) (100 * service_of p n) 0)
            (λ n l. on_test (is_busy v n)
            (λ busy.
            let apart : w ≢ turned_word v n = λ e. true≢false (
            sym (common_busy v w n same busy) ∙ ap (λ u. is_busy u n) e ∙ busy_turned v n ∙ ap not busy) in
            ap₂ (λ b c. cond (b && c) (100 * service_of p n) 0) busy (ne_eqb w (turned_word v n) apart))
            (λ free. ap (λ b. cond (b && eqb w (turned_word v n)) (100 * service_of p n) 0) free)),
      )

  pub only_services : IsAccepted p → (v w : ℕ) → bit_and v w ≢ v → pair_table p percent v w ≡ ending_rate p v w
  only_services a v w apart =
      omega (
        arith,
        sum_none (atoms p) (λ j. calls_of p j * calls_leading p percent j v w)
            (λ j l. ap₂ (λ b c. calls_of p j * (cond b (100 - percent) 0 + cond c percent 0))
            (ne_eqb w (after_one p j v) (λ e. apart (common_word v w (λ i busy.
            subst (λ u. is_busy u i ≡ true) (sym e) (one_keeps p a j l v i busy)))))
            (ne_eqb w (after_two p j v) (λ e. apart (common_word v w (λ i busy.
            subst (λ u. is_busy u i ≡ true) (sym e) (two_keeps p a j l v i busy)))))
            ∙ omega arith),
      )
