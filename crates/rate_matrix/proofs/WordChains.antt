-- The words of a plan as the states of a chain: why it is one, and that its balance is the plan's.
use Rattle.std.proofs.Common.{◌≡◌, ℕ, ◌+◌, ◌^◌, ◌<◌, ◌≤◌, ◌↔◌, ◌⊎◌, Bool, true, false, cond, eqb, List, length, sym, ap, subst, ◌∙◌, inl, inr, arith}
use Rattle.std.proofs.lemmas.Bool.{cases_lt}
use Rattle.std.proofs.lemmas.List.{get_or-map, length-map}
use Rattle.hyper_model.specs.declared.parts.PlanParts.{PlanParts}
use Rattle.hyper_model.specs.Plans.{units, IsAccepted}
use Rattle.hyper_model.specs.Words.{words, is_busy, turned_word}
use Rattle.hyper_model.specs.Laws.{level}
use Rattle.hyper_model.specs.Solutions.{mass_in, SolvesWords}
use Rattle.hyper_model.specs.Sums.{sum_below}
use Rattle.hyper_model.specs.Tables.{RateTable, Descends, IsTableSolution, SolvesTable, between_states, word_table, AreInverse, relabelled}
use Rattle.hyper_model.proofs.Sums.{on_test, sum-le}
use Rattle.hyper_model.proofs.Bits.{busy_exists, turned_lt}
use Rattle.hyper_model.proofs.Levels.{level_down, level_up}
use Rattle.hyper_model.proofs.Chains.{solves_alike}
use Rattle.hyper_model.proofs.Relabel.{renumbered, renumbered_back, sum_relabelled}
use Rattle.hyper_model.proofs.WordTables.{service_positive}
use Rattle.hyper_model.proofs.WordRates.{leaving_le, leaving_row, table_elsewhere}
use Rattle.hyper_model.proofs.PlanLaws.{solves_word_table, table_solves_words}
use Rattle.busy_words.specs.Order.{IsInOrder, WordOrder, rank_of, word_at}
use Rattle.busy_words.proofs.Ordering.{first_word, levels_rise, words_apart, words_inverse}
use Rattle.rate_matrix.specs.Elimination.{outflow_of}
use Rattle.rate_matrix.specs.WordChains.{by_rank, word_rates, word_top}

-- the order is that of the words of the plan
pub ordered_words : (p : PlanParts) (order : WordOrder) → order.units ≡ units p → IsInOrder order.units order.words
    → IsInOrder (units p) order.words
ordered_words p order e h = subst (λ n. IsInOrder n order.words) e h

-- the words of so many units by rank, whatever the rates between them
module _ (n : ℕ) (order : WordOrder) (h : IsInOrder n order.words) where
  pub inverse : AreInverse (2 ^ n) (word_at order) (rank_of n)
  inverse = words_inverse n order.words h

  first_none : (m : ℕ) → m < 2 ^ n → 0 < m → 0 < word_at order m
  first_none m l pos = elim (cases_lt 0 (word_at order m)) [
    | inl k ↦ k
    | inr k ↦
        let zero_word : word_at order m ≡ word_at order 0 = (let z : word_at order m ≡ 0 = omega arith in z) ∙ sym (first_word n order.words h) in
        let same : m ≡ 0 = words_apart n order.words h m 0 l (omega arith) zero_word in
        absurd (omega arith)
  ]

  -- each word but the first has a rate to an earlier one, if each busy unit ends its service
  pub ranks_descend : (rate : RateTable) → ((v i : ℕ) → i < n → is_busy v i ≡ true → 0 < rate v (turned_word v i))
      → Descends (2 ^ n) (relabelled (word_at order) rate)
  ranks_descend rate ends m pos l =
      let below : word_at order m < 2 ^ n = h.within m l in
      let i = busy_exists n (word_at order m) below (first_none m l pos) in
      let next : turned_word (word_at order m) i.0 < 2 ^ n = turned_lt n (word_at order m) i.0 below i.1 in
      let to_word : word_at order (rank_of n (turned_word (word_at order m) i.0)) ≡ turned_word (word_at order m) i.0 =
      inverse.to_back (turned_word (word_at order m) i.0) next in (
        rank_of n (turned_word (word_at order m) i.0),
        elim (cases_lt (rank_of n (turned_word (word_at order m) i.0)) m) [
          | inl k ↦ k
          | inr k ↦
              let rises = levels_rise n order.words h m (rank_of n (turned_word (word_at order m) i.0)) k
              (inverse.back_below (turned_word (word_at order m) i.0) next) in
              absurd (omega (arith, rises, ap (level n) to_word, level_down n (word_at order m) i.0 i.1 i.2))
        ],
        subst (λ w. 0 < rate (word_at order m) w) (sym to_word) (ends (word_at order m) i.0 i.1 i.2),
      )

  fewer_between : (rate : RateTable) (i j : ℕ) → between_states rate i j ≤ rate i j
  fewer_between rate i j = at_most (eqb i j) (rate i j)
    where
      at_most : (b : Bool) (k : ℕ) → cond b 0 k ≤ k
      at_most true k = omega arith
      at_most false k = omega arith

  -- no rank is left faster than its word
  pub ranks_bounded : (rate : RateTable) (top : ℕ) → ((v : ℕ) → v < 2 ^ n → sum_below (2 ^ n) (rate v) ≤ top)
      → (i : ℕ) → i < 2 ^ n → outflow_of (2 ^ n) (relabelled (word_at order) rate) i ≤ top
  ranks_bounded rate top most i l =
      omega (
        arith,
        sum-le (2 ^ n) (between_states (relabelled (word_at order) rate) i) (relabelled (word_at order) rate i)
            (λ j k. fewer_between (relabelled (word_at order) rate) i j),
        sum_relabelled (2 ^ n) (word_at order) (rank_of n) (rate (word_at order i)) inverse,
        most (word_at order i) (h.within i l),
      )

  pub by_rank_at : (xs : List ℕ) (i : ℕ) → i < 2 ^ n → mass_in (by_rank order xs) i ≡ mass_in xs (word_at order i)
  by_rank_at xs i l = get_or-map (mass_in xs) order.words i 0 0 (omega (arith, h.one_each))

  -- masses by rank solve if those by number do
  pub ranks_solve : (rate : RateTable) (xs : List ℕ) → SolvesTable (2 ^ n) rate (mass_in xs)
      → IsTableSolution (2 ^ n) (relabelled (word_at order) rate) (by_rank order xs)
  ranks_solve rate xs s = record {
    one_each = length-map order.words (mass_in xs) ∙ h.one_each;
    solves = solves_alike (2 ^ n) (relabelled (word_at order) rate) (λ i. mass_in xs (word_at order i)) (mass_in (by_rank order xs))
        (by_rank_at xs) (renumbered (2 ^ n) (word_at order) (rank_of n) rate (mass_in xs) inverse s);
  }

module _ (p : PlanParts) (order : WordOrder) (accepted : IsAccepted p) (h : IsInOrder (units p) order.words) where
  pub chain_descends : Descends (words p) (word_rates p order)
  chain_descends = ranks_descend (units p) order h (word_table p) (service_positive p accepted)

  pub chain_bounded : (i : ℕ) → i < words p → outflow_of (words p) (word_rates p order) i ≤ word_top p
  chain_bounded =
      ranks_bounded (units p) order h (word_table p) (word_top p)
      (λ v l. omega (arith, leaving_row p accepted v l, leaving_le p v))

  pub chain_balance : (xs : List ℕ) → length xs ≡ words p
      → SolvesWords p xs ↔ IsTableSolution (words p) (word_rates p order) (by_rank order xs)
  chain_balance xs one_each = (
    λ s. ranks_solve (units p) order h (word_table p) xs (solves_word_table p accepted xs s),
    λ s. table_solves_words p accepted xs one_each
        (renumbered_back (words p) (word_at order) (rank_of (units p)) (word_table p) (mass_in xs) (inverse (units p) order h)
        (solves_alike (words p) (word_rates p order) (mass_in (by_rank order xs)) (λ i. mass_in xs (word_at order i))
        (λ i l. sym (by_rank_at (units p) order h xs i l)) s.solves)),
  )

-- only one unit changes from a word to another with a rate
pub far_words : (p : PlanParts) (v w : ℕ)
    → ((level (units p) v + 1 < level (units p) w) ⊎ (level (units p) w + 1 < level (units p) v)) → word_table p v w ≡ 0
far_words p v w far = table_elsewhere p v w (λ n l e.
    let moved = ap (level (units p)) e in
    on_test (is_busy v n)
    (λ b. elim far [
      | inl k ↦ omega (arith, moved, level_down (units p) v n l b)
      | inr k ↦ omega (arith, moved, level_down (units p) v n l b)
    ])
    (λ b. elim far [
      | inl k ↦ omega (arith, moved, level_up (units p) v n l b)
      | inr k ↦ omega (arith, moved, level_up (units p) v n l b)
    ]))
