-- The ends of each measure contain it, for every solution of the balance, and there is one list of them.
use Rattle.std.proofs.Common.{◌≡◌, ◌≢◌, ℕ, zero, suc, ◌+◌, ◌-◌, ◌*◌, ◌^◌, ◌<◌, ◌≤◌, Bool, true, false, not, cond, eqb, leb, ◌&&◌, List, [], ◌∷◌, ◌++◌, map, length, All, refl, sym, ap, ap₂, subst, ◌∙◌, inl, inr, eq-eqb, arith, pow_pos}
use Rattle.std.specs.List.{flat_map, range_with_len}
use Rattle.std.proofs.lemmas.List.Elements.{All-nil, All-cons, All-append}
use Rattle.std.proofs.Math.Nat.{mul-pos, mul-le-mul_left}
use Rattle.std.proofs.lemmas.Nat.Bits.{bit_at-zero}
use Rattle.std.proofs.lemmas.Bool.Decides.{nat_tests}
use Rattle.fixed_interval.specs.Ends.{Ends, Encloses, exact_ends, outward_ends, quotient_ends, scaled_ends, share_ends}
use Rattle.fixed_interval.specs.WeightList.{EnclosesAll, ends_at}
use Rattle.fixed_interval.proofs.Rounding.{encloses_exact, encloses_outward, encloses_quotient, encloses_same, encloses_scaled, encloses_share}
use Rattle.fixed_interval.proofs.Scaled.{Holds, holds_of_list}
use Rattle.hyper_model.specs.declared.parts.PlanParts.{PlanParts}
use Rattle.hyper_model.specs.Sums.{sum_below}
use Rattle.hyper_model.specs.Plans.{units, atoms, calls_of, all_calls, IsAccepted}
use Rattle.hyper_model.specs.Words.{words, full_word, is_busy}
use Rattle.hyper_model.specs.Laws.{level}
use Rattle.hyper_model.specs.Solutions.{mass_in}
use Rattle.hyper_model.specs.Measures.{ContainsRatio}
use Rattle.hyper_model.proofs.Sums.{choices_scaled, place_le_sum, sum-add, sum-at, sum-le, sum-same, sum-scaled, sum_none}
use Rattle.hyper_model.proofs.Ranges.{all_flat, all_from, all_range}
use Rattle.hyper_model.proofs.Bits.{words_full}
use Rattle.hyper_model.proofs.Relabel.{sum_relabelled}
use Rattle.busy_words.specs.Algebra.{where_ends}
use Rattle.busy_words.specs.Order.{WordOrder, rank_of, word_at}
use Rattle.busy_words.specs.Parts.{set_ends}
use Rattle.busy_words.specs.WeightParts.{IsOrderOf}
use Rattle.busy_words.proofs.Algebra.{encloses_total, encloses_where}
use Rattle.busy_words.proofs.MeasureEnds.{contains_ratio}
use Rattle.busy_words.proofs.Ordering.{one_order}
use Rattle.busy_words.proofs.SetParts.{scaled_in_all}
use Rattle.rate_matrix.specs.WordChains.{by_rank}
use Rattle.rate_matrix.proofs.WordChains.{by_rank_at, inverse, ranks_solve}
use Rattle.pair_dispatch.specs.declared.measure.PairMeasure.{PairMeasure}
use Rattle.pair_dispatch.specs.declared.measure.PairMeasure.TheVariants as measure
use Rattle.pair_dispatch.specs.declared.measure.PairEnds.{PairEnds}
use Rattle.pair_dispatch.specs.declared.word_set.WordSet.{WordSet}
use Rattle.pair_dispatch.specs.declared.word_set.WordSet.TheVariants as set
use Rattle.pair_dispatch.specs.ChainWeights.{AreChainWeights}
use Rattle.pair_dispatch.specs.PairEnds.{ArePairWeights, IsPairEnclosureOf, both_sent_ends, is_base, is_member, is_other, measure_ends, measures_of, pair_of, pairs_from, part_of, share_of, workload_of}
use Rattle.pair_dispatch.specs.PairMeasures.{ContainsSolutions, IsContained, IsOfUnits, has_one_free, has_two_free, mass_where, ratio_of, sends_both}
use Rattle.pair_dispatch.specs.PairRates.{IsPairSolution, pair_rates, pair_table, pair_top}
use Rattle.pair_dispatch.proofs.ChainWeights.{chain_encloses, chain_in_range, one_chain}
use Rattle.pair_dispatch.proofs.PairChains.{none_busy_positive, pair_ranks_descend}

-- The part of some places among others encloses the share of their numbers, if the weights enclose all numbers. The two
-- sets together are the places among which it is taken.
among_encloses : (n : ℕ) (inside other base : ℕ → Bool) (w : ℕ → Ends) (y : ℕ → ℕ) → Holds n w y → 0 < sum_below n y
    → ((i k : ℕ) → cond (inside i) k 0 + cond (other i) k 0 ≡ cond (base i) k 0)
    → Encloses (share_ends (2 ^ 62) (set_ends n inside w) (set_ends n other w))
    (2 ^ 62 * sum_below n (λ i. cond (inside i) (y i) 0)) (sum_below n (λ i. cond (base i) (y i) 0))
among_encloses n inside other base w y h some together =
    let c = scaled_in_all n w y h some in
    let a = sum_below n (λ i. cond (inside i) (c.factor * y i) 0) in
    let b = sum_below n (λ i. cond (other i) (c.factor * y i) 0) in
    let both : a + b ≡ sum_below n (λ i. cond (base i) (c.factor * y i) 0) =
    sym (sum-add n (λ i. cond (inside i) (c.factor * y i) 0) (λ i. cond (other i) (c.factor * y i) 0))
    ∙ sum-same n (λ i. cond (inside i) (c.factor * y i) 0 + cond (other i) (c.factor * y i) 0)
    (λ i. cond (base i) (c.factor * y i) 0) (λ i l. together i (c.factor * y i)) in
    encloses_same (share_ends (2 ^ 62) (set_ends n inside w) (set_ends n other w)) c.factor _ _ (2 ^ 62 * a) (a + b) c.some
    (omega (arith, choices_scaled n c.factor inside y))
    (both ∙ choices_scaled n c.factor base y)
    (encloses_share (set_ends n inside w) (set_ends n other w) (share_ends (2 ^ 62) (set_ends n inside w) (set_ends n other w)) (2 ^ 62)
    refl a b c.den (set_encloses inside c.factor c.den c.inside) (set_encloses other c.factor c.den c.inside))
  where
    set_encloses : (test : ℕ → Bool) (factor den : ℕ) → ((i : ℕ) → i < n → Encloses (w i) (factor * y i) den)
        → Encloses (set_ends n test w) (sum_below n (λ i. cond (test i) (factor * y i) 0)) den
    set_encloses test factor den inside =
        encloses_total n (λ i. where_ends (test i) (w i)) (λ i. cond (test i) (factor * y i) 0) den
        (λ i l. encloses_where (test i) (w i) (factor * y i) den (λ t. inside i l))

both_tests : (base test : Bool) (k : ℕ) → cond (base && test) k 0 + cond (base && not (base && test)) k 0 ≡ cond base k 0
both_tests true true k = omega arith
both_tests true false k = omega arith
both_tests false test k = refl

all_tests : (test : Bool) (k : ℕ) → cond test k 0 + cond (not test) k 0 ≡ k
all_tests true k = omega arith
all_tests false k = omega arith

-- the words of a set and the others are those among which its part is taken
set_together : (p : PlanParts) (s : WordSet) (v k : ℕ)
    → cond (is_member p s v) k 0 + cond (is_other p s v) k 0 ≡ cond (is_base p s v) k 0
set_together p set.Full v k = all_tests (eqb v (full_word p)) k
set_together p set.OneFree v k = all_tests (has_one_free p v) k
set_together p (set.Busy n) v k = all_tests (is_busy v n) k
set_together p (set.BothSent j a b) v k = both_tests (has_two_free p v) _ k

-- the measures of units
abbrev measures_after : PlanParts → WordOrder → List Ends → List PairEnds
measures_after p order items =
    map (workload_of p order items) (range_with_len 0 (units p)) ++ flat_map (pairs_from p order items) (range_with_len 0 (units p))

module _ (p : PlanParts) (percent : ℕ) (a : IsAccepted p) (in_range : percent ≤ 100) (order : WordOrder)
    (o : IsOrderOf p order) (items : List Ends)
    (are : AreChainWeights (words p) (pair_top p) (pair_rates p percent order) items) (xs : List ℕ)
    (s : IsPairSolution p percent xs) where
  abbrev numbers : ℕ → ℕ
  numbers i = mass_in (by_rank order xs) i

  top_least : 1 ≤ pair_top p
  top_least = omega (arith, a.atoms.calls.low)

  top_most : pair_top p ≤ 2 ^ 36
  top_most = omega (arith, a.atoms.calls.high, a.units.service)

  enclosing : EnclosesAll items (by_rank order xs)
  enclosing =
      chain_encloses (words p) (pair_top p) (pair_rates p percent order) (pow_pos (units p)) top_least top_most
      (pair_ranks_descend p percent a in_range order o.ordered) items are (by_rank order xs)
      (ranks_solve (units p) order o.ordered (pair_table p percent) xs s.solves)

  one_each : length items ≡ words p
  one_each = enclosing.same_length ∙ (ranks_solve (units p) order o.ordered (pair_table p percent) xs s.solves).one_each

  holds : Holds (words p) (ends_at items) numbers
  holds = subst (λ n. Holds n (ends_at items) numbers) one_each (holds_of_list items (by_rank order xs) enclosing)

  -- sums over the ranks are sums over the words
  ranked_sum : (test : ℕ → Bool) → sum_below (words p) (λ i. cond (test (word_at order i)) (numbers i) 0)
      ≡ mass_where p test (mass_in xs)
  ranked_sum test =
      sum-same (words p) (λ i. cond (test (word_at order i)) (numbers i) 0)
      (λ i. cond (test (word_at order i)) (mass_in xs (word_at order i)) 0)
      (λ i l. ap (λ x. cond (test (word_at order i)) x 0) (by_rank_at (units p) order o.ordered xs i l))
      ∙ sum_relabelled (words p) (word_at order) (rank_of (units p)) (λ v. cond (test v) (mass_in xs v) 0)
      (inverse (units p) order o.ordered)

  some_mass : 0 < sum_below (words p) (mass_in xs)
  some_mass = s.solves.positive

  some_number : 0 < sum_below (words p) numbers
  some_number = omega (arith, some_mass, ranked_sum (λ v. true))

  part_encloses : (t : WordSet) → Encloses (part_of p order (ends_at items) t)
      (2 ^ 62 * mass_where p (is_member p t) (mass_in xs)) (mass_where p (is_base p t) (mass_in xs))
  part_encloses t =
      subst (λ d. Encloses (part_of p order (ends_at items) t) (2 ^ 62 * mass_where p (is_member p t) (mass_in xs)) d)
      (ranked_sum (is_base p t))
      (subst (λ m. Encloses (part_of p order (ends_at items) t) (2 ^ 62 * m)
      (sum_below (words p) (λ i. cond (is_base p t (word_at order i)) (numbers i) 0)))
      (ranked_sum (is_member p t))
      (among_encloses (words p) (λ i. is_member p t (word_at order i)) (λ i. is_other p t (word_at order i))
      (λ i. is_base p t (word_at order i)) (ends_at items) numbers holds some_number
      (λ i k. set_together p t (word_at order i) k)))

  outward_encloses : (t : WordSet) → Encloses (outward_ends 1000000 (part_of p order (ends_at items) t))
      (1000000 * mass_where p (is_member p t) (mass_in xs)) (mass_where p (is_base p t) (mass_in xs))
  outward_encloses t =
      encloses_outward (part_of p order (ends_at items) t) (outward_ends 1000000 (part_of p order (ends_at items) t)) 1000000 refl
      (mass_where p (is_member p t) (mass_in xs)) (mass_where p (is_base p t) (mass_in xs)) (part_encloses t)

  full_mass : mass_where p (λ v. eqb v (full_word p)) (mass_in xs) ≡ mass_in xs (full_word p)
  full_mass = sum-at (words p) (mass_in xs) (full_word p) (omega (arith, words_full (units p)))

  loss_contained : IsContained p (mass_in xs) (share_of p order items measure.Loss set.Full)
  loss_contained = record {
    positive = some_mass;
    within = contains_ratio (outward_ends 1000000 (part_of p order (ends_at items) set.Full)) 1000000
        (mass_where p (λ v. eqb v (full_word p)) (mass_in xs)) (sum_below (words p) (mass_in xs))
        (ratio_of p (mass_in xs) measure.Loss) full_mass refl (outward_encloses set.Full);
  }

  short_contained : IsContained p (mass_in xs) (share_of p order items measure.Short set.OneFree)
  short_contained = record {
    positive = some_mass;
    within = contains_ratio (outward_ends 1000000 (part_of p order (ends_at items) set.OneFree)) 1000000
        (mass_where p (has_one_free p) (mass_in xs)) (sum_below (words p) (mass_in xs))
        (ratio_of p (mass_in xs) measure.Short) refl refl (outward_encloses set.OneFree);
  }

  workload_contained : (n : ℕ) → IsContained p (mass_in xs) (workload_of p order items n)
  workload_contained n = record {
    positive = some_mass;
    within = contains_ratio (outward_ends 1000000 (part_of p order (ends_at items) (set.Busy n))) 1000000
        (mass_where p (λ v. is_busy v n) (mass_in xs)) (sum_below (words p) (mass_in xs))
        (ratio_of p (mass_in xs) (measure.Workload n)) refl refl (outward_encloses (set.Busy n));
  }

  -- the word 0 has two free units, if there are two
  none_busy : level (units p) 0 ≡ 0
  none_busy = sum_none (units p) (λ n. cond (is_busy 0 n) 1 0) (λ n l. ap (λ b. cond (eqb b 1) 1 0) (bit_at-zero n))

  two_free_first : 2 ≤ units p → has_two_free p 0 ≡ true
  two_free_first two = ap (λ k. leb (k + 2) (units p)) none_busy ∙ le_leb 2 (units p) two
    where
      le_leb : (i n : ℕ) → i ≤ n → leb i n ≡ true
      le_leb i n l = grind (arith, nat_tests)

  two_free_mass : 2 ≤ units p → 0 < mass_where p (has_two_free p) (mass_in xs)
  two_free_mass two =
      omega (
        arith,
        none_busy_positive p percent a in_range xs s,
        place_le_sum (words p) (λ v. cond (has_two_free p v) (mass_in xs v) 0) 0 (pow_pos (units p)),
        ap (λ b. cond b (mass_in xs 0) 0) (two_free_first two),
      )

  both_le : (base test : Bool) (k : ℕ) → cond (base && test) k 0 ≤ cond base k 0
  both_le true true k = omega arith
  both_le true false k = omega arith
  both_le false test k = omega arith

  module _ (first second : ℕ) where
    abbrev sent_mass : ℕ → ℕ
    sent_mass j = mass_where p (sends_both p j first second) (mass_in xs)

    abbrev two_mass : ℕ
    two_mass = mass_where p (has_two_free p) (mass_in xs)

    -- the sum of the parts, times the rates of the calls
    sum_encloses : Encloses (both_sent_ends p order (ends_at items) first second)
        (sum_below (atoms p) (λ j. calls_of p j * (2 ^ 62 * sent_mass j))) two_mass
    sum_encloses =
        encloses_total (atoms p) (λ j. scaled_ends (calls_of p j) (part_of p order (ends_at items) (set.BothSent j first second)))
        (λ j. calls_of p j * (2 ^ 62 * sent_mass j)) two_mass
        (λ j l. encloses_scaled (part_of p order (ends_at items) (set.BothSent j first second))
        (scaled_ends (calls_of p j) (part_of p order (ends_at items) (set.BothSent j first second))) (calls_of p j) refl
        (2 ^ 62 * sent_mass j) two_mass (part_encloses (set.BothSent j first second)))

    abbrev flow : ℕ
    flow = sum_below (atoms p) (λ j. calls_of p j * sent_mass j)

    unit_out : sum_below (atoms p) (λ j. calls_of p j * (2 ^ 62 * sent_mass j)) ≡ 2 ^ 62 * flow
    unit_out =
        sum-same (atoms p) (λ j. calls_of p j * (2 ^ 62 * sent_mass j)) (λ j. 2 ^ 62 * (calls_of p j * sent_mass j))
        (λ j l. omega arith)
        ∙ sum-scaled (atoms p) (2 ^ 62) (λ j. calls_of p j * sent_mass j)

    -- not more go to the two than to any
    flow_le : flow ≤ all_calls p * two_mass
    flow_le =
        omega (
          arith,
          sum-le (atoms p) (λ j. calls_of p j * sent_mass j) (λ j. two_mass * calls_of p j)
              (λ j l. omega (
                arith,
                mul-le-mul_left (calls_of p j)
                    (sum-le (words p) (λ v. cond (sends_both p j first second v) (mass_in xs v) 0)
                    (λ v. cond (has_two_free p v) (mass_in xs v) 0)
                    (λ v k. both_le (has_two_free p v) _ (mass_in xs v))),
              )),
          sum-scaled (atoms p) two_mass (calls_of p),
        )

    pair_encloses : Encloses
        (quotient_ends (scaled_ends 1000000 (both_sent_ends p order (ends_at items) first second))
        (exact_ends (2 ^ 62 * all_calls p)) 1000000) (1000000 * flow) (all_calls p * two_mass)
    pair_encloses =
        let found = both_sent_ends p order (ends_at items) first second in
        let above = sum_below (atoms p) (λ j. calls_of p j * (2 ^ 62 * sent_mass j)) in
        let ends = quotient_ends (scaled_ends 1000000 found) (exact_ends (2 ^ 62 * all_calls p)) 1000000 in
        encloses_same ends (2 ^ 62) (1000000 * flow) (all_calls p * two_mass) (1000000 * above) (2 ^ 62 * all_calls p * two_mass)
        (omega arith) (omega (arith, unit_out)) (omega arith)
        (encloses_quotient (scaled_ends 1000000 found) (exact_ends (2 ^ 62 * all_calls p)) ends 1000000 refl
        (1000000 * above) (2 ^ 62 * all_calls p * two_mass) two_mass
        (encloses_scaled found (scaled_ends 1000000 found) 1000000 refl above two_mass sum_encloses)
        (encloses_exact (2 ^ 62 * all_calls p) (exact_ends (2 ^ 62 * all_calls p)) refl two_mass)
        (omega (arith, unit_out, flow_le)))

    pair_contained : first < second → second < units p → IsContained p (mass_in xs) (pair_of p order items first second)
    pair_contained less inside = record {
      positive = mul-pos (a.atoms.calls.low) (two_free_mass (omega arith));
      within = contains_ratio
          (quotient_ends (scaled_ends 1000000 (both_sent_ends p order (ends_at items) first second))
          (exact_ends (2 ^ 62 * all_calls p)) 1000000) 1000000 flow (all_calls p * two_mass)
          (ratio_of p (mass_in xs) (measure.Pair first second)) refl refl pair_encloses;
    }

  pub all_contained : All (IsContained p (mass_in xs)) (measures_of p order items)
  all_contained =
      let IsIn = IsContained p (mass_in xs) in
      let rest = measures_after p order items in
      All-cons IsIn (share_of p order items measure.Loss set.Full) (share_of p order items measure.Short set.OneFree ∷ rest) loss_contained
      (All-cons IsIn (share_of p order items measure.Short set.OneFree) rest short_contained
      (All-append IsIn (map (workload_of p order items) (range_with_len 0 (units p)))
      (flat_map (pairs_from p order items) (range_with_len 0 (units p)))
      (all_range IsIn (workload_of p order items) (units p) (λ n l. workload_contained n))
      (all_flat IsIn (pairs_from p order items) (units p)
      (λ first l. all_from IsIn (pair_of p order items first) (first + 1) (units p - (first + 1))
      (λ second low high. pair_contained first second (omega arith) (omega arith))))))

-- each measure is of the plan's units
pub measures_in_range : (p : PlanParts) (order : WordOrder) (items : List Ends)
    → All (λ e. IsOfUnits p e.measure) (measures_of p order items)
measures_in_range p order items =
    let InRange : PairEnds → Type 0 = λ e. IsOfUnits p e.measure in
    let rest = measures_after p order items in
    All-cons InRange (share_of p order items measure.Loss set.Full) (share_of p order items measure.Short set.OneFree ∷ rest) tt
    (All-cons InRange (share_of p order items measure.Short set.OneFree) rest tt
    (All-append InRange (map (workload_of p order items) (range_with_len 0 (units p)))
    (flat_map (pairs_from p order items) (range_with_len 0 (units p)))
    (all_range InRange (workload_of p order items) (units p) (λ n l. l))
    (all_flat InRange (pairs_from p order items) (units p)
    (λ first l. all_from InRange (pair_of p order items first) (first + 1) (units p - (first + 1))
    (λ second low high. (omega arith, omega arith))))))

pub enclosure_is : (p : PlanParts) (percent : ℕ) (order : WordOrder) (items : List Ends) → ArePairWeights p percent order items
    → (found : List PairEnds) → found ≡ measures_of p order items → IsPairEnclosureOf p percent found
enclosure_is p percent order items w found is = record { order = order; items = items; weights = w; exact = is }

-- one weight for each word
pub one_each_weight : (p : PlanParts) (percent : ℕ) → IsAccepted p → percent ≤ 100 → (order : WordOrder) (items : List Ends)
    → ArePairWeights p percent order items → length items ≡ words p
one_each_weight p percent a in_range order items w =
    (chain_in_range (words p) (pair_top p) (pair_rates p percent order) (pow_pos (units p)) (omega (arith, a.atoms.calls.low))
    (omega (arith, a.atoms.calls.high, a.units.service)) (pair_ranks_descend p percent a in_range order w.ordered.ordered) items
    w.weights).0

pub enclosure_in_range : (p : PlanParts) (percent : ℕ) (found : List PairEnds) → IsPairEnclosureOf p percent found
    → All (λ e. IsOfUnits p e.measure) found
enclosure_in_range p percent found is =
    subst (All (λ e. IsOfUnits p e.measure)) (sym is.exact) (measures_in_range p is.order is.items)

pub enclosure_contains : (p : PlanParts) (percent : ℕ) → IsAccepted p → percent ≤ 100 → (found : List PairEnds)
    → IsPairEnclosureOf p percent found → ContainsSolutions p percent found
enclosure_contains p percent a in_range found is xs s =
    subst (All (IsContained p (mass_in xs))) (sym is.exact)
    (all_contained p percent a in_range is.order is.weights.ordered is.items is.weights.weights xs s)

-- a plan has one list of weights, and one list of measures
pub one_enclosure : (p : PlanParts) (percent : ℕ) (found others : List PairEnds) → IsPairEnclosureOf p percent found
    → IsPairEnclosureOf p percent others → others ≡ found
one_enclosure p percent found others is again =
    let order : again.order ≡ is.order = one_order p is.order again.order is.weights.ordered again.weights.ordered in
    let weights : AreChainWeights (words p) (pair_top p) (pair_rates p percent is.order) again.items =
    subst (λ o. AreChainWeights (words p) (pair_top p) (pair_rates p percent o) again.items) order again.weights.weights in
    let items : again.items ≡ is.items =
    one_chain (words p) (pair_top p) (pair_rates p percent is.order) is.items again.items is.weights.weights weights in
    again.exact ∙ ap (λ o. measures_of p o again.items) order ∙ ap (measures_of p is.order) items ∙ sym is.exact
