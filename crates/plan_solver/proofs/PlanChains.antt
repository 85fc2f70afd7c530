-- The chain of a plan's words, said by the plan only: its entries are sound, and its weights enclose every solution.
use Rattle.std.proofs.Common.{◌≡◌, ℕ, ◌+◌, ◌-◌, ◌*◌, ◌^◌, ◌<◌, ◌≤◌, List, [], ◌∷◌, ◌++◌, length, map, All, refl, sym, ap, ap₂, subst, ◌∙◌, arith, length-append}
use Rattle.std.proofs.lemmas.List.{append-nil, get_or-map, length-map}
use Rattle.std.proofs.lemmas.Nat.{mul-le, pow_pos}
use Rattle.std.proofs.Math.Nat.{mul-pos}
use Rattle.fixed_interval.specs.Ends.{Ends, exact_ends, shifted_ends}
use Rattle.fixed_interval.specs.WeightList.{EnclosesAll, IsWeight, ends_at}
use Rattle.hyper_model.specs.declared.kinds.Line.{Line}
use Rattle.hyper_model.specs.declared.kinds.Line.TheVariants as line
use Rattle.hyper_model.specs.declared.parts.PlanParts.{PlanParts}
use Rattle.hyper_model.specs.Plans.{units, all_calls, all_service, split, IsAccepted}
use Rattle.hyper_model.specs.Solutions.{IsSolution, IsTail, mass_in}
use Rattle.hyper_model.specs.Tables.{IsTableSolution, between_states}
use Rattle.hyper_model.specs.Words.{words, full_word}
use Rattle.hyper_model.proofs.PlanLaws.{stable_of}
use Rattle.hyper_model.proofs.Tables.{solves_between}
use Rattle.hyper_model.proofs.Takers.{split_le, split_positive}
use Rattle.busy_words.specs.Order.{WordOrder}
use Rattle.busy_words.specs.WeightParts.{EnclosesSolution, IsOrderOf, places, places_on, tail_masses}
use Rattle.busy_words.proofs.Ordering.{last_word}
use Rattle.rate_matrix.specs.Bands.{BandedRates, cap, entry}
use Rattle.rate_matrix.specs.Elimination.{AreSoundEntries, HoldsAll, SameEntries, entries_left_after}
use Rattle.rate_matrix.specs.Weights.{AreWeightsOf}
use Rattle.rate_matrix.specs.WordChains.{by_rank, word_rates, word_top}
use Rattle.rate_matrix.proofs.ExactMatrix.{scale_wide}
use Rattle.rate_matrix.proofs.WordChains.{chain_balance, chain_descends}
use Rattle.state_reduction.specs.Laws.{Begins}
use Rattle.state_reduction.specs.Reductions.{IsReduced}
use Rattle.state_reduction.proofs.Runs.{apart_rate, begins_sound, holds_every_solution}
use Rattle.state_reduction.proofs.Soundness.{is_determined, stays_sound}
use Rattle.back_solve.proofs.NextWeight.{weight_at}
use Rattle.back_solve.proofs.WeightLists.{depend_on_entries, weights_enclose, weights_in_range}
use Rattle.queue_tail.specs.Tail.{IsTailOf, tail_weight}
use Rattle.queue_tail.proofs.Tail.{tail_encloses}
use Rattle.plan_solver.specs.PlanWeights.{ArePlanWeights, AreWeightsOn, AreWordWeights, WeighPlan, first_entries, last_entries, word_caps, word_scale}
use Rattle.plan_solver.specs.Solvers.{AreFilled, IsSolverOf, SolverParts}

module _ (p : PlanParts) (a : IsAccepted p) (order : WordOrder) (o : IsOrderOf p order) where
  some_states : 0 < words p
  some_states = pow_pos (units p)

  top_least : 1 ≤ word_top p
  top_least =
      mul-pos (split_positive p)
      (let some : 0 < all_calls p + all_service p = omega (arith, a.atoms.calls.low) in some)

  top_most : word_top p ≤ 2 ^ 36
  top_most =
      omega (
        arith,
        mul-le (split p) (all_calls p + all_service p) 27720 2000000 (split_le p a.units.number.high)
            (omega (arith, a.atoms.calls.high, a.units.service)),
      )

  pub wide_scale : 2 ^ 26 ≤ word_scale p
  wide_scale = scale_wide (word_top p) top_least top_most

  some_scale : 1 ≤ word_scale p
  some_scale = omega (arith, wide_scale)

  pub begins : Begins (words p) (word_scale p) (word_rates p order) (word_caps p order) (first_entries p order)
  unfolding first_entries word_caps
  begins = record {
    scaled = some_scale;
    descends = chain_descends p order a o.ordered;
    exact = record {
      exact = λ i j l k ne. ap (λ r. exact_ends (word_scale p * r)) (apart_rate i j (word_rates p order i j) ne);
    };
    outflows = record { each = λ i l. refl };
  }

  last_state : words p - 1 < words p
  last_state = omega (arith, some_states)

  pub sound : AreSoundEntries (words p) (word_scale p) (word_caps p order) (last_entries p order)
  sound =
      (stays_sound (words p) (word_scale p) (word_caps p order) (first_entries p order) (last_entries p order) (words p - 1)
      last_state (begins_sound (words p) (word_scale p) (word_rates p order) (word_caps p order) (first_entries p order) begins)
      (record { same = λ i j l k ne. refl })).0

  pub in_range : (items : List Ends) → AreWordWeights p order items → (length items ≡ words p) × All IsWeight items
  in_range items are =
      weights_in_range (words p) (word_scale p) (words p) (word_caps p order) (last_entries p order) items some_scale sound
      (omega arith) are

  -- one weight for each word, and one more if calls wait
  pub one_each : (items : List Ends) → AreWeightsOn p.line p order items → length items ≡ places p
  one_each items = on_line p.line
    where
      on_line : (l : Line) → AreWeightsOn l p order items → length items ≡ places_on l p
      on_line line.Zero are = (in_range items are).0
      on_line line.Infinite are = ap (λ (xs : List Ends). length xs) are.2.items ∙ longer are.0 are.2.power (in_range are.0 are.1).0
        where
          longer : (before : List Ends) (power : ℕ) → length before ≡ words p
              → length (map (shifted_ends power) (before ++ tail_weight (all_calls p) (all_service p) (ends_at before (length before - 1)) ∷ [])) ≡ words p + 1
          longer before power is =
              length-map (before ++ tail_weight (all_calls p) (all_service p) (ends_at before (length before - 1)) ∷ []) (shifted_ends power)
              ∙ length-append before (tail_weight (all_calls p) (all_service p) (ends_at before (length before - 1)) ∷ [])
              ∙ ap (λ n. n + 1) is

  module _ (xs : List ℕ) (z : ℕ) (s : IsSolution p xs z) where
    ranked : IsTableSolution (words p) (word_rates p order) (by_rank order xs)
    ranked = (chain_balance p order a o.ordered xs s.words.one_each).0 s.words

    pub holds : HoldsAll (words p) (last_entries p order) (mass_in (by_rank order xs))
    holds =
        holds_every_solution (words p) (word_scale p) (word_rates p order) (word_caps p order) (first_entries p order)
        (last_entries p order) (by_rank order xs) begins (record { same = λ i j l k ne. refl })
        (record {
          one_each = ranked.one_each;
          solves = (solves_between (words p) (word_rates p order) (mass_in (by_rank order xs))).0 ranked.solves;
        })

    words_enclose : (items : List Ends) → AreWordWeights p order items → EnclosesAll items (by_rank order xs)
    words_enclose items are =
        weights_enclose (words p) (word_scale p) (word_caps p order) (last_entries p order) items (by_rank order xs) some_scale
        sound are ranked.one_each holds

    tail_is : p.line ≡ line.Infinite → IsTailOf (all_calls p) (all_service p) (by_rank order xs) z
    tail_is is =
        subst (λ l. IsTail l p xs z) is s.tail
        ∙ ap (λ m. all_calls p * m) (sym (
        ap (λ n. mass_in (by_rank order xs) (n - 1)) ranked.one_each
        ∙ get_or-map (mass_in xs) order.words (full_word p) 0 0 (omega (arith, o.ordered.one_each, some_states))
        ∙ ap (mass_in xs) (last_word (units p) order.words o.ordered)))

    pub encloses : (items : List Ends) → AreWeightsOn p.line p order items → EnclosesSolution p order items xs z
    encloses items are = record { solves = s; encloses = on_line p.line refl are }
      where
        on_line : (l : Line) → p.line ≡ l → AreWeightsOn l p order items
            → EnclosesAll items (by_rank order xs ++ tail_masses l z)
        on_line line.Zero is are =
            subst (λ ys. EnclosesAll items ys) (sym (append-nil (by_rank order xs))) (words_enclose items are)
        on_line line.Infinite is are =
            let before = are.0 in
            let ranges = in_range are.0 are.1 in
            let last : length are.0 - 1 < length are.0 = omega (arith, ranges.0, some_states) in
            tail_encloses (all_calls p) (all_service p) are.0 items (stable_of p a is) (omega (arith, last))
            (weight_at are.0 (length are.0 - 1) last ranges.1).0 are.2 (by_rank order xs) z (tail_is is)
            (words_enclose are.0 are.1)

-- the weights of an eliminated matrix are those of the plan for which it was made
module _ (p : PlanParts) (s : SolverParts) (is : IsSolverOf p s) (m : BandedRates) where
  begun : SameEntries (words p) (entry s.matrix) (first_entries p s.order)
  unfolding first_entries
  begun = record {
    same = λ i j l k ne.
        is.rates.entries i j l k
        ∙ ap (λ c. exact_ends (c * between_states (word_rates p s.order) i j)) is.rates.scale;
  }

  capped : (i : ℕ) → i < words p → cap s.matrix i ≡ word_caps p s.order i
  unfolding word_caps
  capped i l = ap₂ (λ c f. c * f) is.rates.scale (is.rates.outflows i l)

  left_is : SameEntries (words p) (entries_left_after (entry s.matrix) (cap s.matrix) (words p) (words p - 1)) (last_entries p s.order)
  left_is =
      is_determined (words p) (entry s.matrix) (first_entries p s.order) (cap s.matrix) (word_caps p s.order) (words p - 1)
      (omega (arith, pow_pos (units p))) begun capped

  module _ (size : m.size ≡ s.matrix.size)
      (left : (i j : ℕ) → i < s.matrix.size → j < s.matrix.size
      → entry m i j ≡ entries_left_after (entry s.matrix) (cap s.matrix) s.matrix.size (s.matrix.size - 1) i j) where
    same_size : m.size ≡ words p
    same_size = size ∙ is.rates.size

    ended : SameEntries (words p) (entry m) (last_entries p s.order)
    ended = record {
      same = λ i j l k ne.
          left i j (omega (arith, is.rates.size)) (omega (arith, is.rates.size))
          ∙ ap (λ n. entries_left_after (entry s.matrix) (cap s.matrix) n (n - 1) i j) is.rates.size
          ∙ left_is.same i j l k ne;
    }

    of_words : (items : List Ends) → AreWeightsOf (entry m) m.size items → AreWordWeights p s.order items
    of_words items are =
        depend_on_entries (words p) (words p) (entry m) (last_entries p s.order) items (omega arith) ended
        (subst (λ n. AreWeightsOf (entry m) n items) same_size are)

    solved : (items : List Ends) → AreFilled s.line s.calls s.service m items → ArePlanWeights p s.order items
    solved items are = record {
      ordered = is.ordered;
      weights = on_line p.line
          (subst (λ l. AreFilled l (all_calls p) (all_service p) m items) is.line
          (subst (λ c. AreFilled s.line c (all_service p) m items) is.calls
          (subst (λ c. AreFilled s.line s.calls c m items) is.service are)));
    }
      where
        on_line : (l : Line) → AreFilled l (all_calls p) (all_service p) m items → AreWeightsOn l p s.order items
        on_line line.Zero are = of_words items are
        on_line line.Infinite are = (are.0, of_words are.0 are.1, are.2)

  pub weigh_plan : IsReduced s.matrix m → (items : List Ends) → AreFilled s.line s.calls s.service m items
      → WeighPlan p s.order items
  weigh_plan reduced items are =
      let weights : ArePlanWeights p s.order items = solved reduced.frame.size reduced.entries items are in
      record {
        weights = weights;
        encloses = λ xs z x. encloses p is.accepted s.order is.ordered xs z x items weights.weights;
      }
