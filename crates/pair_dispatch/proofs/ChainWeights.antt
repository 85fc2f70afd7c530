-- The weights of any chain in which each state but the first has a rate to an earlier one: they enclose every solution
-- of its balance, and are one list.
use Rattle.std.proofs.Common.{◌≡◌, ℕ, ◌+◌, ◌-◌, ◌*◌, ◌^◌, ◌<◌, ◌≤◌, List, length, All, refl, ap, ap₂, subst, ◌∙◌, arith}
use Rattle.fixed_interval.specs.Ends.{Ends, exact_ends}
use Rattle.fixed_interval.specs.WeightList.{EnclosesAll, IsWeight}
use Rattle.hyper_model.specs.Solutions.{mass_in}
use Rattle.hyper_model.specs.Tables.{RateTable, Descends, IsTableSolution, between_states}
use Rattle.hyper_model.proofs.Tables.{solves_between}
use Rattle.rate_matrix.specs.Bands.{BandedRates, IsMatrixOf, cap, entry}
use Rattle.rate_matrix.specs.Elimination.{AreSoundEntries, HoldsAll, SameEntries, entries_left_after}
use Rattle.rate_matrix.specs.Weights.{AreWeightsOf}
use Rattle.rate_matrix.proofs.ExactMatrix.{scale_wide}
use Rattle.state_reduction.specs.Laws.{Begins}
use Rattle.state_reduction.specs.Reductions.{IsReduced}
use Rattle.state_reduction.proofs.Runs.{apart_rate, begins_sound, holds_every_solution}
use Rattle.state_reduction.proofs.Soundness.{is_determined, stays_sound}
use Rattle.back_solve.proofs.WeightLists.{are_determined, depend_on_entries, weights_enclose, weights_in_range}
use Rattle.pair_dispatch.specs.ChainWeights.{AreChainWeights, caps_begun, chain_scale, entries_begun, entries_ended}

module _ (size top : ℕ) (rates : RateTable) (some : 0 < size) (least : 1 ≤ top) (most : top ≤ 2 ^ 36)
    (descends : Descends size rates) where
  some_scale : 1 ≤ chain_scale top
  some_scale = omega (arith, scale_wide top least most)

  begins : Begins size (chain_scale top) rates (caps_begun size top rates) (entries_begun top rates)
  unfolding entries_begun caps_begun
  begins = record {
    scaled = some_scale;
    descends = descends;
    exact = record {
      exact = λ i j l k ne. ap (λ r. exact_ends (chain_scale top * r)) (apart_rate i j (rates i j) ne);
    };
    outflows = record { each = λ i l. refl };
  }

  sound : AreSoundEntries size (chain_scale top) (caps_begun size top rates) (entries_ended size top rates)
  sound =
      (stays_sound size (chain_scale top) (caps_begun size top rates) (entries_begun top rates)
      (entries_ended size top rates) (size - 1) (omega (arith, some))
      (begins_sound size (chain_scale top) rates (caps_begun size top rates) (entries_begun top rates) begins)
      (record { same = λ i j l k ne. refl })).0

  pub chain_in_range : (items : List Ends) → AreChainWeights size top rates items → (length items ≡ size) × All IsWeight items
  chain_in_range items are =
      weights_in_range size (chain_scale top) size (caps_begun size top rates) (entries_ended size top rates) items some_scale
      sound (omega arith) are

  holds : (ys : List ℕ) → IsTableSolution size rates ys → HoldsAll size (entries_ended size top rates) (mass_in ys)
  holds ys s =
      holds_every_solution size (chain_scale top) rates (caps_begun size top rates) (entries_begun top rates)
      (entries_ended size top rates) ys begins (record { same = λ i j l k ne. refl })
      (record { one_each = s.one_each; solves = (solves_between size rates (mass_in ys)).0 s.solves })

  pub chain_encloses : (items : List Ends) → AreChainWeights size top rates items → (ys : List ℕ)
      → IsTableSolution size rates ys → EnclosesAll items ys
  chain_encloses items are ys s =
      weights_enclose size (chain_scale top) (caps_begun size top rates) (entries_ended size top rates) items ys some_scale
      sound are s.one_each (holds ys s)

  -- the weights of an eliminated matrix are those of the chain for which it was made
  module _ (old new : BandedRates) (is : IsMatrixOf size rates top old) (reduced : IsReduced old new) where
    begun : SameEntries size (entry old) (entries_begun top rates)
    unfolding entries_begun
    begun = record {
      same = λ i j l k ne.
          is.entries i j l k ∙ ap (λ c. exact_ends (c * between_states rates i j)) is.scale;
    }

    capped : (i : ℕ) → i < size → cap old i ≡ caps_begun size top rates i
    unfolding caps_begun
    capped i l = ap₂ (λ c f. c * f) is.scale (is.outflows i l)

    ended : SameEntries size (entry new) (entries_ended size top rates)
    ended = record {
      same = λ i j l k ne.
          reduced.entries i j (omega (arith, is.size)) (omega (arith, is.size))
          ∙ ap (λ n. entries_left_after (entry old) (cap old) n (n - 1) i j) is.size
          ∙ (is_determined size (entry old) (entries_begun top rates) (cap old) (caps_begun size top rates) (size - 1)
          (omega (arith, some)) begun capped).same i j l k ne;
    }

    same_size : new.size ≡ size
    same_size = reduced.frame.size ∙ is.size

    pub matrix_weights : (items : List Ends) → AreWeightsOf (entry new) new.size items → AreChainWeights size top rates items
    matrix_weights items are =
        depend_on_entries size size (entry new) (entries_ended size top rates) items (omega arith) ended
        (subst (λ n. AreWeightsOf (entry new) n items) same_size are)

-- there is one such list
pub one_chain : (size top : ℕ) (rates : RateTable) (items others : List Ends) → AreChainWeights size top rates items
    → AreChainWeights size top rates others → others ≡ items
one_chain size top rates items others are again =
    are_determined size (entries_ended size top rates) others items again are
