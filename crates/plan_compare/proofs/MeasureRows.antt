-- The verdicts on a measure, and those on the measures after it.
use Rattle.std.proofs.Common.{◌≡◌, ℕ, ◌+◌, ◌≤◌, ◌∙◌, sym, ap, arith, List, ◌++◌, length, length-append, map, take, drop, Some}
use Rattle.std.specs.Prelude.{slice_get}
use Rattle.std.specs.List.{flat_map}
use Rattle.std.proofs.lemmas.List.{length-map, map-append}
use Rattle.hyper_model.specs.declared.kinds.Measure.{Measure}
use Rattle.plan_compare.specs.Verdicts.{PlanPair, pairs_of}
use Rattle.plan_compare.specs.declared.verdict_list.Verdict.{Verdict}
use Rattle.text_lines.proofs.Pieces.{drop_at}
use Rattle.plan_compare.proofs.Pieces.{drop_piece, take_piece}

module _ (tell : PlanPair → Verdict) (n : ℕ) (measures : List Measure) (k : ℕ) (m : Measure) (at : slice_get measures k ≡ Some m)
    (rest : List Verdict) (is : rest ≡ map tell (flat_map (pairs_of n) (drop k measures)))
    (count : ℕ) (counts : count ≡ length (pairs_of n m)) where
  parts : rest ≡ map tell (pairs_of n m) ++ map tell (flat_map (pairs_of n) (drop (k + 1) measures))
  parts =
      is
      ∙ ap (λ ms. map tell (flat_map (pairs_of n) ms)) (drop_at measures k m at)
      ∙ map-append tell (pairs_of n m) (flat_map (pairs_of n) (drop (k + 1) measures))

  size : count ≡ length (map tell (pairs_of n m))
  size = counts ∙ sym (length-map (pairs_of n m) tell)

  pub verdicts_fit : count ≤ length rest
  verdicts_fit =
      omega (
        arith,
        ap length parts,
        size,
        length-append (map tell (pairs_of n m)) (map tell (flat_map (pairs_of n) (drop (k + 1) measures))),
      )

  pub verdicts_here : take count rest ≡ map tell (pairs_of n m)
  verdicts_here =
      ap (λ j. take j rest) size
      ∙ ap (λ vs. take (length (map tell (pairs_of n m))) vs) parts
      ∙ take_piece (map tell (pairs_of n m)) (map tell (flat_map (pairs_of n) (drop (k + 1) measures)))

  pub verdicts_later : drop count rest ≡ map tell (flat_map (pairs_of n) (drop (k + 1) measures))
  verdicts_later =
      ap (λ j. drop j rest) size
      ∙ ap (λ vs. drop (length (map tell (pairs_of n m))) vs) parts
      ∙ drop_piece (map tell (pairs_of n m)) (map tell (flat_map (pairs_of n) (drop (k + 1) measures)))
