-- The rows of verdicts, piece by piece.
use Rattle.std.proofs.Common.{◌≡◌, ℕ, ◌+◌, ◌-◌, ◌<◌, ◌∙◌, sym, ap, refl, arith, List, [], ◌∷◌, ◌++◌, length, length-take, take, get_or, rules, append_assoc, append-nil}
use Rattle.std.specs.List.{flat_map, range_with_len}
use Rattle.hyper_model.specs.declared.kinds.Measure.{Measure}
use Rattle.plan_compare.specs.Comparisons.{verdict_row, verdict_rows}
use Rattle.plan_compare.specs.Verdicts.{PlanPair, pairs_from}
use Rattle.plan_compare.specs.declared.verdict_list.Verdict.{Verdict}
use Rattle.std.proofs.lemmas.List.{take_more}
use Rattle.text_lines.proofs.Pieces.{one_gained, one_moved}
use Rattle.plan_compare.proofs.Pairs.{pair, pairs_from-length, pairs_from-next, pairs_left}

regroup : (a b c : List ℕ) → a ++ (b ++ c) ≡ a ++ b ++ c
regroup a b c = search (rules, append_assoc)

-- as many pairs as verdicts, and further ones after both
pub verdict_rows-append : (pairs later : List PlanPair) (verdicts further : List Verdict) → length pairs ≡ length verdicts
    → verdict_rows (pairs ++ later) (verdicts ++ further) ≡ verdict_rows pairs verdicts ++ verdict_rows later further
verdict_rows-append [] later [] further e = refl
verdict_rows-append [] later (v ∷ vs) further e = absurd (omega arith)
verdict_rows-append (c ∷ cs) later [] further e = absurd (omega arith)
verdict_rows-append (c ∷ cs) later (v ∷ vs) further e =
    ap (λ t. verdict_row c v ++ t) (verdict_rows-append cs later vs further (omega arith))
    ∙ regroup (verdict_row c v) (verdict_rows cs vs) (verdict_rows later further)

pub verdict_rows-one : (pairs : List PlanPair) (c : PlanPair) (verdicts : List Verdict) (v : Verdict) → length pairs ≡ length verdicts
    → verdict_rows (pairs ++ c ∷ []) (verdicts ++ v ∷ []) ≡ verdict_rows pairs verdicts ++ verdict_row c v
verdict_rows-one pairs c verdicts v e =
    verdict_rows-append pairs (c ∷ []) verdicts (v ∷ []) e ∙ ap (λ t. verdict_rows pairs verdicts ++ t) (append-nil (verdict_row c v))

-- the rows of a plan with one more after it
pub row_next : (m : Measure) (a k : ℕ) (verdicts : List Verdict) (d : Verdict) (old text new : List ℕ) → k < length verdicts
    → text ≡ old ++ verdict_rows (pairs_from (a + 1 + k) m a) (take k verdicts)
    → new ≡ text ++ verdict_row (pair m a (a + 1 + k)) (get_or verdicts k d)
    → new ≡ old ++ verdict_rows (pairs_from (a + 1 + (k + 1)) m a) (take (k + 1) verdicts)
row_next m a k verdicts d old text new h e f =
    let n : a + 1 + (k + 1) ≡ a + 1 + k + 1 = omega arith in
    let before : length (pairs_from (a + 1 + k) m a) ≡ length (take k verdicts) =
    pairs_from-length (a + 1 + k) m a ∙ omega (arith, length-take k verdicts) in
    one_gained old text (verdict_rows (pairs_from (a + 1 + k) m a) (take k verdicts)) (verdict_row (pair m a (a + 1 + k)) (get_or verdicts k d))
    (verdict_rows (pairs_from (a + 1 + (k + 1)) m a) (take (k + 1) verdicts)) new e f
    (ap (λ j. verdict_rows (pairs_from j m a) (take (k + 1) verdicts)) n
    ∙ ap (λ cs. verdict_rows cs (take (k + 1) verdicts)) (pairs_from-next m a (a + 1 + k) (omega arith))
    ∙ ap (λ vs. verdict_rows (pairs_from (a + 1 + k) m a ++ pair m a (a + 1 + k) ∷ []) vs) (take_more verdicts k d h)
    ∙ verdict_rows-one (pairs_from (a + 1 + k) m a) (pair m a (a + 1 + k)) (take k verdicts) (get_or verdicts k d) before)

-- the rows of one more plan with all after it
pub rows_next : (n : ℕ) (m : Measure) (a : ℕ) (rest here later : List Verdict) (text new whole : List ℕ) → a < n
    → length here ≡ n - (a + 1) → rest ≡ here ++ later
    → new ≡ text ++ verdict_rows (pairs_from (a + 1 + length here) m a) here
    → text ++ verdict_rows (flat_map (pairs_from n m) (range_with_len a (n - a))) rest ≡ whole
    → new ++ verdict_rows (flat_map (pairs_from n m) (range_with_len (a + 1) (n - (a + 1)))) later ≡ whole
rows_next n m a rest here later text new whole h size e f g =
    let after = flat_map (pairs_from n m) (range_with_len (a + 1) (n - (a + 1))) in
    let all : a + 1 + length here ≡ n = omega arith in
    one_moved text (verdict_rows (pairs_from n m a) here) (verdict_rows (flat_map (pairs_from n m) (range_with_len a (n - a))) rest)
    (verdict_rows after later) new whole
    (ap (λ cs. verdict_rows cs rest) (pairs_left n m a h)
    ∙ ap (λ vs. verdict_rows (pairs_from n m a ++ after) vs) e
    ∙ verdict_rows-append (pairs_from n m a) after here later (pairs_from-length n m a ∙ sym size))
    (f ∙ ap (λ j. text ++ verdict_rows (pairs_from j m a) here) all) g
