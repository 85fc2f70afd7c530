-- The list of weights of the first states: how it is made, how long it is, what it encloses, and that there is one.
use Rattle.std.proofs.Common.{◌≡◌, ℕ, zero, suc, ◌+◌, ◌*◌, ◌/◌, ◌^◌, ◌<◌, ◌≤◌, List, [], ◌∷◌, ◌++◌, All, map, take, length, slice_index, length-append, refl, sym, ap, subst, ◌∙◌, arith}
use Rattle.std.specs.Int.{div_ceil}
use Rattle.std.proofs.lemmas.List.{get_or-take, length-map, length-take-le, take_all}
use Rattle.std.proofs.Math.Seq.{take-suc}
use Rattle.std.proofs.lemmas.List.Elements.{All-map, All-push, All-weaker}
use Rattle.fixed_interval.specs.Ends.{Ends, between, exact_ends, shifted_ends}
use Rattle.fixed_interval.specs.WeightList.{EnclosesAll, IsWeight, PushesShifted, ends_at}
use Rattle.fixed_interval.proofs.Shifts.{IsWeight-shifted, encloses_one, encloses_pushed, shifted-ordered}
use Rattle.hyper_model.specs.Solutions.{mass_in}
use Rattle.hyper_model.proofs.Sums.{sum-same}
use Rattle.rate_matrix.specs.Elimination.{AreSoundEntries, Entries, HoldsAll, SameEntries}
use Rattle.busy_words.specs.Algebra.{total_ends}
use Rattle.rate_matrix.specs.Weights.{AreWeightsOf, inflow_ends, weight_of}
use Rattle.rate_matrix.proofs.Totals.{between-same}
use Rattle.rate_matrix.proofs.Sameness.{leaving-same}
use Rattle.back_solve.specs.Laws.{AreWeightsDetermined, DependOnEntries, WeightsEnclose, WeightsInRange}
use Rattle.back_solve.proofs.NextWeight.{is_ready, weight_of-encloses, weight_of-ordered}

-- the first state's weight
pub weights-first : (entries : Entries) (items : List Ends) → items ≡ exact_ends (2 ^ 52) ∷ [] → AreWeightsOf entries 1 items
unfolding AreWeightsOf
weights-first entries items first = first

-- and each next one's
pub weights-next : (entries : Entries) (m : ℕ) (before items : List Ends) → 0 < m → AreWeightsOf entries m before
    → PushesShifted before items (weight_of entries before m) → AreWeightsOf entries (suc m) items
unfolding AreWeightsOf
weights-next entries zero before items some are pushed = absurd (omega arith)
weights-next entries (suc m) before items some are pushed = (before, are, pushed)

pub pushed-count : (old new : List Ends) (w : Ends) → PushesShifted old new w → length new ≡ length old + 1
pushed-count old new w pushed =
    ap (λ l. length l) pushed.items ∙ length-map (old ++ w ∷ []) (shifted_ends pushed.power) ∙ length-append old (w ∷ [])

pub pushed-in_range : (old new : List Ends) (w : Ends) → All IsWeight old → w.lo ≤ w.hi → PushesShifted old new w
    → All IsWeight new
pushed-in_range old new w weights ordered pushed =
    rw pushed.items
    (All-map IsWeight (shifted_ends pushed.power) (old ++ w ∷ [])
    (All-push (λ e. IsWeight (shifted_ends pushed.power e)) old w
    (All-weaker IsWeight (λ e. IsWeight (shifted_ends pushed.power e)) (IsWeight-shifted pushed.power) old weights)
    (shifted-ordered pushed.power w.lo w.hi ordered, pushed.least.fits)))

pub weights_in_range : WeightsInRange
unfolding AreWeightsOf
weights_in_range size least zero caps entries items some sound within are =
    rw are (refl, λ k d inside. absurd (omega arith))
weights_in_range size least (suc zero) caps entries items some sound within are =
    rw are
    (refl, All-push IsWeight [] (exact_ends (2 ^ 52)) (λ k d inside. absurd (omega arith)) (omega arith, omega arith))
weights_in_range size least (suc (suc m)) caps entries items some sound within are =
    let rest = weights_in_range size least (suc m) caps entries are.0 some sound (omega arith) are.1 in
    let ready = is_ready size least (suc m) caps entries are.0 some sound (omega arith) (omega arith) rest.0 rest.1 in (
      omega (arith, pushed-count are.0 items (weight_of entries are.0 (suc m)) are.2, rest.0),
      pushed-in_range are.0 items (weight_of entries are.0 (suc m)) rest.1
          (weight_of-ordered (suc m) entries are.0 ready) are.2,
    )

nothing_encloses : (ys : List ℕ) → length ys ≡ 0 → EnclosesAll [] ys
nothing_encloses ys none = record {
  same_length = sym none;
  in_ratio = λ i k first second. absurd (omega arith);
  positive = λ k inside some. absurd (omega arith);
}

first_encloses : (ys : List ℕ) → 0 < length ys → EnclosesAll (exact_ends (2 ^ 52) ∷ []) (take 1 ys)
first_encloses [] some = absurd (omega arith)
first_encloses (y ∷ ys) some = encloses_one (2 ^ 52) y (omega arith)

-- the weights of the first n states enclose their masses
weights_so_far : (size least n : ℕ) (caps : ℕ → ℕ) (entries : Entries) (items : List Ends) (ys : List ℕ)
    → 1 ≤ least → AreSoundEntries size least caps entries → n ≤ size → AreWeightsOf entries n items
    → length ys ≡ size → HoldsAll size entries (mass_in ys) → EnclosesAll items (take n ys)
unfolding AreWeightsOf
weights_so_far size least zero caps entries items ys some sound within are count holds =
    rw are (nothing_encloses (take 0 ys) (length-take-le 0 ys (omega arith)))
weights_so_far size least (suc zero) caps entries items ys some sound within are count holds =
    rw are (first_encloses ys (omega (arith, count)))
weights_so_far size least (suc (suc m)) caps entries items ys some sound within are count holds =
    let e = weights_so_far size least (suc m) caps entries are.0 ys some sound (omega arith) are.1 count holds in
    let rest = weights_in_range size least (suc m) caps entries are.0 some sound (omega arith) are.1 in
    let ready = is_ready size least (suc m) caps entries are.0 some sound (omega arith) (omega arith) rest.0 rest.1 in
    let held = holds.each (suc m) (omega arith) (omega arith) in
    let high = sum-same (suc m) (λ i. slice_index (take (suc m) ys) i * (entries i (suc m)).hi)
    (λ i. slice_index ys i * (entries i (suc m)).hi)
    (λ i l. ap (λ a. a * (entries i (suc m)).hi) (get_or-take (suc m) ys i 0 l)) in
    let low = sum-same (suc m) (λ i. slice_index (take (suc m) ys) i * (entries i (suc m)).lo)
    (λ i. slice_index ys i * (entries i (suc m)).lo)
    (λ i l. ap (λ a. a * (entries i (suc m)).lo) (get_or-take (suc m) ys i 0 l)) in
    rw (take-suc ys (suc m) 0 (omega (arith, count)))
    (encloses_pushed are.0 items (weight_of entries are.0 (suc m)) are.2 (take (suc m) ys ++ slice_index ys (suc m) ∷ [])
    (weight_of-encloses (suc m) entries are.0 (take (suc m) ys) (slice_index ys (suc m)) ready e
    (omega (arith, held.least, high)) (omega (arith, held.most, low))))

pub weights_enclose : WeightsEnclose
weights_enclose size least caps entries items ys some sound are count holds =
    let whole : take size ys ≡ ys = take_all size ys (omega (arith, count)) in
    rw whole at (weights_so_far size least size caps entries items ys some sound (omega arith) are count holds)

-- the least shift is one, and so is what a push makes
pub pushed-one : (old new other : List Ends) (w : Ends) → PushesShifted old new w → PushesShifted old other w → new ≡ other
pushed-one old new other w pushed again =
    let first : pushed.power ≤ again.power = pushed.least.least again.power again.least.fits in
    let second : again.power ≤ pushed.power = again.least.least pushed.power pushed.least.fits in
    let same : pushed.power ≡ again.power = omega arith in
    pushed.items ∙ ap (λ p. map (shifted_ends p) (old ++ w ∷ [])) same ∙ sym again.items

pub are_determined : AreWeightsDetermined
unfolding AreWeightsOf
are_determined zero entries items others are again = are ∙ sym again
are_determined (suc zero) entries items others are again = are ∙ sym again
are_determined (suc (suc m)) entries items others are again =
    let before : are.0 ≡ again.0 = are_determined (suc m) entries are.0 again.0 are.1 again.1 in
    let pushed : PushesShifted are.0 others (weight_of entries are.0 (suc m)) =
    subst (λ b. PushesShifted b others (weight_of entries b (suc m))) (sym before) again.2 in
    pushed-one are.0 items others (weight_of entries are.0 (suc m)) are.2 pushed

-- the next weight depends on the entries between different states only
pub weight_of-same : (size : ℕ) (a b : Entries) → SameEntries size a b → (items : List Ends) (m : ℕ) → m < size
    → weight_of a items m ≡ weight_of b items m
weight_of-same size a b same items m inside =
    let out = leaving-same size a b same m inside in
    let low = sum-same m (λ i. (ends_at items i).lo * (a i m).lo) (λ i. (ends_at items i).lo * (b i m).lo)
    (λ i l. ap (λ (e : Ends). (ends_at items i).lo * e.lo) (same.same i m (omega arith) inside (omega arith))) in
    let high = sum-same m (λ i. (ends_at items i).hi * (a i m).hi) (λ i. (ends_at items i).hi * (b i m).hi)
    (λ i l. ap (λ (e : Ends). (ends_at items i).hi * e.hi) (same.same i m (omega arith) inside (omega arith))) in
    between-same _ _ _ _
    (ap (λ f. f / (total_ends m (a m)).hi) low ∙ ap (λ (e : Ends). (inflow_ends b items m).lo / e.hi) out)
    (ap (λ f. div_ceil f (total_ends m (a m)).lo) high ∙ ap (λ (e : Ends). div_ceil (inflow_ends b items m).hi e.lo) out)

pub depend_on_entries : DependOnEntries
unfolding AreWeightsOf
depend_on_entries size zero a b items within same are = are
depend_on_entries size (suc zero) a b items within same are = are
depend_on_entries size (suc (suc m)) a b items within same are = (
  are.0,
  depend_on_entries size (suc m) a b are.0 (omega arith) same are.1,
  subst (λ w. PushesShifted are.0 items w) (weight_of-same size a b same are.0 (suc m) (omega arith)) are.2,
)
