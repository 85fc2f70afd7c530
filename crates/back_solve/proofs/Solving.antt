-- The weights as they are made, state by state, from a matrix of which all states but the first are eliminated.
use Rattle.std.proofs.Common.{◌≡◌, ℕ, ◌+◌, ◌^◌, ◌<◌, ◌≤◌, List, [], ◌∷◌, ◌++◌, length, sym, ap, ◌∙◌, add-one, arith}
use Rattle.fixed_interval.specs.Ends.{Ends, exact_ends, product_ends}
use Rattle.fixed_interval.specs.WeightList.{EnclosesAll, PushesShifted, ends_at}
use Rattle.fixed_interval.proofs.Shifts.{map-shifted-zero, no_shift-least}
use Rattle.hyper_model.specs.Solutions.{mass_in}
use Rattle.rate_matrix.specs.Bands.{BandedRates, IsSound, entry}
use Rattle.rate_matrix.specs.Elimination.{Entries, HoldsAll}
use Rattle.rate_matrix.specs.Weights.{AreWeightsOf, weight_of}
use Rattle.back_solve.proofs.WeightLists.{weights-first, weights-next, weights_enclose}

first_high : (w : Ends) → w ≡ exact_ends (2 ^ 52) → w.hi ≤ 2 ^ 52
first_high w is = omega (arith, ap (λ (e : Ends). e.hi) is)

-- the first state's weight needs no shift
pub first-pushed : (entries : Entries) (old items : List Ends) (w : Ends) → old ≡ [] → w ≡ exact_ends (2 ^ 52)
    → PushesShifted old items w → AreWeightsOf entries 1 items
first-pushed entries old items w empty is pushed =
    let none : pushed.power ≡ 0 =
    omega (arith, pushed.least.least 0 (no_shift-least w.hi (first_high w is)).fits) in
    weights-first entries items
    (pushed.items ∙ sym (map-shifted-zero pushed.power (old ++ w ∷ []) none) ∙ ap (λ (xs : List Ends). xs ++ w ∷ []) empty
    ∙ ap (λ (e : Ends). e ∷ []) is)

-- and each next one is made of those before it
pub next-pushed : (entries : Entries) (m : ℕ) (before items : List Ends) (w : Ends) → 0 < m → AreWeightsOf entries m before
    → w ≡ weight_of entries before m → PushesShifted before items w → AreWeightsOf entries (m + 1) items
next-pushed entries m before items w some are is pushed =
    rw (add-one m) (weights-next entries m before items some are (rw is at pushed))

-- the flow into a state, addend by addend
abbrev pub flows_into : Entries → List Ends → ℕ → ℕ → Ends
flows_into entries items m i = product_ends (ends_at items i) (entries i m)

-- a matrix and all its weights
pub all-enclose : (m : BandedRates) (items : List Ends) (ys : List ℕ) → IsSound m → AreWeightsOf (entry m) m.size items
    → length ys ≡ m.size → HoldsAll m.size (entry m) (mass_in ys) → EnclosesAll items ys
all-enclose m items ys sound are count holds =
    weights_enclose m.size m.scale _ (entry m) items ys (omega (arith, sound.scale))
    (record { within = sound.within; live = sound.live }) are count holds
