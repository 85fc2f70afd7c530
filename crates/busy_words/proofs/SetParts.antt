-- Where weights enclose numbers up to one common factor, the part of some of them encloses the share that their
-- numbers have in all.
use Rattle.std.proofs.Common.{◌≡◌, ℕ, ◌+◌, ◌*◌, ◌<◌, ◌≤◌, Bool, not, cond, refl, sym, ap, ap₂, ◌∙◌, arith}
use Rattle.hyper_model.specs.Sums.{sum_below}
use Rattle.hyper_model.proofs.Sums.{sum-same, sum-scaled, sum_split, positive_place, cond_scaled}
use Rattle.fixed_interval.specs.Ends.{Ends, Encloses, between, scaled_ends, share_ends}
use Rattle.fixed_interval.proofs.Rounding.{encloses_same, encloses_scaled, encloses_ratio, encloses_share}
use Rattle.fixed_interval.proofs.Scaled.{Holds, AreScaled, scaled_by}
use Rattle.busy_words.specs.Algebra.{where_ends}
use Rattle.busy_words.specs.Parts.{weighed_ends, weighed_numbers, divided_ends, part, set_ends, set_part}
use Rattle.busy_words.proofs.Algebra.{encloses_total, encloses_where}

pub scaled_in_all : (n : ℕ) (w : ℕ → Ends) (y : ℕ → ℕ) → Holds n w y → 0 < sum_below n y → AreScaled n w y
scaled_in_all n w y h some = let m = positive_place n y some in scaled_by n w y h m.0 m.1 m.2

-- fewer places
pub holds_fewer : (n m : ℕ) (w : ℕ → Ends) (y : ℕ → ℕ) → m ≤ n → Holds n w y → Holds m w y
holds_fewer n m w y le h = record {
  cross = λ i k first second. h.cross i k (omega arith) (omega arith);
  live = λ k inside some. h.live k (omega arith) some;
}

-- a sum of weights, each so many times, encloses the same sum of numbers
pub encloses_weighed : (n : ℕ) (times : ℕ → ℕ) (w : ℕ → Ends) (y : ℕ → ℕ) (den : ℕ)
    → ((i : ℕ) → i < n → Encloses (w i) (y i) den) → Encloses (weighed_ends n times w) (weighed_numbers n times y) den
encloses_weighed n times w y den h =
    encloses_total n (λ i. scaled_ends (times i) (w i)) (λ i. times i * y i) den
    (λ i l. encloses_scaled (w i) (scaled_ends (times i) (w i)) (times i) refl (y i) den (h i l))

-- a common factor of the numbers is one of their sum
pub numbers_scaled : (n k : ℕ) (times y : ℕ → ℕ) → weighed_numbers n times (λ i. k * y i) ≡ k * weighed_numbers n times y
numbers_scaled n k times y =
    sum-same n (λ i. times i * (k * y i)) (λ i. k * (times i * y i)) (λ i l. omega arith)
    ∙ sum-scaled n k (λ i. times i * y i)

pub part_encloses : (unit n g : ℕ) (times rest : ℕ → ℕ) (w : ℕ → Ends) (y : ℕ → ℕ) → 0 < g → Holds n w y
    → 0 < sum_below n y
    → Encloses (part unit n g times rest w) (unit * weighed_numbers n times y)
    (weighed_numbers n times y + weighed_numbers n rest y)
part_encloses unit n g times rest w y some_g h some =
    let c = scaled_in_all n w y h some in
    let inside = encloses_weighed n times w (λ i. c.factor * y i) c.den c.inside in
    let outside = encloses_weighed n rest w (λ i. c.factor * y i) c.den c.inside in
    let a = weighed_numbers n times (λ i. c.factor * y i) in
    let b = weighed_numbers n rest (λ i. c.factor * y i) in
    encloses_same (part unit n g times rest w) c.factor _ _ (unit * (a * 1)) (a * 1 + b * 1) c.some
    (omega (arith, ap (λ k. unit * k) (numbers_scaled n c.factor times y)))
    (omega (arith, numbers_scaled n c.factor times y, numbers_scaled n c.factor rest y))
    (encloses_share (divided_ends g (weighed_ends n times w)) (divided_ends g (weighed_ends n rest w)) (part unit n g times rest w) unit refl
    (a * 1) (b * 1) (g * c.den)
    (encloses_ratio (weighed_ends n times w) (divided_ends g (weighed_ends n times w)) 1 g some_g refl a c.den inside)
    (encloses_ratio (weighed_ends n rest w) (divided_ends g (weighed_ends n rest w)) 1 g some_g refl b c.den outside))

pub encloses_set : (n : ℕ) (test : ℕ → Bool) (w : ℕ → Ends) (y : ℕ → ℕ) (den : ℕ)
    → ((i : ℕ) → i < n → Encloses (w i) (y i) den)
    → Encloses (set_ends n test w) (sum_below n (λ i. cond (test i) (y i) 0)) den
encloses_set n test w y den h =
    encloses_total n (λ i. where_ends (test i) (w i)) (λ i. cond (test i) (y i) 0) den
    (λ i l. encloses_where (test i) (w i) (y i) den (λ t. h i l))

set_scaled : (n k : ℕ) (test : ℕ → Bool) (y : ℕ → ℕ)
    → sum_below n (λ i. cond (test i) (k * y i) 0) ≡ k * sum_below n (λ i. cond (test i) (y i) 0)
set_scaled n k test y =
    sum-same n (λ i. cond (test i) (k * y i) 0) (λ i. k * cond (test i) (y i) 0)
    (λ i l. sym (cond_scaled (test i) k (y i)))
    ∙ sum-scaled n k (λ i. cond (test i) (y i) 0)

pub set_part_encloses : (unit n : ℕ) (test : ℕ → Bool) (w : ℕ → Ends) (y : ℕ → ℕ) → Holds n w y → 0 < sum_below n y
    → Encloses (set_part unit n test w) (unit * sum_below n (λ i. cond (test i) (y i) 0)) (sum_below n y)
set_part_encloses unit n test w y h some =
    let c = scaled_in_all n w y h some in
    let others : ℕ → Bool = λ i. not (test i) in
    let inside = encloses_set n test w (λ i. c.factor * y i) c.den c.inside in
    let outside = encloses_set n others w (λ i. c.factor * y i) c.den c.inside in
    let a = sum_below n (λ i. cond (test i) (c.factor * y i) 0) in
    let b = sum_below n (λ i. cond (others i) (c.factor * y i) 0) in
    encloses_same (set_part unit n test w) c.factor _ _ (unit * a) (a + b) c.some
    (omega (arith, ap (λ k. unit * k) (set_scaled n c.factor test y)))
    (sum_split n test (λ i. c.factor * y i) ∙ sum-scaled n c.factor y)
    (encloses_share (set_ends n test w) (set_ends n others w) (set_part unit n test w) unit refl a b c.den inside outside)

set_ends_same : (n : ℕ) (s t : ℕ → Bool) (w : ℕ → Ends) → ((i : ℕ) → i < n → s i ≡ t i) → set_ends n s w ≡ set_ends n t w
set_ends_same n s t w same =
    ap₂ between
    (sum-same n (λ i. cond (s i) (w i).lo 0) (λ i. cond (t i) (w i).lo 0) (λ i l. ap (λ b. cond b (w i).lo 0) (same i l)))
    (sum-same n (λ i. cond (s i) (w i).hi 0) (λ i. cond (t i) (w i).hi 0) (λ i l. ap (λ b. cond b (w i).hi 0) (same i l)))

-- two tests that agree at every place have the same part
pub set_part_same : (unit n : ℕ) (s t : ℕ → Bool) (w : ℕ → Ends) → ((i : ℕ) → i < n → s i ≡ t i)
    → set_part unit n s w ≡ set_part unit n t w
set_part_same unit n s t w same =
    ap₂ (share_ends unit) (set_ends_same n s t w same)
    (set_ends_same n (λ i. not (s i)) (λ i. not (t i)) w (λ i l. ap not (same i l)))
