-- What the measures ask of a solution: their denominators are positive, and the calls that are answered at once
-- and those that wait are all calls.
use Rattle.std.proofs.Common.{◌≡◌, ◌≢◌, ℕ, ◌+◌, ◌*◌, ◌^◌, ◌<◌, ◌≤◌, Bool, true, false, not, cond, List, refl, ap, ◌∙◌, inl, inr, arith}
use Rattle.std.proofs.lemmas.Bool.{cases_lt, cases_eq}
use Rattle.std.proofs.Math.Nat.{mul-pos}
use Rattle.std.proofs.Math.Pow.{pow_mono}
use Rattle.hyper_model.specs.declared.kinds.Line.{Line}
use Rattle.hyper_model.specs.declared.kinds.Line.TheVariants as line
use Rattle.hyper_model.specs.declared.parts.PlanParts.{PlanParts}
use Rattle.hyper_model.specs.Sums.{sum_below}
use Rattle.hyper_model.specs.Plans.{units, atoms, service_of, calls_of, all_calls, all_service, is_inside, district_calls, split, IsAcceptedUpTo}
use Rattle.hyper_model.specs.Words.{words, is_busy, full_word, turned_word, takes, taker_count, portion}
use Rattle.hyper_model.specs.Solutions.{mass_in, IsSolution}
use Rattle.hyper_model.specs.Measures.{mass, queued_mass_on, queued_mass, base_on, base, taken_mass, dispatch_flow, dispatch_flow_inside, dispatch_flow_outside, dispatch_flow_by}
use Rattle.hyper_model.proofs.Sums.{on_test, sum-same, sum-add, sum-scaled, sum-swap, sum_none, place_le_sum, positive_place, sum_split, choices_sum}
use Rattle.hyper_model.proofs.Bits.{turned_lt, busy_turned, busy_turned_other, full_busy, free_exists, words_full}
use Rattle.hyper_model.proofs.Takers.{not_taken, portion_is, takers_positive, split_positive}
use Rattle.hyper_model.proofs.PlanLaws.{words_positive, full_below, word_positive}

-- the full word is the last of the words
pub all_words : (p : PlanParts) (x : ℕ → ℕ) → sum_below (words p) x ≡ sum_below (full_word p) x + x (full_word p)
all_words p x = ap (λ n. sum_below n x) (words_full (units p))

pub mass_positive : (p : PlanParts) (xs : List ℕ) (z : ℕ) → IsSolution p xs z → 0 < mass p (mass_in xs) z
mass_positive p xs z s = omega (arith, s.words.positive)

-- the word in which nobody is busy is not the full one
pub empty_below_full : {most : ℕ} (p : PlanParts) → IsAcceptedUpTo most p → 0 < full_word p
empty_below_full p a = let two : 2 ^ 1 ≤ 2 ^ units p = pow_mono a.units.number.low in omega (arith, two)

pub base_positive : {most : ℕ} (p : PlanParts) → IsAcceptedUpTo most p → (xs : List ℕ) (z : ℕ) → IsSolution p xs z
    → 0 < base p (mass_in xs) z
base_positive p a xs z s = on_line p.line
  where
    on_line : (l : Line) → 0 < base_on l p (mass_in xs) z
    on_line line.Zero =
        omega (
          arith,
          word_positive p a xs s.words 0 (words_positive p),
          place_le_sum (full_word p) (mass_in xs) 0 (empty_below_full p a),
        )
    on_line line.Infinite = mass_positive p xs z s

-- the word in which all units but n are busy
abbrev pub alone_free : PlanParts → ℕ → ℕ
alone_free p n = turned_word (full_word p) n

alone_is_free : (p : PlanParts) (n : ℕ) → n < units p → is_busy (alone_free p n) n ≡ false
alone_is_free p n l = busy_turned (full_word p) n ∙ ap not (full_busy (units p) n l)

others_busy : (p : PlanParts) (n m : ℕ) → m < units p → m ≢ n → is_busy (alone_free p n) m ≡ true
others_busy p n m l ne = busy_turned_other (full_word p) n m ne ∙ full_busy (units p) m l

-- in it every call goes to unit n
pub alone_takes : {most : ℕ} (p : PlanParts) → IsAcceptedUpTo most p → (n j : ℕ) → n < units p → j < atoms p
    → takes p j (alone_free p n) n ≡ true
alone_takes p a n j l k =
    let some = takers_positive p a j (alone_free p n) n k l (alone_is_free p n l) in
    let m = positive_place (units p) (λ i. cond (takes p j (alone_free p n) i) 1 0) some in
    on_test (takes p j (alone_free p n) n) (λ t. t)
    (λ none. absurd (elim (cases_eq m.0 n) [
      | inl e ↦ let none_there = ap {B = ℕ} (λ c. cond c 1 0) (ap (λ i. takes p j (alone_free p n) i) e ∙ none) in
          omega (arith, m.2, none_there)
      | inr ne ↦
          let none_there = ap {B = ℕ} (λ c. cond c 1 0)
          (not_taken p j (alone_free p n) m.0 (others_busy p n m.0 m.1 ne)) in
          omega (arith, m.2, none_there)
    ]))

pub portion_positive : {most : ℕ} (p : PlanParts) → IsAcceptedUpTo most p → (j w : ℕ) → j < atoms p → 0 < taker_count p j w → 0 < portion p j w
portion_positive p a j w l some = elim (cases_lt 0 (portion p j w)) [
  | inl h ↦ h
  | inr g ↦
      let none : portion p j w ≡ 0 = omega arith in
      absurd (omega (arith, portion_is p a j w l some, split_positive p, ap (λ c. taker_count p j w * c) none))
]

pub taken_positive : {most : ℕ} (p : PlanParts) → IsAcceptedUpTo most p → (xs : List ℕ) (z : ℕ) → IsSolution p xs z
    → (n j : ℕ) → n < units p → j < atoms p → 0 < taken_mass p (mass_in xs) n j
taken_positive p a xs z s n j l k =
    let w : ℕ = alone_free p n in
    let below = turned_lt (units p) (full_word p) n (full_below p) l in
    let share = portion_positive p a j w k (takers_positive p a j w n k l (alone_is_free p n l)) in
    let part = mul-pos (word_positive p a xs s.words w below) share in
    omega (
      arith,
      part,
      ap (λ c. cond c (mass_in xs w * portion p j w) 0) (alone_takes p a n j l k),
      place_le_sum (words p) (λ v. cond (takes p j v n) (mass_in xs v * portion p j v) 0) w below,
    )

pub service_total_positive : {most : ℕ} (p : PlanParts) → IsAcceptedUpTo most p → 0 < all_service p
service_total_positive p a =
    omega (
      arith,
      (a.units.rates 0 a.units.number.low).low,
      place_le_sum (units p) (service_of p) 0 a.units.number.low,
    )

-- each unit answers calls of each atom that has any
pub dispatched_positive : {most : ℕ} (p : PlanParts) → IsAcceptedUpTo most p → (xs : List ℕ) (z : ℕ) → IsSolution p xs z
    → (n j : ℕ) → n < units p → j < atoms p → 0 < calls_of p j → 0 < dispatch_flow p (mass_in xs) z n j
dispatched_positive p a xs z s n j l k h =
    let taken = mul-pos (service_total_positive p a) (taken_positive p a xs z s n j l k) in
    mul-pos h (omega (arith, taken))

pub dispatched_by_positive : {most : ℕ} (p : PlanParts) → IsAcceptedUpTo most p → (xs : List ℕ) (z : ℕ) → IsSolution p xs z
    → (n : ℕ) → n < units p → 0 < dispatch_flow_by p (mass_in xs) z n
dispatched_by_positive p a xs z s n l =
    let j = positive_place (atoms p) (calls_of p) a.atoms.calls.low in
    omega (
      arith,
      dispatched_positive p a xs z s n j.0 l j.1 j.2,
      place_le_sum (atoms p) (dispatch_flow p (mass_in xs) z n) j.0 j.1,
    )

pub dispatched_all_positive : {most : ℕ} (p : PlanParts) → IsAcceptedUpTo most p → (xs : List ℕ) (z : ℕ) → IsSolution p xs z
    → 0 < sum_below (units p) (dispatch_flow_by p (mass_in xs) z)
dispatched_all_positive p a xs z s =
    omega (
      arith,
      dispatched_by_positive p a xs z s 0 a.units.number.low,
      place_le_sum (units p) (dispatch_flow_by p (mass_in xs) z) 0 a.units.number.low,
    )

-- a district with calls has an atom with calls
pub district_atom : (p : PlanParts) (m : ℕ) → 0 < district_calls p m
    → (j : ℕ) × (j < atoms p) × (is_inside p m j ≡ true) × (0 < calls_of p j)
district_atom p m h =
    let j = positive_place (atoms p) (λ i. cond (is_inside p m i) (calls_of p i) 0) h in
    on_test (is_inside p m j.0)
    (λ t. (j.0, j.1, t, omega (arith, j.2, ap (λ c. cond c (calls_of p j.0) 0) t)))
    (λ f. absurd (let none = ap (λ c. cond c (calls_of p j.0) 0) f in omega (arith, j.2, none)))

-- and each unit answers calls of it
pub dispatched_inside_positive : {most : ℕ} (p : PlanParts) → IsAcceptedUpTo most p → (xs : List ℕ) (z : ℕ) → IsSolution p xs z
    → (n m : ℕ) → n < units p → 0 < district_calls p m → 0 < dispatch_flow_inside p (mass_in xs) z n m
dispatched_inside_positive p a xs z s n m l h =
    let j = district_atom p m h in
    omega (
      arith,
      dispatched_positive p a xs z s n j.0 l j.1 j.3,
      ap (λ c. cond c (dispatch_flow p (mass_in xs) z n j.0) 0) j.2,
      place_le_sum (atoms p) (λ i. cond (is_inside p m i) (dispatch_flow p (mass_in xs) z n i) 0) j.0 j.1,
    )

pub dispatched_into_positive : {most : ℕ} (p : PlanParts) → IsAcceptedUpTo most p → (xs : List ℕ) (z : ℕ) → IsSolution p xs z
    → (m : ℕ) → 0 < district_calls p m → 0 < sum_below (units p) (λ n. dispatch_flow_inside p (mass_in xs) z n m)
dispatched_into_positive p a xs z s m h =
    omega (
      arith,
      dispatched_inside_positive p a xs z s 0 m a.units.number.low h,
      place_le_sum (units p) (λ n. dispatch_flow_inside p (mass_in xs) z n m) 0 a.units.number.low,
    )

-- a unit's dispatches are those inside a district and those outside
pub dispatched_parts : (p : PlanParts) (x : ℕ → ℕ) (z n m : ℕ)
    → dispatch_flow_inside p x z n m + dispatch_flow_outside p x z n m ≡ dispatch_flow_by p x z n
dispatched_parts p x z n m =
    ap (λ c. dispatch_flow_inside p x z n m + c)
    (sum-same (atoms p) (λ j. cond (is_inside p m j) 0 (dispatch_flow p x z n j))
    (λ j. cond (not (is_inside p m j)) (dispatch_flow p x z n j) 0)
    (λ j l. turned_round (is_inside p m j) (dispatch_flow p x z n j)))
    ∙ sum_split (atoms p) (λ j. is_inside p m j) (dispatch_flow p x z n)
  where
    turned_round : (b : Bool) (k : ℕ) → cond b 0 k ≡ cond (not b) k 0
    turned_round true k = refl
    turned_round false k = refl

-- in a word that is not full, all shares of a call are taken
shares_of_word : {most : ℕ} (p : PlanParts) → IsAcceptedUpTo most p → (x : ℕ → ℕ) (j w : ℕ) → j < atoms p → w < full_word p
    → sum_below (units p) (λ n. cond (takes p j w n) (x w * portion p j w) 0) ≡ split p * x w
shares_of_word p a x j w l h =
    let low : w ≢ full_word p = omega arith in
    let free = free_exists (units p) w (omega (arith, h, full_below p)) low in
    let some = takers_positive p a j w free.0 l free.1 free.2 in
    omega (
      arith,
      choices_sum (units p) (x w * portion p j w) (λ n. takes p j w n),
      ap (λ c. x w * c) (portion_is p a j w l some),
    )

-- in the full word nobody takes a call
shares_of_full : (p : PlanParts) (x : ℕ → ℕ) (j : ℕ)
    → sum_below (units p) (λ n. cond (takes p j (full_word p) n) (x (full_word p) * portion p j (full_word p)) 0) ≡ 0
shares_of_full p x j =
    sum_none (units p)
    (λ n. cond (takes p j (full_word p) n) (x (full_word p) * portion p j (full_word p)) 0)
    (λ n l. ap (λ c. cond c (x (full_word p) * portion p j (full_word p)) 0)
    (not_taken p j (full_word p) n (full_busy (units p) n l)))

-- the calls of an atom that are answered at once come in the words that are not full
pub taken_all : {most : ℕ} (p : PlanParts) → IsAcceptedUpTo most p → (x : ℕ → ℕ) (j : ℕ) → j < atoms p
    → sum_below (units p) (λ n. taken_mass p x n j) ≡ split p * sum_below (full_word p) x
taken_all p a x j l =
    let by_word : ℕ → ℕ = λ w. sum_below (units p) (λ n. cond (takes p j w n) (x w * portion p j w) 0) in
    sum-swap (units p) (words p) (λ n w. cond (takes p j w n) (x w * portion p j w) 0)
    ∙ all_words p by_word
    ∙ omega (
      arith,
      shares_of_full p x j,
      sum-same (full_word p) by_word (λ w. split p * x w) (λ w h. shares_of_word p a x j w l h),
      sum-scaled (full_word p) (split p) x,
    )

-- and with those that wait they are all that are answered
pub taken_room : {most : ℕ} (p : PlanParts) → IsAcceptedUpTo most p → (x : ℕ → ℕ) (z j : ℕ) → j < atoms p
    → sum_below (units p) (λ n. taken_mass p x n j) + split p * queued_mass p x z ≡ split p * base p x z
taken_room p a x z j l = ap (λ c. c + split p * queued_mass p x z) (taken_all p a x j l) ∙ on_line p.line
  where
    on_line : (k : Line)
        → split p * sum_below (full_word p) x + split p * queued_mass_on k p x z ≡ split p * base_on k p x z
    on_line line.Zero = omega arith
    on_line line.Infinite = omega (arith, ap (λ c. split p * c) (all_words p x))

-- so the dispatches to an atom, all units together, are its part of all that is answered
pub dispatched_to_atom : {most : ℕ} (p : PlanParts) → IsAcceptedUpTo most p → (x : ℕ → ℕ) (z j : ℕ) → j < atoms p
    → sum_below (units p) (λ n. dispatch_flow p x z n j) ≡ calls_of p j * (all_service p * split p * base p x z)
dispatched_to_atom p a x z j l =
    sum-scaled (units p) (calls_of p j)
    (λ n. all_service p * taken_mass p x n j + split p * service_of p n * queued_mass p x z)
    ∙ ap (λ c. calls_of p j * c)
    (omega (
      arith,
      sum-add (units p) (λ n. all_service p * taken_mass p x n j) (λ n. split p * service_of p n * queued_mass p x z),
      sum-scaled (units p) (all_service p) (λ n. taken_mass p x n j),
      sum-same (units p) (λ n. split p * service_of p n * queued_mass p x z)
          (λ n. split p * queued_mass p x z * service_of p n) (λ n h. omega arith),
      sum-scaled (units p) (split p * queued_mass p x z) (service_of p),
      ap (λ c. all_service p * c) (taken_room p a x z j l),
    ))

-- and so are all dispatches
pub dispatched_all : {most : ℕ} (p : PlanParts) → IsAcceptedUpTo most p → (x : ℕ → ℕ) (z : ℕ)
    → sum_below (units p) (dispatch_flow_by p x z) ≡ all_calls p * all_service p * split p * base p x z
dispatched_all p a x z =
    sum-swap (units p) (atoms p) (λ n j. dispatch_flow p x z n j)
    ∙ sum-same (atoms p) (λ j. sum_below (units p) (λ n. dispatch_flow p x z n j))
    (λ j. all_service p * split p * base p x z * calls_of p j)
    (λ j l. omega (arith, dispatched_to_atom p a x z j l))
    ∙ omega (arith, sum-scaled (atoms p) (all_service p * split p * base p x z) (calls_of p))

-- and those to a district
pub dispatched_into : {most : ℕ} (p : PlanParts) → IsAcceptedUpTo most p → (x : ℕ → ℕ) (z m : ℕ)
    → sum_below (units p) (λ n. dispatch_flow_inside p x z n m)
    ≡ district_calls p m * all_service p * split p * base p x z
dispatched_into p a x z m =
    sum-swap (units p) (atoms p) (λ n j. cond (is_inside p m j) (dispatch_flow p x z n j) 0)
    ∙ sum-same (atoms p) (λ j. sum_below (units p) (λ n. cond (is_inside p m j) (dispatch_flow p x z n j) 0))
    (λ j. all_service p * split p * base p x z * cond (is_inside p m j) (calls_of p j) 0)
    (λ j l. of_atom (is_inside p m j) j l)
    ∙ omega (
      arith,
      sum-scaled (atoms p) (all_service p * split p * base p x z)
          (λ j. cond (is_inside p m j) (calls_of p j) 0),
    )
  where
    of_atom : (b : Bool) (j : ℕ) → j < atoms p
        → sum_below (units p) (λ n. cond b (dispatch_flow p x z n j) 0)
        ≡ all_service p * split p * base p x z * cond b (calls_of p j) 0
    of_atom true j l = omega (arith, dispatched_to_atom p a x z j l)
    of_atom false j l = omega (arith, sum_none (units p) (λ n. 0) (λ n h. refl))
