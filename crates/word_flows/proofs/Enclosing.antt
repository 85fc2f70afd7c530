-- The weights of a plan's words: they are pushed one after the other, and enclose what the masses bound.
use Rattle.std.proofs.Common.{◌≡◌, ℕ, ◌+◌, ◌-◌, ◌*◌, ◌/◌, ◌^◌, ◌<◌, ◌≤◌, List, [], ◌∷◌, ◌++◌, length, map, take, get_or, refl, sym, ap, ap₂, subst, ◌∙◌, arith}
use Rattle.std.specs.Int.{div_ceil}
use Rattle.std.specs.Prelude.{slice_index}
use Rattle.std.proofs.lemmas.List.{append-nil, get_or-map, length-map, map_more}
use Rattle.std.proofs.lemmas.Nat.{pow_pos}
use Rattle.std.proofs.Math.Nat.{le_of_mul-le-mul_left}
use Rattle.fixed_interval.specs.Ends.{Ends, between, shifted_ends}
use Rattle.fixed_interval.specs.WeightList.{EnclosesAll, PushesShifted, ends_at}
use Rattle.fixed_interval.proofs.Rounding.{div_ceil-positive, rounded-cross, rounded-ordered}
use Rattle.fixed_interval.proofs.Shifts.{pushed_unshifted}
use Rattle.hyper_model.specs.declared.kinds.Line.{Line}
use Rattle.hyper_model.specs.declared.kinds.Line.TheVariants as line
use Rattle.hyper_model.specs.declared.parts.PlanParts.{PlanParts}
use Rattle.hyper_model.specs.Plans.{units, all_calls, all_service, IsAccepted}
use Rattle.hyper_model.specs.Solutions.{IsSolution, IsTail, SolvesWords, mass_in}
use Rattle.hyper_model.specs.Tables.{word_table}
use Rattle.hyper_model.specs.Words.{full_word, words}
use Rattle.hyper_model.proofs.PlanLaws.{has_solution, solves_word_table, stable_of, word_positive}
use Rattle.busy_words.specs.Order.{WordOrder, word_at}
use Rattle.busy_words.specs.WeightParts.{EnclosesSolution, IsOrderOf, masses_by_place, places, places_on, tail_masses}
use Rattle.busy_words.proofs.Ordering.{last_word}
use Rattle.queue_tail.specs.Tail.{IsTailOf}
use Rattle.queue_tail.proofs.Tail.{tail_encloses}
use Rattle.state_certificate.specs.Certificates.{AreCertified, BoundSolutions}
use Rattle.state_certificate.proofs.MaximumPrinciple.{certificates_bound}
use Rattle.word_flows.specs.CertifiedWeights.{AreCertifiedWeights, GainsWaiting, weights_between}

-- the weight of one word more
pub weights_more : (low high : ℕ → ℕ) (list : List ℕ) (old new : List Ends) (i : ℕ) (w : Ends) → i < length list
    → old ≡ weights_between low high (take i list) → w ≡ shifted_ends 10 (between (low (slice_index list i)) (high (slice_index list i)))
    → w.hi ≤ 2 ^ 52 → PushesShifted old new w → new ≡ weights_between low high (take (i + 1) list)
weights_more low high list old new i w inside so_far is most pushes =
    pushed_unshifted old new w pushes most
    ∙ ap₂ (λ before this. before ++ this ∷ []) so_far is
    ∙ sym (map_more (λ word. shifted_ends 10 (between (low word) (high word))) list i 0 inside)

module _ (p : PlanParts) (order : WordOrder) (o : IsOrderOf p order) (low high : ℕ → ℕ) where
  weight_here : (i : ℕ) → i < words p
      → ends_at (weights_between low high order.words) i
      ≡ shifted_ends 10 (between (low (word_at order i)) (high (word_at order i)))
  weight_here i l =
      get_or-map (λ word. shifted_ends 10 (between (low word) (high word))) order.words i 0 (between 0 0)
      (omega (arith, o.ordered.one_each))

  mass_here : (xs : List ℕ) (i : ℕ) → i < words p
      → slice_index (map (mass_in xs) order.words) i ≡ mass_in xs (word_at order i)
  mass_here xs i l = get_or-map (mass_in xs) order.words i 0 0 (omega (arith, o.ordered.one_each))

  pub count : length (weights_between low high order.words) ≡ words p
  count = length-map order.words (λ word. shifted_ends 10 (between (low word) (high word))) ∙ o.ordered.one_each

  -- masses that bound every solution, as weights enclose it
  pub words_enclose : IsAccepted p → BoundSolutions (words p) (word_table p) low high → (xs : List ℕ) → SolvesWords p xs
      → EnclosesAll (weights_between low high order.words) (map (mass_in xs) order.words)
  words_enclose a bound xs s = record {
    same_length = count ∙ sym (length-map order.words (mass_in xs) ∙ o.ordered.one_each);
    in_ratio = λ i k l m.
        let i_inside : i < words p = omega (arith, count) in
        let k_inside : k < words p = omega (arith, count) in
        let i_word = o.ordered.within i i_inside in
        let k_word = o.ordered.within k k_inside in
        rw (weight_here i i_inside, weight_here k k_inside, mass_here xs i i_inside, mass_here xs k k_inside)
        (rounded-cross (2 ^ 10) (low (word_at order i)) (high (word_at order k)) (mass_in xs (word_at order k))
        (mass_in xs (word_at order i)) (omega arith)
        (bound.in_ratio (mass_in xs) (solves_word_table p a xs s) (word_at order i) (word_at order k) i_word k_word));
    positive = λ k l some.
        let inside : k < words p = omega (arith, count) in
        rw (weight_here k inside)
        (div_ceil-positive (high (word_at order k)) (2 ^ 10) (omega arith)
        (bound.positive (word_at order k) (o.ordered.within k inside)));
  }

-- the mass of the waiting calls is the tail's, by the last of the masses in the order of the words
pub tail_by_place : (p : PlanParts) (order : WordOrder) → IsOrderOf p order → (xs : List ℕ) (z : ℕ) → IsSolution p xs z
    → p.line ≡ line.Infinite → IsTailOf (all_calls p) (all_service p) (map (mass_in xs) order.words) z
tail_by_place p order o xs z s is =
    subst (λ l. IsTail l p xs z) is s.tail
    ∙ ap (λ m. all_calls p * m) (sym (
    ap (λ n. mass_in (map (mass_in xs) order.words) (n - 1)) (length-map order.words (mass_in xs) ∙ o.ordered.one_each)
    ∙ mass_here p order o (λ w. 0) (λ w. 0) xs (full_word p) (omega (arith, pow_pos (units p)))
    ∙ ap (mass_in xs) (last_word (units p) order.words o.ordered)))

-- with a certificate each low mass is at most its high one, since a solution has a mass in each word
certified_ordered : (p : PlanParts) → IsAccepted p → (low high : ℕ → ℕ) → AreCertified (words p) (word_table p) low high
    → (w : ℕ) → w < words p → low w ≤ high w
certified_ordered p a low high c w l =
    let solution = has_solution p a in
    let x = mass_in solution.masses in
    let bound = certificates_bound (words p) (word_table p) low high c in
    let some : 0 < x w = word_positive p a solution.masses solution.solves.words w l in
    le_of_mul-le-mul_left
    (let g : x w * low w ≤ x w * high w =
    omega (arith, bound.in_ratio x (solves_word_table p a solution.masses solution.solves.words) w w l l) in g) some

-- certified weights enclose every solution of the plan
pub certified_encloses : (p : PlanParts) → IsAccepted p → (order : WordOrder) (items : List Ends) → AreCertifiedWeights p order items
    → (xs : List ℕ) (z : ℕ) → IsSolution p xs z → EnclosesSolution p order items xs z
certified_encloses p a order items w xs z s = record { solves = s; encloses = on_line p.line refl w.waiting }
  where
    low : ℕ → ℕ
    low = w.words.low

    high : ℕ → ℕ
    high = w.words.high

    words_are : EnclosesAll w.before (map (mass_in xs) order.words)
    words_are =
        subst (λ list. EnclosesAll list (map (mass_in xs) order.words)) (sym w.words.weights)
        (words_enclose p order w.ordered low high a (certificates_bound (words p) (word_table p) low high w.words.certified) xs s.words)

    last_ordered : (ends_at w.before (length w.before - 1)).lo ≤ (ends_at w.before (length w.before - 1)).hi
    last_ordered =
        let last : words p - 1 < words p = omega (arith, pow_pos (units p)) in
        let here : ends_at w.before (length w.before - 1) ≡ shifted_ends 10 (between (low (word_at order (words p - 1))) (high (word_at order (words p - 1)))) =
        ap (λ list. ends_at list (length list - 1)) w.words.weights
        ∙ ap (λ n. ends_at (weights_between low high order.words) (n - 1)) (count p order w.ordered low high)
        ∙ weight_here p order w.ordered low high (words p - 1) last in
        rw here
        (rounded-ordered (2 ^ 10) (low (word_at order (words p - 1))) (high (word_at order (words p - 1))) (omega arith)
        (certified_ordered p a low high w.words.certified (word_at order (words p - 1)) (w.ordered.ordered.within (words p - 1) last)))

    on_line : (l : Line) → p.line ≡ l → GainsWaiting l p w.before items
        → EnclosesAll items (map (mass_in xs) order.words ++ tail_masses l z)
    on_line line.Zero is same =
        subst (λ list. EnclosesAll list (map (mass_in xs) order.words ++ [])) (sym same)
        (subst (λ ys. EnclosesAll w.before ys) (sym (append-nil (map (mass_in xs) order.words))) words_are)
    on_line line.Infinite is gains =
        tail_encloses (all_calls p) (all_service p) w.before items (stable_of p a is)
        (omega (arith, words_are.same_length, length-map order.words (mass_in xs), w.ordered.ordered.one_each, pow_pos (units p)))
        last_ordered gains (map (mass_in xs) order.words) z (tail_by_place p order w.ordered xs z s is) words_are
