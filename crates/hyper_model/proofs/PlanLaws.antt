-- The laws of an accepted plan: a solution exists, every mass is positive, any two solutions are proportional.
use Rattle.std.proofs.Common.{◌≡◌, ℕ, zero, suc, ◌+◌, ◌-◌, ◌*◌, ◌<◌, ◌≤◌, not, List, length, refl, sym, ap, subst, ◌∙◌, inl, inr, arith, pow_pos}
use Rattle.std.proofs.lemmas.Bool.{cases_lt, cases_eq}
use Rattle.std.proofs.lemmas.List.FromFn.{length-map-range_with_len}
use Rattle.std.proofs.Math.Nat.{mul-pos}
use Rattle.hyper_model.specs.declared.kinds.Line.{Line}
use Rattle.hyper_model.specs.declared.kinds.Line.TheVariants as line
use Rattle.hyper_model.specs.declared.parts.PlanParts.{PlanParts}
use Rattle.hyper_model.specs.Sums.{sum_below}
use Rattle.hyper_model.specs.Plans.{units, all_calls, all_service, IsStable, IsAcceptedUpTo}
use Rattle.hyper_model.specs.Words.{words, full_word, turned_word}
use Rattle.hyper_model.specs.Solutions.{mass_in, SolvesWords, IsTail, IsSolution, HasSolution}
use Rattle.hyper_model.specs.Tables.{SolvesTable, word_table}
use Rattle.hyper_model.specs.Laws.{AreWordsPositive, IsTailPositive, AreWordsProportional, IsTailProportional}
use Rattle.hyper_model.proofs.Sums.{sum-scaled, sum-same, place_le_sum, same_factor}
use Rattle.hyper_model.proofs.Chains.{listed, listed_at, solves_alike, solution_exists, first_positive, proportional}
use Rattle.hyper_model.proofs.Bits.{turned_twice, turned_lt, turned_up, busy_turned, free_exists, words_full}
use Rattle.hyper_model.proofs.Takers.{up_some}
use Rattle.hyper_model.proofs.WordTables.{balance_is, words_descend, turn_rate_le, rate_free, service_positive}

pub words_positive : (p : PlanParts) → 0 < words p
words_positive p = pow_pos (units p)

-- a list solves the balance of the words if it solves that of their table
pub solves_word_table : {most : ℕ} (p : PlanParts) → IsAcceptedUpTo most p → (xs : List ℕ) → SolvesWords p xs
    → SolvesTable (words p) (word_table p) (mass_in xs)
solves_word_table p a xs s = record {
  positive = s.positive;
  balanced = λ w l. (balance_is p a (mass_in xs) w l).0 (s.balanced w l);
}

pub table_solves_words : {most : ℕ} (p : PlanParts) → IsAcceptedUpTo most p → (xs : List ℕ) → length xs ≡ words p
    → SolvesTable (words p) (word_table p) (mass_in xs) → SolvesWords p xs
table_solves_words p a xs e s = record {
  one_each = e;
  positive = s.positive;
  balanced = λ w l. (balance_is p a (mass_in xs) w l).1 (s.balanced w l);
}

pub solves_words : {most : ℕ} (p : PlanParts) → IsAcceptedUpTo most p → (x : ℕ → ℕ) → SolvesTable (words p) (word_table p) x
    → SolvesWords p (listed (words p) x)
solves_words p a x s =
    table_solves_words p a (listed (words p) x) (length-map-range_with_len x 0 (words p))
    (solves_alike (words p) (word_table p) x (mass_in (listed (words p) x)) (listed_at (words p) x) s)

scaled_solves : (n k : ℕ) (e : ℕ → ℕ → ℕ) (x : ℕ → ℕ) → 0 < k → SolvesTable n e x → SolvesTable n e (λ i. k * x i)
scaled_solves n k e x h s = record {
  positive = omega (arith, sum-scaled n k x, mul-pos h s.positive);
  balanced = λ j l.
      omega (
        arith,
        ap (λ c. k * c) (s.balanced j l),
        sum-scaled n k (λ i. x i * e i j),
        sum-same n (λ i. k * x i * e i j) (λ i. k * (x i * e i j)) (λ i m. omega arith),
      );
}

-- the full word is a word
pub full_below : (p : PlanParts) → full_word p < words p
full_below p = omega (arith, words_full (units p))

-- if calls are lost, a solution of the words is one; if they wait, its masses are multiplied by the
-- difference of the rates, so that the mass of the waiting calls is whole
pub has_solution : {most : ℕ} (p : PlanParts) → IsAcceptedUpTo most p → HasSolution p
has_solution p a = on_line p.line refl
  where
    x : (x : ℕ → ℕ) × SolvesTable (words p) (word_table p) x
    x = solution_exists (words p) (word_table p) (words_positive p) (words_descend p a)

    on_line : (l : Line) → p.line ≡ l → HasSolution p
    on_line line.Zero e = record {
      masses = listed (words p) x.0;
      waiting = 0;
      solves = record {
        words = solves_words p a x.0 x.1;
        tail = subst (λ l. IsTail l p (listed (words p) x.0) 0) (sym e) refl;
      };
    }
    on_line line.Infinite e =
        let stable : all_calls p < all_service p = subst (λ l. IsStable l (all_calls p) (all_service p)) e a.stable in
        let y : ℕ → ℕ = λ w. (all_service p - all_calls p) * x.0 w in
        record {
          masses = listed (words p) y;
          waiting = all_calls p * x.0 (full_word p);
          solves = record {
            words = solves_words p a y
                (scaled_solves (words p) (all_service p - all_calls p) (word_table p) x.0 (omega arith) x.1);
            tail = subst (λ l. IsTail l p (listed (words p) y) (all_calls p * x.0 (full_word p))) (sym e)
                (omega (arith, ap (λ c. all_calls p * c) (listed_at (words p) y (full_word p) (full_below p))));
          };
        }

-- a state into which mass flows has mass
pub carried : (n : ℕ) (e : ℕ → ℕ → ℕ) (x : ℕ → ℕ) → SolvesTable n e x → (i j : ℕ) → i < n → j < n
    → 0 < x i → 0 < e i j → 0 < x j
carried n e x s i j l k h r = elim (cases_lt 0 (x j)) [
  | inl pos ↦ pos
  | inr g ↦
      let z : x j ≡ 0 = omega arith in
      absurd (omega (
        arith,
        s.balanced j k,
        ap (λ c. c * sum_below n (e j)) z,
        mul-pos h r,
        place_le_sum n (λ a. x a * e a j) i l,
      ))
]

module _ {most : ℕ} (p : PlanParts) (a : IsAcceptedUpTo most p) (x : ℕ → ℕ) (s : SolvesTable (words p) (word_table p) x) where
  -- calls fill the fleet: from a word with mass one comes to the full word
  full_from : (fuel w : ℕ) → w < words p → words p ≤ w + fuel → 0 < x w → 0 < x (full_word p)
  full_from zero w l f h = absurd (omega arith)
  full_from (suc fuel) w l f h = elim (cases_eq w (full_word p)) [
    | inl e ↦ omega (arith, h, ap x e)
    | inr ne ↦
        let free = free_exists (units p) w l ne in
        let sent = up_some p a w free.0 free.1 free.2 in
        let next = turned_lt (units p) w sent.0 l sent.1 in
        full_from fuel (turned_word w sent.0) next (omega (arith, turned_up w sent.0 sent.2, f))
        (carried (words p) (word_table p) x s w (turned_word w sent.0) l next h
        (omega (arith, turn_rate_le p w sent.0 sent.1, rate_free p w sent.0 sent.2, sent.3)))
  ]

  -- services empty it: from the full word one comes to each word
  each_from : (fuel w : ℕ) → w < words p → words p ≤ w + fuel → 0 < x (full_word p) → 0 < x w
  each_from zero w l f h = absurd (omega arith)
  each_from (suc fuel) w l f h = elim (cases_eq w (full_word p)) [
    | inl e ↦ omega (arith, h, ap x e)
    | inr ne ↦
        let free = free_exists (units p) w l ne in
        let above = turned_lt (units p) w free.0 l free.1 in
        let ends = service_positive p a (turned_word w free.0) free.0 free.1 (busy_turned w free.0 ∙ ap not free.2) in
        carried (words p) (word_table p) x s (turned_word w free.0) w above l
        (each_from fuel (turned_word w free.0) above (omega (arith, turned_up w free.0 free.2, f)) h)
        (omega (arith, ends, ap (λ v. word_table p (turned_word w free.0) v) (turned_twice w free.0)))
  ]

  pub each_positive : (w : ℕ) → w < words p → 0 < x w
  each_positive w l =
      each_from (words p) w l (omega arith)
      (full_from (words p) 0 (words_positive p) (omega arith)
      (first_positive (words p) (word_table p) x (words_descend p a) s))

pub word_positive : {most : ℕ} (p : PlanParts) → IsAcceptedUpTo most p → (xs : List ℕ) → SolvesWords p xs
    → (w : ℕ) → w < words p → 0 < mass_in xs w
word_positive p a xs s w l = each_positive p a (mass_in xs) (solves_word_table p a xs s) w l

-- the mass of the waiting calls, on a line without end
pub tail_of : (p : PlanParts) (xs : List ℕ) (z : ℕ) → IsSolution p xs z → p.line ≡ line.Infinite
    → (all_service p - all_calls p) * z ≡ all_calls p * mass_in xs (full_word p)
tail_of p xs z s e = subst (λ l. IsTail l p xs z) e s.tail

pub stable_of : {most : ℕ} (p : PlanParts) → IsAcceptedUpTo most p → p.line ≡ line.Infinite → all_calls p < all_service p
stable_of p a e = subst (λ l. IsStable l (all_calls p) (all_service p)) e a.stable

pub words_are_positive : {most : ℕ} (p : PlanParts) → IsAcceptedUpTo most p → AreWordsPositive p
words_are_positive p a xs z s w l = omega (arith, word_positive p a xs s.words w l)

some_waiting : (d z : ℕ) → 0 < d * z → 1 ≤ z
some_waiting d zero h = absurd (omega arith)
some_waiting d (suc z) h = omega arith

pub tail_is_positive : {most : ℕ} (p : PlanParts) → IsAcceptedUpTo most p → IsTailPositive p
tail_is_positive p a xs z s e =
    let full = word_positive p a xs s.words (full_word p) (full_below p) in
    some_waiting (all_service p - all_calls p) z (omega (arith, tail_of p xs z s e, mul-pos a.atoms.calls.low full))

pub words_proportional : {most : ℕ} (p : PlanParts) → IsAcceptedUpTo most p → (xs ys : List ℕ) → SolvesWords p xs → SolvesWords p ys
    → (v w : ℕ) → v < words p → w < words p → mass_in xs v * mass_in ys w ≡ mass_in xs w * mass_in ys v
words_proportional p a xs ys s t v w l k =
    proportional (words p) (word_table p) (mass_in xs) (mass_in ys) (words_descend p a)
    (solves_word_table p a xs s) (solves_word_table p a ys t) v w l k

pub words_are_proportional : {most : ℕ} (p : PlanParts) → IsAcceptedUpTo most p → AreWordsProportional p
words_are_proportional p a xs ys z t s r v w l k = words_proportional p a xs ys s.words r.words v w l k

pub tail_is_proportional : {most : ℕ} (p : PlanParts) → IsAcceptedUpTo most p → IsTailProportional p
tail_is_proportional p a xs ys z t s r v l = on_line p.line refl
  where
    on_line : (l : Line) → p.line ≡ l → mass_in xs v * t ≡ z * mass_in ys v
    on_line line.Zero e =
        let none : z ≡ 0 = subst (λ c. IsTail c p xs z) e s.tail in
        let nor : t ≡ 0 = subst (λ c. IsTail c p ys t) e r.tail in
        omega (arith, ap (λ c. mass_in xs v * c) nor, ap (λ c. c * mass_in ys v) none)
    on_line line.Infinite e =
        let stable = stable_of p a e in
        same_factor (all_service p - all_calls p) (mass_in xs v * t) (z * mass_in ys v) (omega arith)
        (omega (
          arith,
          ap (λ c. mass_in xs v * c) (tail_of p ys t r e),
          ap (λ c. c * mass_in ys v) (tail_of p xs z s e),
          ap (λ c. all_calls p * c) (words_proportional p a xs ys s.words r.words v (full_word p) l (full_below p)),
        ))
