-- Sums over the places of a plan's weights are sums over its words, and the mass that waits.
use Rattle.std.proofs.Common.{◌≡◌, ℕ, suc, ◌+◌, ◌-◌, ◌*◌, ◌^◌, ◌<◌, ◌≤◌, Bool, true, false, cond, leb, List, [], ◌∷◌, ◌++◌, length, map, slice_index, refl, sym, ap, ◌∙◌, arith, length-append}
use Rattle.std.proofs.lemmas.Bool.Decides.{nat_tests}
use Rattle.std.proofs.lemmas.List.{get_or_append_left, get_or-map, get_or_default, length-map}
use Rattle.std.proofs.Math.Nat.{div-le_self}
use Rattle.std.proofs.Math.ListN.{get_or-eq_default}
use Rattle.std.proofs.Math.Seq.{get_or-append_seam}
use Rattle.hyper_model.specs.declared.kinds.Line.{Line}
use Rattle.hyper_model.specs.declared.kinds.Line.TheVariants as line
use Rattle.hyper_model.specs.declared.parts.PlanParts.{PlanParts}
use Rattle.hyper_model.specs.Sums.{sum_below}
use Rattle.hyper_model.specs.Plans.{units, split}
use Rattle.hyper_model.specs.Words.{words, full_word, takes, taker_count, portion}
use Rattle.hyper_model.specs.Solutions.{mass_in, IsTail}
use Rattle.hyper_model.specs.Measures.{mass, base_on, base, taken_mass}
use Rattle.hyper_model.proofs.Sums.{sum-same, sum-add, sum-scaled, sum_none}
use Rattle.hyper_model.proofs.Bits.{full_busy, words_full}
use Rattle.hyper_model.proofs.Relabel.{sum_relabelled}
use Rattle.hyper_model.proofs.Takers.{not_taken}
use Rattle.hyper_model.proofs.PlanLaws.{full_below}
use Rattle.hyper_model.proofs.Masses.{all_words}
use Rattle.busy_words.specs.Order.{WordOrder, word_at, word_or_full}
use Rattle.busy_words.specs.Parts.{weighed_numbers}
use Rattle.busy_words.specs.WeightParts.{places_on, places, base_places_on, base_places, IsOrderOf, tail_masses, masses_by_place, taken_shares, other_shares}
use Rattle.busy_words.proofs.Ordering.{words_inverse, last_word}

-- one more addend; and addends that pass a test from a place on
one_more : (m n : ℕ) → m ≡ suc n → (g : ℕ → ℕ) → (a b : ℕ) → sum_below n g ≡ a → g n ≡ b → sum_below m g ≡ a + b
one_more m n e g a b first last = rw e (omega (arith, first, last))

from_itself : (first i : ℕ) (f : ℕ → ℕ) → first ≤ i → cond (leb first i) (f i) 0 ≡ f i
from_itself first i f le = grind (arith, nat_tests)

none_before : (n first : ℕ) (f : ℕ → ℕ) → n ≤ first → sum_below n (λ i. cond (leb first i) (f i) 0) ≡ 0
none_before n first f le = sum_none n (λ i. cond (leb first i) (f i) 0) (λ i l. below first i f (omega arith))
  where
    below : (first i : ℕ) (f : ℕ → ℕ) → i < first → cond (leb first i) (f i) 0 ≡ 0
    below first i f l = grind (arith, nat_tests)

module _ (p : PlanParts) (order : WordOrder) (o : IsOrderOf p order) where
  -- the word at a place, and past the words
  pub word_of_place : (i : ℕ) → i < words p → word_or_full order i ≡ word_at order i
  word_of_place i l = get_or_default order.words i (2 ^ order.units - 1) 0 (omega (arith, o.ordered.one_each))

  pub word_past : (i : ℕ) → words p ≤ i → word_or_full order i ≡ full_word p
  word_past i l =
      get_or-eq_default order.words (2 ^ order.units - 1) (omega (arith, o.ordered.one_each))
      ∙ ap (λ n. 2 ^ n - 1) o.same_units

  -- the full word stands at the last place of the words
  pub full_place : word_at order (full_word p) ≡ full_word p
  full_place = last_word (units p) order.words o.ordered

  -- the words' masses in their order, and after them any others
  module _ (xs after : List ℕ) where
    abbrev mass_at : ℕ → ℕ
    mass_at i = slice_index (map (mass_in xs) order.words ++ after) i

    pub mass_of_word : (i : ℕ) → i < words p → mass_at i ≡ mass_in xs (word_at order i)
    mass_of_word i l =
        let inside : i < length order.words = omega (arith, o.ordered.one_each) in
        let mapped : i < length (map (mass_in xs) order.words) =
        omega (arith, inside, length-map order.words (mass_in xs)) in
        get_or_append_left (map (mass_in xs) order.words) after 0 i mapped
        ∙ get_or-map (mass_in xs) order.words i 0 0 inside

    -- a sum over the words by rank, of a test and a number of times for each
    pub sum_over_words : (f : ℕ → ℕ → ℕ)
        → sum_below (words p) (λ i. f (word_or_full order i) (mass_at i))
        ≡ sum_below (words p) (λ w. f w (mass_in xs w))
    sum_over_words f =
        sum-same (words p) (λ i. f (word_or_full order i) (mass_at i))
        (λ i. f (word_at order i) (mass_in xs (word_at order i)))
        (λ i l. ap (λ w. f w (mass_at i)) (word_of_place i l) ∙ ap (f (word_at order i)) (mass_of_word i l))
        ∙ sum_relabelled (words p) (word_at order) _ (λ w. f w (mass_in xs w)) (words_inverse (units p) order.words o.ordered)

  module _ (xs : List ℕ) (z : ℕ) where
    abbrev number : ℕ → ℕ
    number i = slice_index (masses_by_place p order xs z) i

    pub mass_of_place : (i : ℕ) → i < words p → number i ≡ mass_in xs (word_at order i)
    mass_of_place i l = mass_of_word xs (tail_masses p.line z) i l

    words_mapped : length (map (mass_in xs) order.words) ≡ words p
    words_mapped = length-map order.words (mass_in xs) ∙ o.ordered.one_each

    pub one_each_place : length (masses_by_place p order xs z) ≡ places p
    one_each_place = on_line p.line
      where
        on_line : (l : Line) → length (map (mass_in xs) order.words ++ tail_masses l z) ≡ places_on l p
        on_line line.Zero = omega (arith, length-append (map (mass_in xs) order.words) [], words_mapped)
        on_line line.Infinite = omega (arith, length-append (map (mass_in xs) order.words) (z ∷ []), words_mapped)

    pub mass_of_tail : p.line ≡ line.Infinite → number (words p) ≡ z
    mass_of_tail infinite =
        ap (λ l. slice_index (map (mass_in xs) order.words ++ tail_masses l z) (words p)) infinite
        ∙ ap (λ i. slice_index (map (mass_in xs) order.words ++ z ∷ []) i) (sym words_mapped)
        ∙ get_or-append_seam (map (mass_in xs) order.words) z [] 0

    sum_by_rank : (f : ℕ → ℕ → ℕ)
        → sum_below (words p) (λ i. f (word_or_full order i) (number i))
        ≡ sum_below (words p) (λ w. f w (mass_in xs w))
    sum_by_rank f = sum_over_words xs (tail_masses p.line z) f

    -- and over all places: the calls that wait stand at the full word
    pub sum_by_place : IsTail p.line p xs z → (f : ℕ → ℕ → ℕ) → f (full_word p) 0 ≡ 0
        → sum_below (places p) (λ i. f (word_or_full order i) (number i))
        ≡ sum_below (words p) (λ w. f w (mass_in xs w)) + f (full_word p) z
    sum_by_place tail f none = on_line p.line refl tail
      where
        on_line : (l : Line) → p.line ≡ l → IsTail l p xs z
            → sum_below (places_on l p) (λ i. f (word_or_full order i) (number i))
            ≡ sum_below (words p) (λ w. f w (mass_in xs w)) + f (full_word p) z
        on_line line.Zero e t = omega (arith, sum_by_rank f, ap (f (full_word p)) t, none)
        on_line line.Infinite e t =
            let past = ap (λ w. f w (number (words p))) (word_past (words p) (let le : words p ≤ words p = omega arith in le))
            ∙ ap (f (full_word p)) (mass_of_tail e) in
            one_more (words p + 1) (words p) (omega arith) (λ i. f (word_or_full order i) (number i)) _ _ (sum_by_rank f) past

    pub sum_of_all : IsTail p.line p xs z → sum_below (places p) number ≡ mass p (mass_in xs) z
    sum_of_all tail = sum_by_place tail (λ w x. x) refl

    -- the place of the full word and that of the calls that wait
    pub sum_from_full : IsTail p.line p xs z
        → sum_below (places p) (λ i. cond (leb (full_word p) i) (number i) 0) ≡ mass_in xs (full_word p) + z
    sum_from_full tail = on_line p.line refl tail
      where
        words_part : sum_below (words p) (λ i. cond (leb (full_word p) i) (number i) 0) ≡ mass_in xs (full_word p)
        words_part =
            one_more (words p) (full_word p) (words_full (units p)) (λ i. cond (leb (full_word p) i) (number i) 0) 0 _
            (none_before (full_word p) (full_word p) number (let le : full_word p ≤ full_word p = omega arith in le))
            (from_itself (full_word p) (full_word p) number (let le : full_word p ≤ full_word p = omega arith in le)
            ∙ mass_of_place (full_word p) (full_below p) ∙ ap (mass_in xs) full_place)
            ∙ omega arith

        on_line : (l : Line) → p.line ≡ l → IsTail l p xs z
            → sum_below (places_on l p) (λ i. cond (leb (full_word p) i) (number i) 0) ≡ mass_in xs (full_word p) + z
        on_line line.Zero e t = omega (arith, words_part, t)
        on_line line.Infinite e t =
            one_more (words p + 1) (words p) (omega arith) (λ i. cond (leb (full_word p) i) (number i) 0) _ z words_part
            (from_itself (full_word p) (words p) number (let le : full_word p ≤ words p = omega arith in le)
            ∙ mass_of_tail e)

    pub sum_from_tail : IsTail p.line p xs z
        → sum_below (places p) (λ i. cond (leb (words p) i) (number i) 0) ≡ z
    sum_from_tail tail = on_line p.line refl tail
      where
        words_part : sum_below (words p) (λ i. cond (leb (words p) i) (number i) 0) ≡ 0
        words_part = none_before (words p) (words p) number (let le : words p ≤ words p = omega arith in le)

        on_line : (l : Line) → p.line ≡ l → IsTail l p xs z
            → sum_below (places_on l p) (λ i. cond (leb (words p) i) (number i) 0) ≡ z
        on_line line.Zero e t = words_part ∙ sym t
        on_line line.Infinite e t =
            one_more (words p + 1) (words p) (omega arith) (λ i. cond (leb (words p) i) (number i) 0) 0 z words_part
            (from_itself (words p) (words p) number (let le : words p ≤ words p = omega arith in le) ∙ mass_of_tail e)
            ∙ omega arith

    -- the places of the states in which a call that comes is answered
    before_full : (f : ℕ → ℕ → ℕ)
        → sum_below (full_word p) (λ i. f (word_or_full order i) (number i)) + f (full_word p) (mass_in xs (full_word p))
        ≡ sum_below (words p) (λ w. f w (mass_in xs w))
    before_full f =
        let last : f (word_or_full order (full_word p)) (number (full_word p)) ≡ f (full_word p) (mass_in xs (full_word p)) =
        ap (λ w. f w (number (full_word p))) (word_of_place (full_word p) (full_below p) ∙ full_place)
        ∙ ap (f (full_word p)) (mass_of_place (full_word p) (full_below p) ∙ ap (mass_in xs) full_place) in
        sym (one_more (words p) (full_word p) (words_full (units p)) (λ i. f (word_or_full order i) (number i)) _ _ refl last)
        ∙ sum_by_rank f

    pub sum_of_base : IsTail p.line p xs z → sum_below (base_places p) number ≡ base p (mass_in xs) z
    sum_of_base tail = on_line p.line refl tail
      where
        on_line : (l : Line) → p.line ≡ l → IsTail l p xs z
            → sum_below (base_places_on l p) number ≡ base_on l p (mass_in xs) z
        on_line line.Zero e t = omega (arith, before_full (λ w x. x), all_words p (mass_in xs))
        on_line line.Infinite e t =
            one_more (words p + 1) (words p) (omega arith) number _ z (sum_by_rank (λ w x. x)) (mass_of_tail e)

    module _ (n j : ℕ) (unit : n < units p) where
      none_taken : (x : ℕ) → taken_shares p n j (full_word p) * x ≡ 0
      none_taken x =
          ap (λ b. cond b (portion p j (full_word p)) 0 * x)
          (not_taken p j (full_word p) n (full_busy (units p) n unit))
          ∙ omega arith

      taken_words : sum_below (words p) (λ w. taken_shares p n j w * mass_in xs w) ≡ taken_mass p (mass_in xs) n j
      taken_words =
          sum-same (words p) (λ w. taken_shares p n j w * mass_in xs w)
          (λ w. cond (takes p j w n) (mass_in xs w * portion p j w) 0)
          (λ w l. times_turned (takes p j w n) (portion p j w) (mass_in xs w))
        where
          times_turned : (b : Bool) (k x : ℕ) → cond b k 0 * x ≡ cond b (x * k) 0
          times_turned true k x = omega arith
          times_turned false k x = omega arith

      pub sum_of_taken : IsTail p.line p xs z
          → weighed_numbers (base_places p) (λ i. taken_shares p n j (word_or_full order i)) number
          ≡ taken_mass p (mass_in xs) n j
      sum_of_taken tail = on_line p.line refl
        where
          on_line : (l : Line) → p.line ≡ l
              → sum_below (base_places_on l p) (λ i. taken_shares p n j (word_or_full order i) * number i)
              ≡ taken_mass p (mass_in xs) n j
          on_line line.Zero e =
              omega (arith, before_full (λ w x. taken_shares p n j w * x), none_taken (mass_in xs (full_word p)), taken_words)
          on_line line.Infinite e =
              let past = ap (λ w. taken_shares p n j w * number (words p))
              (word_past (words p) (let le : words p ≤ words p = omega arith in le))
              ∙ none_taken (number (words p)) in
              one_more (words p + 1) (words p) (omega arith)
              (λ i. taken_shares p n j (word_or_full order i) * number i) _ 0
              (sum_by_rank (λ w x. taken_shares p n j w * x)) past
              ∙ omega (arith, taken_words)

    -- the shares that go to a unit and the others are all shares
    shares_whole : (n j word : ℕ) → taken_shares p n j word + other_shares p n j word ≡ split p
    shares_whole n j word = whole (takes p j word n) (portion p j word) (split p) (div-le_self (split p) (taker_count p j word))
      where
        whole : (b : Bool) (k s : ℕ) → k ≤ s → cond b k 0 + cond b (s - k) s ≡ s
        whole true k s le = omega arith
        whole false k s le = omega arith

    pub sum_of_shares : (n j m : ℕ)
        → weighed_numbers m (λ i. taken_shares p n j (word_or_full order i)) number
        + weighed_numbers m (λ i. other_shares p n j (word_or_full order i)) number
        ≡ split p * sum_below m number
    sum_of_shares n j m =
        sym (sum-add m (λ i. taken_shares p n j (word_or_full order i) * number i)
        (λ i. other_shares p n j (word_or_full order i) * number i))
        ∙ sum-same m
        (λ i. taken_shares p n j (word_or_full order i) * number i + other_shares p n j (word_or_full order i) * number i)
        (λ i. split p * number i)
        (λ i l. omega (arith, ap (λ s. s * number i) (shares_whole n j (word_or_full order i))))
        ∙ sum-scaled m (split p) number
