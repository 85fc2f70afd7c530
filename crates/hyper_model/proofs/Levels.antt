-- Equal service rates: as many calls come while at most k units are busy as services end while k + 1 are.
use Rattle.std.proofs.Common.{◌≡◌, ◌≢◌, ℕ, ◌+◌, ◌-◌, ◌*◌, ◌^◌, ◌<◌, Bool, true, false, not, cond, eqb, leb, refl, sym, ap, ◌∙◌, eqb-true, arith}
use Rattle.std.proofs.lemmas.Bool.Decides.{nat_tests}
use Rattle.hyper_model.specs.declared.parts.PlanParts.{PlanParts}
use Rattle.hyper_model.specs.Sums.{sum_below}
use Rattle.hyper_model.specs.Plans.{units, service_of, all_calls, split, IsAcceptedUpTo}
use Rattle.hyper_model.specs.Words.{words, is_busy, full_word, turned_word}
use Rattle.hyper_model.specs.Rates.{up}
use Rattle.hyper_model.specs.Solutions.{mass_in}
use Rattle.hyper_model.specs.Tables.{turn_rate}
use Rattle.hyper_model.specs.Laws.{level, level_mass, LevelsLaw}
use Rattle.hyper_model.proofs.Sums.{on_test, sum-same, sum-add, sum-scaled, sum-swap, sum_none, sum-constant, sum_changed, sum-permuted, choices_sum, same_factor, cond_scaled}
use Rattle.hyper_model.proofs.Bits.{turned_twice, turned_lt, busy_turned, busy_turned_other, full_busy, free_exists}
use Rattle.hyper_model.proofs.Takers.{up_busy, up_all, split_positive}
use Rattle.hyper_model.proofs.WordTables.{rate_busy, rate_free, coming_is, leaving_is}

count_changed : (n w k : ℕ) → k < n
    → level n (turned_word w k) + cond (is_busy w k) 1 0 ≡ level n w + cond (is_busy (turned_word w k) k) 1 0
count_changed n w k l =
    sum_changed n (λ i. cond (is_busy (turned_word w k) i) 1 0) (λ i. cond (is_busy w i) 1 0) k l
    (λ i m ne. ap {B = ℕ} (λ c. cond c 1 0) (busy_turned_other w k i ne))

-- a unit that is sent raises the level by one, and one that ends its service lowers it
pub level_up : (n w k : ℕ) → k < n → is_busy w k ≡ false → level n (turned_word w k) ≡ level n w + 1
level_up n w k l f =
    omega (
      arith,
      count_changed n w k l,
      ap {B = ℕ} (λ c. cond c 1 0) f,
      ap {B = ℕ} (λ c. cond c 1 0) (busy_turned w k ∙ ap not f),
    )

pub level_down : (n w k : ℕ) → k < n → is_busy w k ≡ true → level n (turned_word w k) + 1 ≡ level n w
level_down n w k l b =
    omega (
      arith,
      count_changed n w k l,
      ap {B = ℕ} (λ c. cond c 1 0) b,
      ap {B = ℕ} (λ c. cond c 1 0) (busy_turned w k ∙ ap not b),
    )

-- all units are busy in the full word
pub level_full : (k : ℕ) → level k (2 ^ k - 1) ≡ k
level_full k =
    sum-same k (λ i. cond (is_busy (2 ^ k - 1) i) 1 0) (λ i. 1)
    (λ i l. ap {B = ℕ} (λ c. cond c 1 0) (full_busy k i l))
    ∙ omega (arith, sum-constant k 1)

-- tests on levels, over plain numbers
same_low : (a b k r : ℕ) → b + 1 ≡ a → cond (leb a k) r 0 + cond (eqb a (k + 1)) r 0 ≡ cond (leb b k) r 0
same_low a b k r e = grind (arith, nat_tests)

same_high : (a b k r : ℕ) → b ≡ a + 1 → cond (leb a k) r 0 ≡ cond (leb b k) r 0 + cond (eqb a k) r 0
same_high a b k r e = grind (arith, nat_tests)

nothing : (t : Bool) (r : ℕ) → r ≡ 0 → cond t r 0 ≡ 0
nothing true r e = e
nothing false r e = refl

-- one test before a sum, or before each of its places
guarded : (n : ℕ) (b : Bool) (f : ℕ → ℕ) → sum_below n (λ i. cond b (f i) 0) ≡ cond b (sum_below n f) 0
guarded n true f = refl
guarded n false f = sum_none n (λ i. 0) (λ i l. refl)

module _ {most : ℕ} (p : PlanParts) (a : IsAcceptedUpTo most p) (x : ℕ → ℕ) (k : ℕ) (l : k < units p) where
  -- what unit n moves out of the words of at most k busy units, and into them
  abbrev out : ℕ → ℕ → ℕ
  out w n = cond (leb (level (units p) w) k) (turn_rate p w n) 0

  abbrev into : ℕ → ℕ → ℕ
  into w n = cond (leb (level (units p) (turned_word w n)) k) (turn_rate p w n) 0

  abbrev ends : ℕ → ℕ → ℕ
  ends w n = cond (eqb (level (units p) w) (k + 1)) (cond (is_busy w n) (split p * service_of p n) 0) 0

  abbrev begins : ℕ → ℕ → ℕ
  begins w n = cond (eqb (level (units p) w) k) (up p w n) 0

  of_unit : (w n : ℕ) → n < units p → out w n + ends w n ≡ into w n + begins w n
  of_unit w n h = on_test (is_busy w n)
      (λ b.
      omega (
        arith,
        ap (λ c. cond (leb (level (units p) w) k) c 0) (rate_busy p w n b),
        ap (λ c. cond (leb (level (units p) (turned_word w n)) k) c 0) (rate_busy p w n b),
        ap (λ c. cond (eqb (level (units p) w) (k + 1)) (cond c (split p * service_of p n) 0) 0) b,
        nothing (eqb (level (units p) w) k) (up p w n) (up_busy p w n b),
        same_low (level (units p) w) (level (units p) (turned_word w n)) k (split p * service_of p n)
            (level_down (units p) w n h b),
      ))
      (λ f.
      omega (
        arith,
        ap (λ c. cond (leb (level (units p) w) k) c 0) (rate_free p w n f),
        ap (λ c. cond (leb (level (units p) (turned_word w n)) k) c 0) (rate_free p w n f),
        ap (λ c. cond (eqb (level (units p) w) (k + 1)) (cond c (split p * service_of p n) 0) 0) f,
        nothing (eqb (level (units p) w) (k + 1)) 0 refl,
        same_high (level (units p) w) (level (units p) (turned_word w n)) k (up p w n)
            (level_up (units p) w n h f),
      ))

  -- all units together
  of_word : (w : ℕ)
      → sum_below (units p) (out w) + sum_below (units p) (ends w)
      ≡ sum_below (units p) (into w) + sum_below (units p) (begins w)
  of_word w =
      sym (sum-add (units p) (out w) (ends w))
      ∙ sum-same (units p) (λ n. out w n + ends w n) (λ n. into w n + begins w n) (λ n h. of_unit w n h)
      ∙ sum-add (units p) (into w) (begins w)

  -- in a solution as much moves out of these words as into them
  abbrev moved : ℕ → ℕ → ℕ
  moved n v = cond (leb (level (units p) (turned_word v n)) k) (x v * turn_rate p v n) 0

  module _ (balanced : (w : ℕ) → w < words p
      → x w * sum_below (units p) (turn_rate p w) ≡ sum_below (units p) (λ n. x (turned_word w n) * turn_rate p (turned_word w n) n)) where
    out_of_word : (w : ℕ) → w < words p → x w * sum_below (units p) (out w) ≡ sum_below (units p) (λ n. moved n (turned_word w n))
    out_of_word w h =
        ap (λ c. x w * c) (guarded (units p) (leb (level (units p) w) k) (turn_rate p w))
        ∙ cond_scaled (leb (level (units p) w) k) (x w) (sum_below (units p) (turn_rate p w))
        ∙ ap (λ c. cond (leb (level (units p) w) k) c 0) (balanced w h)
        ∙ sym (guarded (units p) (leb (level (units p) w) k) (λ n. x (turned_word w n) * turn_rate p (turned_word w n) n))
        ∙ sum-same (units p)
        (λ n. cond (leb (level (units p) w) k) (x (turned_word w n) * turn_rate p (turned_word w n) n) 0)
        (λ n. moved n (turned_word w n))
        (λ n m. ap (λ v. cond (leb (level (units p) v) k) (x (turned_word w n) * turn_rate p (turned_word w n) n) 0)
        (sym (turned_twice w n)))

    into_word : (w : ℕ) → sum_below (units p) (λ n. moved n w) ≡ x w * sum_below (units p) (into w)
    into_word w =
        sum-same (units p) (λ n. moved n w) (λ n. x w * into w n)
        (λ n m. sym (cond_scaled (leb (level (units p) (turned_word w n)) k) (x w) (turn_rate p w n)))
        ∙ sum-scaled (units p) (x w) (into w)

    cut_balanced : sum_below (words p) (λ w. x w * sum_below (units p) (out w))
        ≡ sum_below (words p) (λ w. x w * sum_below (units p) (into w))
    cut_balanced =
        sum-same (words p) (λ w. x w * sum_below (units p) (out w)) (λ w. sum_below (units p) (λ n. moved n (turned_word w n)))
        out_of_word
        ∙ sum-swap (words p) (units p) (λ w n. moved n (turned_word w n))
        ∙ sum-same (units p) (λ n. sum_below (words p) (λ w. moved n (turned_word w n)))
        (λ n. sum_below (words p) (moved n))
        (λ n h. sum-permuted (words p) (λ w. turned_word w n) (λ w. turned_word w n) (moved n)
        (λ w m. turned_lt (units p) w n m h) (λ w m. turned_lt (units p) w n m h)
        (λ w m. turned_twice w n) (λ w m. turned_twice w n))
        ∙ sum-swap (units p) (words p) moved
        ∙ sum-same (words p) (λ w. sum_below (units p) (λ n. moved n w)) (λ w. x w * sum_below (units p) (into w))
        (λ w h. into_word w)

    cut_is : sum_below (words p) (λ w. x w * sum_below (units p) (ends w))
        ≡ sum_below (words p) (λ w. x w * sum_below (units p) (begins w))
    cut_is =
        let left = sum-add (words p) (λ w. x w * sum_below (units p) (out w)) (λ w. x w * sum_below (units p) (ends w)) in
        let right = sum-add (words p) (λ w. x w * sum_below (units p) (into w)) (λ w. x w * sum_below (units p) (begins w)) in
        let same = sum-same (words p)
        (λ w. x w * sum_below (units p) (out w) + x w * sum_below (units p) (ends w))
        (λ w. x w * sum_below (units p) (into w) + x w * sum_below (units p) (begins w))
        (λ w h. omega (arith, ap (λ c. x w * c) (of_word w))) in
        omega (arith, left, right, same, cut_balanced)

    -- calls come at one rate in each word of k busy units
    begins_are : (w : ℕ) → w < words p
        → x w * sum_below (units p) (begins w)
        ≡ split p * all_calls p * cond (eqb (level (units p) w) k) (x w) 0
    begins_are w h = on_test (eqb (level (units p) w) k)
        (λ t.
        let low : w ≢ full_word p =
        λ e. (let full : level (units p) w ≡ units p = ap (level (units p)) e ∙ level_full (units p) in
        let same = eqb-true (level (units p) w) k t in omega (arith, full, same, l)) in
        let free = free_exists (units p) w h low in
        omega (
          arith,
          ap (λ c. x w * c) (guarded (units p) (eqb (level (units p) w) k) (up p w)),
          ap (λ c. x w * cond c (sum_below (units p) (up p w)) 0) t,
          ap (λ c. x w * c) (up_all p a w free.0 free.1 free.2),
          ap (λ c. split p * all_calls p * cond c (x w) 0) t,
        ))
        (λ f.
        omega (
          arith,
          ap (λ c. x w * c) (guarded (units p) (eqb (level (units p) w) k) (up p w)),
          ap (λ c. x w * cond c (sum_below (units p) (up p w)) 0) f,
          ap (λ c. split p * all_calls p * cond c (x w) 0) f,
        ))

    module _ (rate : ℕ) (equal : (n : ℕ) → n < units p → service_of p n ≡ rate) where
      served : (w : ℕ) → sum_below (units p) (λ n. cond (is_busy w n) (split p * service_of p n) 0)
          ≡ split p * rate * level (units p) w
      served w =
          sum-same (units p) (λ n. cond (is_busy w n) (split p * service_of p n) 0)
          (λ n. cond (is_busy w n) (split p * rate) 0)
          (λ n h. ap (λ c. cond (is_busy w n) (split p * c) 0) (equal n h))
          ∙ choices_sum (units p) (split p * rate) (is_busy w)

      -- and services end at one rate in each word of k + 1 busy units
      ends_are : (w : ℕ)
          → x w * sum_below (units p) (ends w)
          ≡ split p * rate * (k + 1) * cond (eqb (level (units p) w) (k + 1)) (x w) 0
      ends_are w = on_test (eqb (level (units p) w) (k + 1))
          (λ t.
          omega (
            arith,
            ap (λ c. x w * c) (guarded (units p) (eqb (level (units p) w) (k + 1))
                (λ n. cond (is_busy w n) (split p * service_of p n) 0)),
            ap (λ c. x w * cond c (sum_below (units p) (λ n. cond (is_busy w n) (split p * service_of p n) 0)) 0) t,
            ap (λ c. x w * c) (served w),
            ap (λ c. x w * split p * rate * c) (eqb-true (level (units p) w) (k + 1) t),
            ap (λ c. split p * rate * (k + 1) * cond c (x w) 0) t,
          ))
          (λ f.
          omega (
            arith,
            ap (λ c. x w * c) (guarded (units p) (eqb (level (units p) w) (k + 1))
                (λ n. cond (is_busy w n) (split p * service_of p n) 0)),
            ap (λ c. x w * cond c (sum_below (units p) (λ n. cond (is_busy w n) (split p * service_of p n) 0)) 0) f,
            ap (λ c. split p * rate * (k + 1) * cond c (x w) 0) f,
          ))

      pub levels_are : (k + 1) * rate * level_mass p x (k + 1) ≡ all_calls p * level_mass p x k
      levels_are =
          same_factor (split p) ((k + 1) * rate * level_mass p x (k + 1)) (all_calls p * level_mass p x k)
          (split_positive p)
          (omega (
            arith,
            cut_is,
            sum-same (words p) (λ w. x w * sum_below (units p) (ends w))
                (λ w. split p * rate * (k + 1) * cond (eqb (level (units p) w) (k + 1)) (x w) 0)
                (λ w h. ends_are w),
            sum-same (words p) (λ w. x w * sum_below (units p) (begins w))
                (λ w. split p * all_calls p * cond (eqb (level (units p) w) k) (x w) 0) begins_are,
            sum-scaled (words p) (split p * rate * (k + 1)) (λ w. cond (eqb (level (units p) w) (k + 1)) (x w) 0),
            sum-scaled (words p) (split p * all_calls p) (λ w. cond (eqb (level (units p) w) k) (x w) 0),
          ))

pub has_levels : {most : ℕ} (p : PlanParts) → IsAcceptedUpTo most p → LevelsLaw p
has_levels p a rate equal xs z s k l =
    levels_are p a (mass_in xs) k l
    (λ w h. ap (λ c. mass_in xs w * c) (sym (leaving_is p a w h)) ∙ s.words.balanced w h ∙ coming_is p (mass_in xs) w)
    rate equal
