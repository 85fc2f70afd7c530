-- What the parts of weights enclose, whatever masses of words the weights enclose.
use Rattle.std.proofs.Common.{◌≡◌, ℕ, ◌+◌, ◌*◌, ◌^◌, ◌<◌, ◌≤◌, cond, leb, List, length, slice_index, ap, subst, ◌∙◌, arith}
use Rattle.hyper_model.specs.declared.kinds.Line.{Line}
use Rattle.hyper_model.specs.declared.kinds.Line.TheVariants as line
use Rattle.hyper_model.specs.declared.parts.PlanParts.{PlanParts}
use Rattle.hyper_model.specs.Sums.{sum_below}
use Rattle.hyper_model.specs.Plans.{units, split}
use Rattle.hyper_model.specs.Words.{words, full_word, is_busy}
use Rattle.hyper_model.specs.Solutions.{mass_in, IsTail}
use Rattle.hyper_model.specs.Measures.{mass, base, base_on, taken_mass}
use Rattle.hyper_model.proofs.Bits.{full_busy, words_full}
use Rattle.hyper_model.proofs.Masses.{all_words}
use Rattle.hyper_model.proofs.Takers.{split_positive}
use Rattle.fixed_interval.specs.Ends.{Ends, Encloses}
use Rattle.fixed_interval.specs.WeightList.{EnclosesAll, ends_at}
use Rattle.fixed_interval.proofs.Scaled.{Holds, holds_of_list}
use Rattle.busy_words.specs.Order.{WordOrder, word_or_full}
use Rattle.busy_words.specs.Parts.{weighed_numbers}
use Rattle.busy_words.specs.WeightParts.{places_on, places, base_places_on, base_places, IsOrderOf, masses_by_place, busy_part, full_part, tail_part, taken_part, taken_shares, other_shares}
use Rattle.busy_words.proofs.SetParts.{holds_fewer, part_encloses, set_part_encloses}
use Rattle.busy_words.proofs.Places as places_of

-- masses of states in which a call is answered are some of all
pub mass_of_base : (p : PlanParts) (x : ℕ → ℕ) (z : ℕ) → 0 < base p x z → 0 < mass p x z
mass_of_base p x z = on_line p.line
  where
    on_line : (l : Line) → 0 < base_on l p x z → 0 < mass p x z
    on_line line.Zero some = omega (arith, some, all_words p x)
    on_line line.Infinite some = some

base_fewer : (p : PlanParts) → base_places p ≤ places p
base_fewer p = on_line p.line
  where
    on_line : (l : Line) → base_places_on l p ≤ places_on l p
    on_line line.Zero = omega (arith, words_full (units p))
    on_line line.Infinite = omega arith

module _ (p : PlanParts) (order : WordOrder) (o : IsOrderOf p order) (items : List Ends) (xs : List ℕ) (z : ℕ)
    (tail : IsTail p.line p xs z) (some : 0 < mass p (mass_in xs) z)
    (e : EnclosesAll items (masses_by_place p order xs z)) where
  abbrev numbers : ℕ → ℕ
  numbers i = slice_index (masses_by_place p order xs z) i

  -- a weight for each place
  pub weights_one_each : length items ≡ places p
  weights_one_each = e.same_length ∙ places_of.one_each_place p order o xs z

  pub weights_hold : Holds (places p) (ends_at items) numbers
  weights_hold =
      subst (λ n. Holds n (ends_at items) numbers) weights_one_each
      (holds_of_list items (masses_by_place p order xs z) e)

  all_numbers : sum_below (places p) numbers ≡ mass p (mass_in xs) z
  all_numbers = places_of.sum_of_all p order o xs z tail

  some_number : 0 < sum_below (places p) numbers
  some_number = omega (arith, all_numbers, some)

  pub busy_part_encloses : (n : ℕ) → n < units p
      → Encloses (busy_part p order (ends_at items) n)
      (2 ^ 62 * (sum_below (words p) (λ w. cond (is_busy w n) (mass_in xs w) 0) + z)) (mass p (mass_in xs) z)
  busy_part_encloses n l =
      let inside : sum_below (places p) (λ i. cond (is_busy (word_or_full order i) n) (numbers i) 0)
      ≡ sum_below (words p) (λ w. cond (is_busy w n) (mass_in xs w) 0) + z =
      places_of.sum_by_place p order o xs z tail (λ w x. cond (is_busy w n) x 0)
      (ap (λ b. cond b 0 0) (full_busy (units p) n l))
      ∙ ap (λ b. sum_below (words p) (λ w. cond (is_busy w n) (mass_in xs w) 0) + cond b z 0) (full_busy (units p) n l) in
      rw (← inside, ← all_numbers)
      (set_part_encloses (2 ^ 62) (places p) (λ i. is_busy (word_or_full order i) n) (ends_at items) numbers weights_hold
      some_number)

  pub full_part_encloses : Encloses (full_part p (ends_at items)) (2 ^ 62 * (mass_in xs (full_word p) + z))
      (mass p (mass_in xs) z)
  full_part_encloses =
      rw (← places_of.sum_from_full p order o xs z tail, ← all_numbers)
      (set_part_encloses (2 ^ 62) (places p) (λ i. leb (full_word p) i) (ends_at items) numbers weights_hold some_number)

  pub tail_part_encloses : Encloses (tail_part p (ends_at items)) (2 ^ 62 * z) (mass p (mass_in xs) z)
  tail_part_encloses =
      let set = set_part_encloses (2 ^ 62) (places p) (λ i. leb (words p) i) (ends_at items) numbers weights_hold some_number in
      let waiting = places_of.sum_from_tail p order o xs z tail in
      subst (λ m. Encloses (tail_part p (ends_at items)) (2 ^ 62 * z) m) all_numbers
      (subst (λ k. Encloses (tail_part p (ends_at items)) (2 ^ 62 * k) (sum_below (places p) numbers)) waiting set)

  pub taken_part_encloses : 0 < base p (mass_in xs) z → (n j : ℕ) → n < units p
      → Encloses (taken_part p order (ends_at items) n j) (2 ^ 62 * taken_mass p (mass_in xs) n j)
      (split p * base p (mass_in xs) z)
  taken_part_encloses answered n j l =
      let m = base_places p in
      let here = λ (i : ℕ). taken_shares p n j (word_or_full order i) in
      let there = λ (i : ℕ). other_shares p n j (word_or_full order i) in
      let all = places_of.sum_of_base p order o xs z tail in
      let taken = places_of.sum_of_taken p order o xs z n j l tail in
      let whole : weighed_numbers m here numbers + weighed_numbers m there numbers ≡ split p * base p (mass_in xs) z =
      places_of.sum_of_shares p order o xs z n j m ∙ ap (λ k. split p * k) all in
      let found = part_encloses (2 ^ 62) m (split p) here there (ends_at items) numbers (split_positive p)
      (holds_fewer (places p) m (ends_at items) numbers (base_fewer p) weights_hold)
      (omega (arith, all, answered)) in
      subst (λ d. Encloses (taken_part p order (ends_at items) n j) (2 ^ 62 * taken_mass p (mass_in xs) n j) d) whole
      (subst (λ k. Encloses (taken_part p order (ends_at items) n j) (2 ^ 62 * k)
      (weighed_numbers m here numbers + weighed_numbers m there numbers)) taken found)
