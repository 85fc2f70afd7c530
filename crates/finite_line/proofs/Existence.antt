-- With any number of waiting places the balance equations have a solution: that of the words, times a power of all service
-- so that the masses of the states in which calls wait are whole.
use Rattle.std.proofs.Common.{◌≡◌, ℕ, zero, suc, ◌+◌, ◌-◌, ◌*◌, ◌^◌, ◌<◌, ◌≤◌, List, map, refl, sym, ap, ap₂, ◌∙◌, arith}
use Rattle.std.specs.List.{range_with_len}
use Rattle.std.proofs.lemmas.List.{get_or-map, length-map}
use Rattle.std.proofs.lemmas.List.FromFn.{length-map-range_with_len}
use Rattle.std.proofs.Math.Nat.{mul-pos, pow-suc, pow-zero}
use Rattle.hyper_model.specs.declared.parts.PlanParts.{PlanParts}
use Rattle.hyper_model.specs.Sums.{sum_below}
use Rattle.hyper_model.specs.Plans.{units, all_calls, all_service, split, IsAccepted}
use Rattle.hyper_model.specs.Words.{words, full_word}
use Rattle.hyper_model.specs.Rates.{IsBalancedWord, leaving_rate}
use Rattle.hyper_model.specs.Solutions.{HasSolution, mass_in}
use Rattle.hyper_model.specs.Laws.{SolvesQueue}
use Rattle.hyper_model.proofs.ListPlaces.{listed_at}
use Rattle.hyper_model.proofs.PlanLaws.{full_below, has_solution}
use Rattle.hyper_model.proofs.PlanSums.{service_positive}
use Rattle.hyper_model.proofs.Sums.{sum-same, sum-scaled}
use Rattle.hyper_model.proofs.WordTables.{flow_scaled}
use Rattle.finite_line.specs.FiniteSolutions.{HasFiniteSolution, queue_mass}

-- masses that balance at the words without waiting places, and in the queue from each state to the next, solve it
pub solves_queue : (p : PlanParts) (room : ℕ) (x q : ℕ → ℕ) → 1 ≤ room → q 0 ≡ x (full_word p)
    → ((w : ℕ) → w < words p → IsBalancedWord p x w)
    → ((k : ℕ) → k < room → all_service p * q (k + 1) ≡ all_calls p * q k) → SolvesQueue p room x q
solves_queue p room x q some first balanced next = record {
  nobody_waits = first;
  not_full = λ w l ne. balanced w l;
  full =
      omega (
        arith,
        balanced (full_word p) (full_below p),
        ap (λ c. split p * c) (next 0 (omega arith)),
        ap (λ c. split p * all_calls p * c) first,
      );
  between = λ k l.
      let more : q (k + 1 + 1) ≡ q (k + 2) = let same : k + 1 + 1 ≡ k + 2 = omega arith in ap q same in
      omega (arith, next k (omega arith), next (k + 1) l, ap (λ c. all_service p * c) more);
  last = λ k is. omega (arith, next k (omega arith));
}

module _ (p : PlanParts) (a : IsAccepted p) (room : ℕ) (some : 1 ≤ room) where
  found : HasSolution p
  found = has_solution p a

  served : 0 < all_service p
  served = service_positive p a.units

  -- the mass of the full word, which the others follow
  abbrev top : ℕ
  top = mass_in found.masses (full_word p)

  abbrev state_mass : ℕ → ℕ
  state_mass k = all_service p ^ (room - k) * (all_calls p ^ k * top)

  abbrev word_list : List ℕ
  word_list = map (λ m. all_service p ^ room * m) found.masses

  abbrev queue_list : List ℕ
  queue_list = map (λ k. state_mass (k + 1)) (range_with_len 0 room)

  word_is : (w : ℕ) → w < words p → mass_in word_list w ≡ all_service p ^ room * mass_in found.masses w
  word_is w l =
      get_or-map (λ m. all_service p ^ room * m) found.masses w 0 0 (omega (arith, found.solves.words.one_each))

  next_mass : (k : ℕ) → k < room → all_service p * state_mass (k + 1) ≡ all_calls p * state_mass k
  next_mass k l =
      let left : room - k ≡ suc (room - (k + 1)) = omega arith in
      let up_one : all_calls p ^ (k + 1) ≡ all_calls p ^ k * all_calls p =
      ap (λ n. all_calls p ^ n) (let same : k + 1 ≡ suc k = omega arith in same) ∙ pow-suc (all_calls p) k in
      let down_one : all_service p ^ (room - k) ≡ all_service p ^ (room - (k + 1)) * all_service p =
      ap (λ n. all_service p ^ n) left ∙ pow-suc (all_service p) (room - (k + 1)) in
      products (all_service p) (all_calls p) (all_service p ^ (room - (k + 1))) (all_calls p ^ k) top
      (all_service p ^ (room - k)) (all_calls p ^ (k + 1)) down_one up_one
    where
      products : (m c s t x sm ct : ℕ) → sm ≡ s * m → ct ≡ t * c → m * (s * (ct * x)) ≡ c * (sm * (t * x))
      products m c s t x sm ct e f = rw (e, f) (omega arith)

  queue_is : (k : ℕ) → k ≤ room → queue_mass p word_list queue_list k ≡ state_mass k
  queue_is zero l =
      word_is (full_word p) (full_below p)
      ∙ ap₂ (λ m t. m * t)
      (ap (λ n. all_service p ^ n) (let same : room ≡ room - 0 = omega arith in same))
      (let same : top ≡ all_calls p ^ 0 * top = omega (arith, ap (λ c. c * top) (pow-zero (all_calls p))) in same)
  queue_is (suc k) l =
      listed_at (λ j. state_mass (j + 1)) room k 0 (omega arith)
      ∙ ap state_mass (let same : k + 1 ≡ suc k = omega arith in same)

  balanced : (w : ℕ) → w < words p → IsBalancedWord p (mass_in word_list) w
  balanced w l =
      omega (
        arith,
        ap (λ m. m * leaving_rate p w) (word_is w l),
        ap (λ m. all_service p ^ room * m) (found.solves.words.balanced w l),
        flow_scaled p (all_service p ^ room) (mass_in found.masses) (mass_in word_list) word_is w l,
      )

  some_mass : 0 < sum_below (words p) (mass_in word_list)
  some_mass =
      omega (
        arith,
        sum-same (words p) (mass_in word_list) (λ w. all_service p ^ room * mass_in found.masses w) word_is,
        sum-scaled (words p) (all_service p ^ room) (mass_in found.masses),
        mul-pos (pow_positive (all_service p) room served) found.solves.words.positive,
      )
    where
      pow_positive : (m n : ℕ) → 0 < m → 0 < m ^ n
      pow_positive m zero some = omega (arith, pow-zero m)
      pow_positive m (suc n) some = omega (arith, pow-suc m n, mul-pos (pow_positive m n some) some)

  pub has_finite_solution : HasFiniteSolution p room
  has_finite_solution = record {
    masses = word_list;
    waiting = queue_list;
    solves = record {
      one_each = length-map found.masses (λ m. all_service p ^ room * m) ∙ found.solves.words.one_each;
      one_each_place = length-map-range_with_len (λ k. state_mass (k + 1)) 0 room;
      positive = omega (arith, some_mass);
      balanced =
          solves_queue p room (mass_in word_list) (queue_mass p word_list queue_list) some refl balanced
          (λ k l.
          ap (λ m. all_service p * m) (queue_is (k + 1) (omega arith))
          ∙ next_mass k l
          ∙ ap (λ m. all_calls p * m) (sym (queue_is k (omega arith))));
    };
  }
