-- Who takes a call: a free unit of the first group that has one. The takers of a call share it without rest.
use Rattle.std.proofs.Common.{◌≡◌, ℕ, zero, suc, ◌*◌, ◌/◌, ◌<◌, ◌≤◌, Bool, true, false, not, cond, eqb, ◌&&◌, ◌||◌, List, [], ◌∷◌, length, refl, sym, ap, ◌∙◌, true≢false, eqb-true, leb, inl, inr, arith}
use Rattle.std.specs.Prelude.{All, sum_by, count_by, ◌==◌}
use Rattle.std.specs.List.{list_any}
use Rattle.std.proofs.lemmas.Bool.{and_parts, or_parts, not-true, cases_eq}
use Rattle.std.proofs.lemmas.Bool.Decides.{nat_tests}
use Rattle.std.proofs.lemmas.List.Elements.{All-head, All-tail}
use Rattle.std.proofs.lemmas.List.Sums.{sum_by-cons}
use Rattle.std.proofs.Math.Nat.{div-le_self, mul-le-mul_left, mul-pos, mul-div_cancel_left}
use Rattle.hyper_model.specs.declared.parts.PlanParts.{PlanParts}
use Rattle.hyper_model.specs.Sums.{sum_below}
use Rattle.hyper_model.specs.Plans.{units, atoms, calls_of, all_calls, groups_of, are_single, all_below, factorial, common_multiple, split, IsAcceptedUpTo}
use Rattle.hyper_model.specs.Words.{is_busy, is_free, has_free, is_taker, takes, taker_count, portion}
use Rattle.hyper_model.specs.Rates.{up}
use Rattle.hyper_model.proofs.Sums.{on_test, sum-same, sum-scaled, sum-swap, sum-le, sum_none, place_le_sum, positive_place, count_le, count_of_one, choices_sum}

-- how often unit n stands in a group, and that it does
abbrev count_of : ℕ → List ℕ → ℕ
count_of n group = count_by (λ m. m == n) group

abbrev stands_in : ℕ → List ℕ → Bool
stands_in n group = list_any (λ m. m == n) group

free_is_not_busy : (w n : ℕ) → is_free w n ≡ true → is_busy w n ≡ false
free_is_not_busy w n h = not-true (is_busy w n) h

not_busy_is_free : (w n : ℕ) → is_busy w n ≡ false → is_free w n ≡ true
not_busy_is_free w n h = ap not h

-- a taker is free
pub taker_free : (groups : List (List ℕ)) (w n : ℕ) → is_taker groups w n ≡ true → is_busy w n ≡ false
taker_free [] w n h = absurd (true≢false (sym h))
taker_free (group ∷ groups) w n h = on_test (has_free group w)
    (λ t.
    let here : (stands_in n group && is_free w n) ≡ true =
    sym (ap (λ c. cond c (stands_in n group && is_free w n) (is_taker groups w n)) t) ∙ h in
    free_is_not_busy w n (and_parts (stands_in n group) (is_free w n) here).1)
    (λ f. taker_free groups w n
    (sym (ap (λ c. cond c (stands_in n group && is_free w n) (is_taker groups w n)) f) ∙ h))

-- a group with a free unit has one of the first k
free_member : (k : ℕ) (group : List ℕ) (w : ℕ) → All (λ m. m < k) group → has_free group w ≡ true
    → (m : ℕ) × (m < k) × (stands_in m group ≡ true) × (is_free w m ≡ true)
free_member k [] w h t = absurd (true≢false (sym t))
free_member k (m ∷ group) w h t = on_test (is_free w m)
    (λ free. (m, All-head (λ a. a < k) m group h, ap (λ c. c || stands_in m group) (itself m), free))
    (λ busy.
    let rest = free_member k group w (All-tail (λ a. a < k) m group h)
    (sym (ap (λ c. c || has_free group w) busy) ∙ t) in
    (rest.0, rest.1, later (m == rest.0) (stands_in rest.0 group) rest.2, rest.3))
  where
    itself : (a : ℕ) → eqb a a ≡ true
    itself a = grind (arith, nat_tests)

    later : (b c : Bool) → c ≡ true → (b || c) ≡ true
    later true c e = refl
    later false c e = e

-- a free unit stands in no group that has no free unit
not_member : (group : List ℕ) (w n : ℕ) → has_free group w ≡ false → is_free w n ≡ true → count_of n group ≡ 0
not_member [] w n h f = refl
not_member (m ∷ group) w n h f =
    let both = or_parts (is_free w m) (has_free group w) h in
    let other : (m == n) ≡ false = on_test (m == n)
    (λ t. absurd (true≢false (sym f ∙ ap (λ a. is_free w a) (sym (eqb-true m n t)) ∙ both.0)))
    (λ t. t) in
    omega (
      arith,
      sum_by-cons (λ a. cond (a == n) 1 0) m group,
      ap {B = ℕ} (λ c. cond c 1 0) other,
      not_member group w n both.1 f,
    )

-- if a unit of the groups is free, somebody takes the call
pub taker_exists : (k : ℕ) (groups : List (List ℕ)) (w n : ℕ) → All (λ group. All (λ m. m < k) group) groups
    → is_busy w n ≡ false → 0 < sum_by (λ group. count_by (λ m. m == n) group) groups
    → (m : ℕ) × (m < k) × (is_taker groups w m ≡ true)
taker_exists k [] w n h f pos = absurd (let q : 0 < 0 = pos in omega arith)
taker_exists k (group ∷ groups) w n h f pos = on_test (has_free group w)
    (λ t.
    let m = free_member k group w (All-head (λ g. All (λ a. a < k) g) group groups h) t in (
      m.0,
      m.1,
      ap (λ c. cond c (stands_in m.0 group && is_free w m.0) (is_taker groups w m.0)) t
          ∙ ap (λ c. c && is_free w m.0) m.2 ∙ m.3,
    ))
    (λ none.
    let rest = taker_exists k groups w n (All-tail (λ g. All (λ a. a < k) g) group groups h) f
    (omega (
      arith,
      pos,
      sum_by-cons (count_of n) group groups,
      not_member group w n none (not_busy_is_free w n f),
    )) in (
      rest.0,
      rest.1,
      ap (λ c. cond c (stands_in rest.0 group && is_free w rest.0) (is_taker groups w rest.0)) none ∙ rest.2,
    ))

-- in a group of one unit, only this one stands
alone : (group : List ℕ) → length group ≡ 1 → (a : ℕ) × ((n : ℕ) → stands_in n group ≡ true → n ≡ a)
alone [] e = (0, λ n t. absurd (true≢false (sym t)))
alone (m ∷ []) e = (m, λ n t. sym (eqb-true m n (first (m == n) t)))
  where
    first : (b : Bool) → (b || false) ≡ true → b ≡ true
    first true t = refl
    first false t = t
alone (m ∷ l ∷ group) e = absurd (omega arith)

-- if each group has one unit, one unit at most takes a call
pub takers_single : (k : ℕ) (groups : List (List ℕ)) (w : ℕ) → are_single groups ≡ true
    → sum_below k (λ n. cond (is_taker groups w n) 1 0) ≤ 1
takers_single k [] w h = omega (arith, sum_none k (λ n. 0) (λ n l. refl))
takers_single k (group ∷ groups) w h = on_test (has_free group w)
    (λ t.
    let one = alone group (eqb-true (length group) 1 (and_parts (length group == 1) (are_single groups) h).0) in
    count_of_one k (λ n. is_taker (group ∷ groups) w n) one.0 (λ n l s. one.1 n
    (and_parts (stands_in n group) (is_free w n)
    (sym (ap (λ c. cond c (stands_in n group && is_free w n) (is_taker groups w n)) t) ∙ s)).0))
    (λ none.
    omega (
      arith,
      sum-same k (λ n. cond (is_taker (group ∷ groups) w n) 1 0) (λ n. cond (is_taker groups w n) 1 0)
          (λ n l. ap {B = ℕ} (λ c. cond (cond c (stands_in n group && is_free w n) (is_taker groups w n)) 1 0) none),
      takers_single k groups w (and_parts (length group == 1) (are_single groups) h).1,
    ))

-- each number from 1 to 12 divides 27720
divides_all : (f : ℕ) → 0 < f → f ≤ 12 → f * (27720 / f) ≡ 27720
divides_all zero h l = absurd (omega arith)
divides_all (suc zero) h l = refl
divides_all (suc (suc zero)) h l = refl
divides_all (suc (suc (suc zero))) h l = refl
divides_all (suc (suc (suc (suc zero)))) h l = refl
divides_all (suc (suc (suc (suc (suc zero))))) h l = refl
divides_all (suc (suc (suc (suc (suc (suc zero)))))) h l = refl
divides_all (suc (suc (suc (suc (suc (suc (suc zero))))))) h l = refl
divides_all (suc (suc (suc (suc (suc (suc (suc (suc zero)))))))) h l = refl
divides_all (suc (suc (suc (suc (suc (suc (suc (suc (suc zero))))))))) h l = refl
divides_all (suc (suc (suc (suc (suc (suc (suc (suc (suc (suc zero)))))))))) h l = refl
divides_all (suc (suc (suc (suc (suc (suc (suc (suc (suc (suc (suc zero))))))))))) h l = refl
divides_all (suc (suc (suc (suc (suc (suc (suc (suc (suc (suc (suc (suc zero)))))))))))) h l = refl
divides_all (suc (suc (suc (suc (suc (suc (suc (suc (suc (suc (suc (suc (suc f))))))))))))) h l = absurd (omega arith)

-- a test that holds below n holds at each number below n
pub all_below_at : (n : ℕ) (test : ℕ → Bool) → all_below n test ≡ true → (k : ℕ) → k < n → test k ≡ true
all_below_at n test h k l = on_test (test k) (λ t. t)
    (λ f. absurd
    (let none = eqb-true (sum_below n (λ i. cond (test i) 0 1)) 0 h in
    omega (arith, none, place_le_sum n (λ i. cond (test i) 0 1) k l, ap {B = ℕ} (λ c. cond c 0 1) f)))

-- the product of the numbers from 1 to n is a multiple of each of them
factorial_parts : (n f : ℕ) → 0 < f → f ≤ n → (q : ℕ) × (factorial n ≡ f * q)
unfolding Rattle.hyper_model.specs.Plans.factorial
factorial_parts zero f h l = absurd (omega arith)
factorial_parts (suc n) f h l = elim (cases_eq f (suc n)) [
  | inl e ↦ (factorial n, omega (arith, ap (λ c. c * factorial n) e))
  | inr ne ↦
      let q = factorial_parts n f h (omega (arith, l, ne)) in
      (q.0 * suc n, omega (arith, ap (λ c. c * suc n) q.1))
]

factorial_positive : (n : ℕ) → 0 < factorial n
unfolding Rattle.hyper_model.specs.Plans.factorial
factorial_positive zero = omega arith
factorial_positive (suc n) = mul-pos (factorial_positive n) (omega arith)

-- each number of units from 1 to n divides their common multiple
divides_common : (n f : ℕ) → 0 < f → f ≤ n → f * (common_multiple n / f) ≡ common_multiple n
divides_common n f h l = on_test (leb n 12)
    (λ t.
    let is : common_multiple n ≡ 27720 = ap {B = ℕ} (λ c. cond c 27720 (factorial n)) t in
    let few : f ≤ 12 = let all : n ≤ 12 = grind (arith, nat_tests, t) in omega (arith, all, l) in
    ap (λ s. f * (s / f)) is ∙ divides_all f h few ∙ sym is)
    (λ more.
    let is : common_multiple n ≡ factorial n = ap {B = ℕ} (λ c. cond c 27720 (factorial n)) more in
    let q = factorial_parts n f h l in
    let product : common_multiple n ≡ f * q.0 = is ∙ q.1 in
    ap (λ s. f * (s / f)) product ∙ ap (λ c. f * c) (mul-div_cancel_left q.0 h) ∙ sym product)

pub split_positive : (p : PlanParts) → 0 < split p
split_positive p = one (all_below (atoms p) (λ j. are_single (groups_of p j))) (leb (units p) 12)
  where
    one : (b c : Bool) → 0 < cond b 1 (cond c 27720 (factorial (units p)))
    one true c = omega arith
    one false true = omega arith
    one false false = factorial_positive (units p)

-- up to 12 units it is small
pub split_le : (p : PlanParts) → units p ≤ 12 → split p ≤ 27720
split_le p few = one (all_below (atoms p) (λ j. are_single (groups_of p j)))
  where
    common : common_multiple (units p) ≡ 27720
    common =
        let up_to : leb (units p) 12 ≡ true = grind (arith, nat_tests, few) in
        ap {B = ℕ} (λ c. cond c 27720 (factorial (units p))) up_to

    one : (b : Bool) → cond b 1 (common_multiple (units p)) ≤ 27720
    one true = omega arith
    one false = omega (arith, common)

-- the takers of a call share it without rest
pub portion_is : {most : ℕ} (p : PlanParts) → IsAcceptedUpTo most p → (j w : ℕ) → j < atoms p → 0 < taker_count p j w
    → taker_count p j w * portion p j w ≡ split p
portion_is p a j w l some = on_test (all_below (atoms p) (λ i. are_single (groups_of p i)))
    (λ t.
    let g : split p ≡ 1 = ap {B = ℕ} (λ c. cond c 1 (common_multiple (units p))) t in
    let single : taker_count p j w ≤ 1 =
    takers_single (units p) (groups_of p j) w (all_below_at (atoms p) (λ i. are_single (groups_of p i)) t j l) in
    shared_one (taker_count p j w) (split p) some single g)
    (λ f.
    let g : split p ≡ common_multiple (units p) = ap {B = ℕ} (λ c. cond c 1 (common_multiple (units p))) f in
    let few : taker_count p j w ≤ units p = count_le (units p) (λ n. takes p j w n) in
    ap (λ s. taker_count p j w * (s / taker_count p j w)) g
    ∙ divides_common (units p) (taker_count p j w) some few ∙ sym g)
  where
    shared_one : (f s : ℕ) → 0 < f → f ≤ 1 → s ≡ 1 → f * (s / f) ≡ s
    shared_one zero s h l e = absurd (omega arith)
    shared_one (suc zero) s h l e = ap (λ k. 1 * (k / 1)) e ∙ sym e
    shared_one (suc (suc f)) s h l e = absurd (omega arith)

-- in a word with a free unit, somebody takes the call
pub takers_positive : {most : ℕ} (p : PlanParts) → IsAcceptedUpTo most p → (j w n : ℕ) → j < atoms p → n < units p
    → is_busy w n ≡ false → 0 < taker_count p j w
takers_positive p a j w n l k f =
    let groups = a.lists.grouped j l in
    let m = taker_exists (units p) (groups_of p j) w n groups.within f (omega (arith, groups.once n k)) in
    omega (arith, ap {B = ℕ} (λ c. cond c 1 0) m.2, place_le_sum (units p) (λ i. cond (takes p j w i) 1 0) m.0 m.1)

-- a busy unit takes no call
pub not_taken : (p : PlanParts) (j w n : ℕ) → is_busy w n ≡ true → takes p j w n ≡ false
not_taken p j w n b = on_test (takes p j w n)
    (λ t. absurd (true≢false (sym b ∙ taker_free (groups_of p j) w n t)))
    (λ f. f)

-- if all units are busy, nobody takes a call
pub takers_none : (p : PlanParts) (j w : ℕ) → ((n : ℕ) → n < units p → is_busy w n ≡ true) → taker_count p j w ≡ 0
takers_none p j w h =
    sum_none (units p) (λ n. cond (takes p j w n) 1 0) (λ n l. ap {B = ℕ} (λ c. cond c 1 0) (not_taken p j w n (h n l)))

-- the shares of a call of atom j, all units together
pub shares_sum : {most : ℕ} (p : PlanParts) → IsAcceptedUpTo most p → (j w n : ℕ) → j < atoms p → n < units p → is_busy w n ≡ false
    → sum_below (units p) (λ m. cond (takes p j w m) (portion p j w) 0) ≡ split p
shares_sum p a j w n l k f =
    omega (
      arith,
      choices_sum (units p) (portion p j w) (λ m. takes p j w m),
      portion_is p a j w l (takers_positive p a j w n l k f),
    )

-- a busy unit is not sent
pub up_busy : (p : PlanParts) (w n : ℕ) → is_busy w n ≡ true → up p w n ≡ 0
up_busy p w n b =
    sum_none (atoms p) (λ j. cond (takes p j w n) (calls_of p j * portion p j w) 0)
    (λ j l. ap (λ c. cond c (calls_of p j * portion p j w) 0) (not_taken p j w n b))

-- in a word with a free unit, all calls go to somebody
pub up_all : {most : ℕ} (p : PlanParts) → IsAcceptedUpTo most p → (w n : ℕ) → n < units p → is_busy w n ≡ false
    → sum_below (units p) (up p w) ≡ split p * all_calls p
up_all p a w n k f =
    sum-swap (units p) (atoms p) (λ m j. cond (takes p j w m) (calls_of p j * portion p j w) 0)
    ∙ sum-same (atoms p) (λ j. sum_below (units p) (λ m. cond (takes p j w m) (calls_of p j * portion p j w) 0))
    (λ j. split p * calls_of p j) (λ j l. of_atom j l)
    ∙ sum-scaled (atoms p) (split p) (calls_of p)
  where
    of_atom : (j : ℕ) → j < atoms p
        → sum_below (units p) (λ m. cond (takes p j w m) (calls_of p j * portion p j w) 0) ≡ split p * calls_of p j
    of_atom j l =
        omega (
          arith,
          choices_sum (units p) (calls_of p j * portion p j w) (λ m. takes p j w m),
          ap (λ g. calls_of p j * g) (portion_is p a j w l (takers_positive p a j w n l k f)),
        )

-- and so there is a free unit that is sent
pub up_some : {most : ℕ} (p : PlanParts) → IsAcceptedUpTo most p → (w n : ℕ) → n < units p → is_busy w n ≡ false
    → (m : ℕ) × (m < units p) × (is_busy w m ≡ false) × (0 < up p w m)
up_some p a w n k f =
    let m = positive_place (units p) (up p w)
    (omega (arith, up_all p a w n k f, mul-pos (split_positive p) a.atoms.calls.low)) in (
      m.0,
      m.1,
      on_test (is_busy w m.0)
          (λ b. absurd (let z = up_busy p w m.0 b in omega (arith, m.2, z)))
          (λ b. b),
      m.2,
    )

-- a unit is sent to some of all calls
pub up_le : (p : PlanParts) (w n : ℕ) → up p w n ≤ split p * all_calls p
up_le p w n =
    omega (
      arith,
      sum-le (atoms p) (λ j. cond (takes p j w n) (calls_of p j * portion p j w) 0) (λ j. split p * calls_of p j)
          (λ j l. of_atom (takes p j w n) j),
      sum-scaled (atoms p) (split p) (calls_of p),
    )
  where
    of_atom : (b : Bool) (j : ℕ) → cond b (calls_of p j * portion p j w) 0 ≤ split p * calls_of p j
    of_atom true j =
        omega (arith, mul-le-mul_left (calls_of p j) (div-le_self (split p) (taker_count p j w)))
    of_atom false j = omega arith
