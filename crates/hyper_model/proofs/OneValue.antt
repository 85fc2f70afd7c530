-- A measure has one value: from two solutions come ratios that are equal, since the masses of the one are those
-- of the other times a factor, and numerator and denominator take it along.
use Rattle.std.proofs.Common.{◌≡◌, ℕ, ◌+◌, ◌-◌, ◌*◌, ◌<◌, ◌==◌, Bool, true, false, cond, refl, sym, ap, ◌∙◌, arith}
use Rattle.std.proofs.Math.Nat.{mul-pos}
use Rattle.hyper_model.specs.declared.kinds.Line.{Line}
use Rattle.hyper_model.specs.declared.kinds.Line.TheVariants as line
use Rattle.hyper_model.specs.declared.kinds.Measure.{Measure}
use Rattle.hyper_model.specs.declared.kinds.Measure.TheVariants as measure
use Rattle.hyper_model.specs.declared.parts.PlanParts.{PlanParts}
use Rattle.hyper_model.specs.Sums.{sum_below}
use Rattle.hyper_model.specs.Plans.{units, atoms, service_of, calls_of, all_calls, all_service, is_inside, district_calls, split, IsAcceptedUpTo}
use Rattle.hyper_model.specs.Words.{words, is_busy, full_word, takes, portion}
use Rattle.hyper_model.specs.Solutions.{mass_in}
use Rattle.hyper_model.specs.Measures.{Ratio, mass, queued_mass_on, base_on, taken_mass, dispatch_flow, dispatch_flow_inside, dispatch_flow_outside, dispatch_flow_by, mean_travel, travel_from_calls, travel_among_calls, travel_flow, travel_to, loss_on, delay_on, queue_on, wait_on, measure_of}
use Rattle.hyper_model.specs.Laws.{IsSameRatio, HaveOneValue}
use Rattle.hyper_model.proofs.Sums.{sum-scaled, sum-same, same_factor}
use Rattle.hyper_model.proofs.PlanLaws.{words_positive, full_below, word_positive, words_proportional, tail_is_proportional}

-- two numbers that one factor each makes equal
abbrev AreAlike : ℕ → ℕ → ℕ → ℕ → Type 0
AreAlike c d u v = c * u ≡ d * v

module _ (c d : ℕ) where
  alike_sum : (n : ℕ) (f g : ℕ → ℕ) → ((i : ℕ) → i < n → AreAlike c d (f i) (g i))
      → AreAlike c d (sum_below n f) (sum_below n g)
  alike_sum n f g h =
      sym (sum-scaled n c f) ∙ sum-same n (λ i. c * f i) (λ i. d * g i) h ∙ sum-scaled n d g

  alike_times : (k u v : ℕ) → AreAlike c d u v → AreAlike c d (k * u) (k * v)
  alike_times k u v h = omega (arith, ap (λ a. k * a) h)

  alike_by : (k u v : ℕ) → AreAlike c d u v → AreAlike c d (u * k) (v * k)
  alike_by k u v h = omega (arith, ap (λ a. a * k) h)

  alike_plus : (u v s t : ℕ) → AreAlike c d u v → AreAlike c d s t → AreAlike c d (u + s) (v + t)
  alike_plus u v s t h g = omega (arith, h, g)

  alike_if : (b : Bool) (u v : ℕ) → AreAlike c d u v → AreAlike c d (cond b u 0) (cond b v 0)
  alike_if true u v h = h
  alike_if false u v h = omega arith

  alike_else : (b : Bool) (u v : ℕ) → AreAlike c d u v → AreAlike c d (cond b 0 u) (cond b 0 v)
  alike_else true u v h = omega arith
  alike_else false u v h = h

  alike_ratio : (r s : Ratio) → 0 < c → 0 < d → AreAlike c d r.numerator s.numerator
      → AreAlike c d r.denominator s.denominator → IsSameRatio r s
  alike_ratio r s h g top bottom =
      same_factor (c * d) (r.numerator * s.denominator) (s.numerator * r.denominator) (mul-pos h g)
      (omega (arith, ap (λ a. a * (d * s.denominator)) top, ap (λ a. d * s.numerator * a) bottom))

module _ (p : PlanParts) (c d : ℕ) (x y : ℕ → ℕ) (z t : ℕ) (c_positive : 0 < c) (d_positive : 0 < d)
    (each : (w : ℕ) → w < words p → AreAlike c d (x w) (y w)) (wait : AreAlike c d z t) where
  full : AreAlike c d (x (full_word p)) (y (full_word p))
  full = each (full_word p) (full_below p)

  whole : AreAlike c d (mass p x z) (mass p y t)
  whole = alike_plus c d (sum_below (words p) x) (sum_below (words p) y) z t (alike_sum c d (words p) x y each) wait

  waiting : (l : Line) → AreAlike c d (queued_mass_on l p x z) (queued_mass_on l p y t)
  waiting line.Zero = omega arith
  waiting line.Infinite = alike_plus c d (x (full_word p)) (y (full_word p)) z t full wait

  answered : (l : Line) → AreAlike c d (base_on l p x z) (base_on l p y t)
  answered line.Zero = alike_sum c d (full_word p) x y (λ w h. each w (omega (arith, h, full_below p)))
  answered line.Infinite = whole

  taken : (n j : ℕ) → AreAlike c d (taken_mass p x n j) (taken_mass p y n j)
  taken n j =
      alike_sum c d (words p) (λ w. cond (takes p j w n) (x w * portion p j w) 0)
      (λ w. cond (takes p j w n) (y w * portion p j w) 0)
      (λ w h. alike_if c d (takes p j w n) (x w * portion p j w) (y w * portion p j w)
      (alike_by c d (portion p j w) (x w) (y w) (each w h)))

  sent : (n j : ℕ) → AreAlike c d (dispatch_flow p x z n j) (dispatch_flow p y t n j)
  sent n j =
      omega (
        arith,
        ap (λ k. calls_of p j * all_service p * k) (taken n j),
        ap (λ k. calls_of p j * split p * service_of p n * k) (waiting p.line),
      )

  sent_by : (n : ℕ) → AreAlike c d (dispatch_flow_by p x z n) (dispatch_flow_by p y t n)
  sent_by n = alike_sum c d (atoms p) (dispatch_flow p x z n) (dispatch_flow p y t n) (λ j h. sent n j)

  sent_inside : (n m : ℕ) → AreAlike c d (dispatch_flow_inside p x z n m) (dispatch_flow_inside p y t n m)
  sent_inside n m =
      alike_sum c d (atoms p) (λ j. cond (is_inside p m j) (dispatch_flow p x z n j) 0)
      (λ j. cond (is_inside p m j) (dispatch_flow p y t n j) 0)
      (λ j h. alike_if c d (is_inside p m j) (dispatch_flow p x z n j) (dispatch_flow p y t n j) (sent n j))

  sent_outside : (n m : ℕ) → AreAlike c d (dispatch_flow_outside p x z n m) (dispatch_flow_outside p y t n m)
  sent_outside n m =
      alike_sum c d (atoms p) (λ j. cond (is_inside p m j) 0 (dispatch_flow p x z n j))
      (λ j. cond (is_inside p m j) 0 (dispatch_flow p y t n j))
      (λ j h. alike_else c d (is_inside p m j) (dispatch_flow p x z n j) (dispatch_flow p y t n j) (sent n j))

  way : (n : ℕ) → AreAlike c d (travel_flow p x n) (travel_flow p y n)
  way n =
      alike_sum c d (atoms p) (λ j. calls_of p j * taken_mass p x n j * mean_travel p n j)
      (λ j. calls_of p j * taken_mass p y n j * mean_travel p n j)
      (λ j h. omega (arith, ap (λ k. calls_of p j * mean_travel p n j * k) (taken n j)))

  way_to : (j : ℕ) → AreAlike c d (travel_to p x z j) (travel_to p y t j)
  way_to j =
      let at_once = alike_sum c d (units p) (λ n. taken_mass p x n j * mean_travel p n j)
      (λ n. taken_mass p y n j * mean_travel p n j)
      (λ n h. alike_by c d (mean_travel p n j) (taken_mass p x n j) (taken_mass p y n j) (taken n j)) in
      omega (
        arith,
        ap (λ k. all_calls p * k) at_once,
        ap (λ k. 1000 * split p * travel_from_calls p j * k) (waiting p.line),
      )

  loss_is : (l : Line) → IsSameRatio (loss_on l p x z) (loss_on l p y t)
  loss_is line.Zero = alike_ratio c d (loss_on line.Zero p x z) (loss_on line.Zero p y t) c_positive d_positive full whole
  loss_is line.Infinite = refl

  delay_is : (l : Line) → IsSameRatio (delay_on l p x z) (delay_on l p y t)
  delay_is line.Zero = refl
  delay_is line.Infinite =
      alike_ratio c d (delay_on line.Infinite p x z) (delay_on line.Infinite p y t) c_positive d_positive
      (waiting line.Infinite) whole

  queue_is : (l : Line) → IsSameRatio (queue_on l p x z) (queue_on l p y t)
  queue_is line.Zero = refl
  queue_is line.Infinite =
      alike_ratio c d (queue_on line.Infinite p x z) (queue_on line.Infinite p y t) c_positive d_positive
      (alike_by c d (all_service p) z t wait)
      (alike_by c d (all_service p - all_calls p) (mass p x z) (mass p y t) whole)

  wait_is : (l : Line) → IsSameRatio (wait_on l p x z) (wait_on l p y t)
  wait_is line.Zero = refl
  wait_is line.Infinite =
      alike_ratio c d (wait_on line.Infinite p x z) (wait_on line.Infinite p y t) c_positive d_positive
      (omega (arith, ap (λ k. p.period * all_service p * k) wait))
      (omega (arith, ap (λ k. (all_service p - all_calls p) * all_calls p * k) whole))

  same_measure : (m : Measure) → IsSameRatio (measure_of p x z m) (measure_of p y t m)
  same_measure measure.Loss = loss_is p.line
  same_measure measure.Delay = delay_is p.line
  same_measure measure.Queue = queue_is p.line
  same_measure measure.Wait = wait_is p.line
  same_measure (measure.Workload n) =
      alike_ratio c d (measure_of p x z (measure.Workload n)) (measure_of p y t (measure.Workload n)) c_positive d_positive
      (alike_plus c d (sum_below (words p) (λ w. cond (is_busy w n) (x w) 0))
      (sum_below (words p) (λ w. cond (is_busy w n) (y w) 0)) z t
      (alike_sum c d (words p) (λ w. cond (is_busy w n) (x w) 0) (λ w. cond (is_busy w n) (y w) 0)
      (λ w h. alike_if c d (is_busy w n) (x w) (y w) (each w h)))
      wait)
      whole
  same_measure (measure.Dispatch n j) =
      alike_ratio c d (measure_of p x z (measure.Dispatch n j)) (measure_of p y t (measure.Dispatch n j))
      c_positive d_positive (sent n j)
      (omega (arith, ap (λ k. all_calls p * all_service p * split p * k) (answered p.line)))
  same_measure measure.Interdistrict =
      alike_ratio c d (measure_of p x z measure.Interdistrict) (measure_of p y t measure.Interdistrict)
      c_positive d_positive
      (alike_sum c d (units p) (λ n. dispatch_flow_outside p x z n n) (λ n. dispatch_flow_outside p y t n n)
      (λ n h. sent_outside n n))
      (alike_sum c d (units p) (dispatch_flow_by p x z) (dispatch_flow_by p y t) (λ n h. sent_by n))
  same_measure (measure.InterdistrictUnit n) =
      alike_ratio c d (measure_of p x z (measure.InterdistrictUnit n)) (measure_of p y t (measure.InterdistrictUnit n))
      c_positive d_positive (sent_outside n n) (sent_by n)
  same_measure (measure.InterdistrictDistrict n) =
      alike_ratio c d (measure_of p x z (measure.InterdistrictDistrict n))
      (measure_of p y t (measure.InterdistrictDistrict n)) c_positive d_positive
      (alike_sum c d (units p) (λ m. cond (m == n) 0 (dispatch_flow_inside p x z m n))
      (λ m. cond (m == n) 0 (dispatch_flow_inside p y t m n))
      (λ m h. alike_else c d (m == n) (dispatch_flow_inside p x z m n) (dispatch_flow_inside p y t m n) (sent_inside m n)))
      (alike_sum c d (units p) (λ m. dispatch_flow_inside p x z m n) (λ m. dispatch_flow_inside p y t m n)
      (λ m h. sent_inside m n))
  same_measure measure.Travel =
      alike_ratio c d (measure_of p x z measure.Travel) (measure_of p y t measure.Travel) c_positive d_positive
      (omega (
        arith,
        ap (λ k. all_calls p * k) (alike_sum c d (units p) (travel_flow p x) (travel_flow p y) (λ n h. way n)),
        ap (λ k. 1000 * split p * travel_among_calls p * k) (waiting p.line),
      ))
      (omega (arith, ap (λ k. 1000 * all_calls p * all_calls p * split p * k) (answered p.line)))
  same_measure (measure.TravelAtom j) =
      alike_ratio c d (measure_of p x z (measure.TravelAtom j)) (measure_of p y t (measure.TravelAtom j))
      c_positive d_positive (way_to j)
      (omega (arith, ap (λ k. 1000 * all_calls p * split p * k) (answered p.line)))
  same_measure (measure.TravelUnit n) =
      alike_ratio c d (measure_of p x z (measure.TravelUnit n)) (measure_of p y t (measure.TravelUnit n))
      c_positive d_positive
      (omega (
        arith,
        ap (λ k. all_calls p * all_service p * k) (way n),
        ap (λ k. 1000 * split p * service_of p n * travel_among_calls p * k) (waiting p.line),
      ))
      (omega (arith, ap (λ k. 1000 * all_calls p * k) (sent_by n)))
  same_measure (measure.TravelDistrict n) =
      alike_ratio c d (measure_of p x z (measure.TravelDistrict n)) (measure_of p y t (measure.TravelDistrict n))
      c_positive d_positive
      (alike_sum c d (atoms p) (λ j. cond (is_inside p n j) (calls_of p j * travel_to p x z j) 0)
      (λ j. cond (is_inside p n j) (calls_of p j * travel_to p y t j) 0)
      (λ j h. alike_if c d (is_inside p n j) (calls_of p j * travel_to p x z j) (calls_of p j * travel_to p y t j)
      (alike_times c d (calls_of p j) (travel_to p x z j) (travel_to p y t j) (way_to j))))
      (omega (arith, ap (λ k. 1000 * all_calls p * split p * district_calls p n * k) (answered p.line)))

pub have_one_value : {most : ℕ} (p : PlanParts) → IsAcceptedUpTo most p → HaveOneValue p
have_one_value p a xs ys z t s r m =
    same_measure p (mass_in ys 0) (mass_in xs 0) (mass_in xs) (mass_in ys) z t
    (word_positive p a ys r.words 0 (words_positive p)) (word_positive p a xs s.words 0 (words_positive p))
    (λ w h. omega (arith, words_proportional p a xs ys s.words r.words 0 w (words_positive p) h))
    (omega (arith, tail_is_proportional p a xs ys z t s r 0 (words_positive p)))
    m
