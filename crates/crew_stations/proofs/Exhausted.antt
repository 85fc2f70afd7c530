-- The words in which no crew of a station is free are the states in which the station has no room.
use Rattle.std.proofs.Common.{◌≡◌, ℕ, ◌+◌, ◌<◌, Bool, true, false, not, ◌||◌, cond, eqb, eqb-true, eq-eqb, true≢false, refl, sym, ap, ◌∙◌, arith}
use Rattle.std.proofs.lemmas.Bool.{or_parts, eqb-false}
use Rattle.hyper_model.specs.declared.parts.PlanParts.{PlanParts}
use Rattle.hyper_model.specs.Plans.{units}
use Rattle.hyper_model.specs.Solutions.{mass_in}
use Rattle.hyper_model.specs.Sums.{sum_below}
use Rattle.hyper_model.specs.Words.{words, is_busy}
use Rattle.hyper_model.proofs.Sums.{on_test, sum-same, place_le_sum, positive_place}
use Rattle.crew_stations.specs.CrewMeasures.{is_exhausted, exhausted_share}
use Rattle.crew_stations.specs.Laws.{HoldsAtStations, SharesAreOfStates}
use Rattle.crew_stations.specs.Standing.{IsStationed, state_of, state_mass}
use Rattle.crew_stations.specs.StateMeasures.{full_share}
use Rattle.crew_stations.specs.Stations.{StationPlan, stations, states, has_room}
use Rattle.crew_stations.proofs.Lumping.{sum_of_classes}
use Rattle.crew_stations.proofs.Counting.{state_inside, room_if_free, no_room_if_busy}
use Rattle.crew_stations.proofs.Parts.{same_mass}
use Rattle.crew_stations.proofs.Ratios.{by_parts}

-- either all of the first n pass a test, or one does not
passes : (n : ℕ) (test : ℕ → Bool) → sum_below n (λ k. cond (test k) 0 1) ≡ 0 → (k : ℕ) → k < n → test k ≡ true
passes n test none k l = on_test (test k) (λ t. t)
    (λ f. absurd (omega (arith, none, place_le_sum n (λ i. cond (test i) 0 1) k l, ap {B = ℕ} (λ c. cond c 0 1) f)))

fails : (n : ℕ) (test : ℕ → Bool) → 0 < sum_below n (λ k. cond (test k) 0 1) → (k : ℕ) × (k < n) × (test k ≡ false)
fails n test some =
    let place = positive_place n (λ k. cond (test k) 0 1) some in
    on_test (test place.0)
    (λ t. absurd (let none = ap {B = ℕ} (λ c. cond c 0 1) t in omega (arith, none, place.2)))
    (λ f. (place.0, place.1, f))

module _ (p : PlanParts) (s : StationPlan) (station : ℕ → ℕ) (t : IsStationed p s station) where
  abbrev test : ℕ → ℕ → ℕ → Bool
  test w k n = not (eqb (station n) k) || is_busy w n

  exhausted_is : (w k : ℕ) → k < stations s → is_exhausted p station w k ≡ not (has_room s (state_of p s station w) k)
  exhausted_is w k l = on_test (is_exhausted p station w k)
      (λ yes.
      yes
      ∙ sym (ap not (no_room_if_busy p s station t w k l (λ n h e.
      sym (ap (λ c. not c || is_busy w n) (eq-eqb (station n) k e))
      ∙ passes (units p) (test w k) (eqb-true (sum_below (units p) (λ n. cond (test w k n) 0 1)) 0 yes) n h))))
      (λ no.
      let some : 0 < sum_below (units p) (λ n. cond (test w k n) 0 1) =
      let ne = eqb-false (sum_below (units p) (λ n. cond (test w k n) 0 1)) 0 no in omega (arith, ne) in
      let n = fails (units p) (test w k) some in
      let both = or_parts (not (eqb (station n.0) k)) (is_busy w n.0) n.2 in
      no
      ∙ sym (ap not (sym (ap (λ m. has_room s (state_of p s station w) m)
      (eqb-true (station n.0) k (not_back (eqb (station n.0) k) both.0)))
      ∙ room_if_free p s station t w n.0 n.1 both.1)))
    where
      not_back : (b : Bool) → not b ≡ false → b ≡ true
      not_back true e = refl
      not_back false e = absurd (true≢false e)

  exhausted_mass : (x : ℕ → ℕ) (z k : ℕ) → k < stations s
      → sum_below (words p) (λ w. cond (is_exhausted p station w k) (x w) 0)
      ≡ sum_below (states s) (λ a. cond (has_room s a k) 0 (state_mass p s station x a))
  exhausted_mass x z k l =
      sum-same (words p) (λ w. cond (is_exhausted p station w k) (x w) 0)
      (λ w. cond (not (has_room s (state_of p s station w) k)) (x w) 0)
      (λ w h. ap (λ c. cond c (x w) 0) (exhausted_is w k l))
      ∙ sum_of_classes (words p) (state_of p s station) (states s) (λ v h. state_inside p s station t v)
      (λ a. not (has_room s a k)) x
      ∙ sum-same (states s) (λ a. cond (not (has_room s a k)) (state_mass p s station x a) 0)
      (λ a. cond (has_room s a k) 0 (state_mass p s station x a))
      (λ a h. turned_round (has_room s a k) (state_mass p s station x a))
    where
      turned_round : (b : Bool) (r : ℕ) → cond (not b) r 0 ≡ cond b 0 r
      turned_round true r = refl
      turned_round false r = refl

pub shares_are_of_states : HoldsAtStations SharesAreOfStates
shares_are_of_states most p s station a t xs z e k l =
    by_parts (exhausted_share p station (mass_in xs) z k) (full_share s (state_mass p s station (mass_in xs)) z k)
    (ap (λ c. c + z) (exhausted_mass p s station t (mass_in xs) z k l)) (same_mass p s station t (mass_in xs) z)
