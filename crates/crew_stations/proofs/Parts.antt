-- What the crews of a station have together in the words is what the station has in the states.
use Rattle.std.proofs.Common.{◌≡◌, ℕ, suc, ◌+◌, ◌*◌, ◌<◌, Bool, true, false, cond, eqb, refl, sym, ap, ◌∙◌, inl, inr, arith}
use Rattle.std.proofs.lemmas.Bool.{cases_eq}
use Rattle.hyper_model.specs.declared.kinds.Line.{Line}
use Rattle.hyper_model.specs.declared.kinds.Line.TheVariants as line
use Rattle.hyper_model.specs.declared.parts.PlanParts.{PlanParts}
use Rattle.hyper_model.specs.Grid.{Grid, cell}
use Rattle.hyper_model.specs.Measures.{mass, busy_mass, queued_mass_on, queued_mass, base_on, base, taken_mass, dispatch_flow, dispatch_flow_by, mean_travel}
use Rattle.hyper_model.specs.Plans.{units, atoms, service_of, calls_of, all_calls, all_service, located, travel, split, IsAcceptedUpTo}
use Rattle.hyper_model.specs.Sums.{sum_below}
use Rattle.hyper_model.specs.Words.{words, full_word, is_busy, turned_word, takes, portion}
use Rattle.hyper_model.proofs.Sums.{same_test, choices_scaled, sum-same, sum-at, sum-scaled}
use Rattle.hyper_model.proofs.Bits.{full_busy, free_exists}
use Rattle.hyper_model.proofs.PlanLaws.{full_below}
use Rattle.hyper_model.proofs.Masses.{all_words}
use Rattle.hyper_model.proofs.TravelTimes.{mean_travel-of_plan}
use Rattle.crew_stations.specs.Lumps.{class_sum}
use Rattle.crew_stations.specs.Stations.{StationPlan, stations, crews_at, crew_service, fleet_service, stride_of, states, full_state, busy_in, answers}
use Rattle.crew_stations.specs.Standing.{IsStationed, busy_at, state_of, state_mass}
use Rattle.crew_stations.specs.StateMeasures.{total, busy_crews, queued_on, queued, answerable_on, answerable, answered, answer_flow, flow_by}
use Rattle.crew_stations.proofs.Lumping.{class_same, class_scaled, class_times, class_add, class_swap, class_total, sum_by_class, sum_of_classes}
use Rattle.crew_stations.proofs.Radix.{stride_positive, full_code}
use Rattle.crew_stations.proofs.Counting.{busy_count, state_inside, state_up, busy_is, all_busy}
use Rattle.crew_stations.proofs.Answering.{station_share}

module _ (p : PlanParts) (s : StationPlan) (station : ℕ → ℕ) (t : IsStationed p s station) where
  -- the words in which all are busy are the state in which all are
  pub states_full : states s ≡ suc (full_state s)
  states_full = omega (arith, full_code (crews_at s) (stations s))

  state_if_full : (w : ℕ) → w ≡ full_word p → state_of p s station w ≡ full_state s
  state_if_full w e =
      sum-same (stations s) (λ k. busy_at (units p) station w k * stride_of s k) (λ k. crews_at s k * stride_of s k)
      (λ k l. ap (λ c. c * stride_of s k)
      (all_busy p s station t w k l (λ n h q. ap (λ v. is_busy v n) e ∙ full_busy (units p) n h)))

  full_if_state : (w : ℕ) → w < words p → state_of p s station w ≡ full_state s → w ≡ full_word p
  full_if_state w l e = elim (cases_eq w (full_word p)) [
    | inl same ↦ same
    | inr ne ↦
        let free = free_exists (units p) w l ne in
        absurd (omega (
          arith,
          e,
          states_full,
          state_up p s station t w free.0 free.1 free.2,
          state_inside p s station t (turned_word w free.0),
          stride_positive (crews_at s) (station free.0),
        ))
  ]

  -- calls, and the service of all crews
  pub same_calls : all_calls p ≡ all_calls s.parts
  same_calls =
      sum-same (atoms p) (calls_of p) (calls_of s.parts) (λ j l. t.calls j l)
      ∙ ap (λ n. sum_below n (calls_of s.parts)) t.same_atoms

  pub same_service : all_service p ≡ fleet_service s
  same_service =
      sum-same (units p) (service_of p) (λ n. 1 * crew_service s (station n)) (λ n l. omega (arith, t.service n l))
      ∙ sym (sum_by_class (units p) station (stations s) t.inside (λ n. 1) (crew_service s))
      ∙ sum-same (stations s) (λ k. class_sum (units p) station (λ n. 1) k * crew_service s k)
      (λ k. crews_at s k * crew_service s k) (λ k l. ap (λ c. c * crew_service s k) (t.crews k l))

  module _ (x : ℕ → ℕ) where
    abbrev y : ℕ → ℕ
    y = state_mass p s station x

    pub all_states : sum_below (words p) x ≡ sum_below (states s) y
    all_states = sym (class_total (words p) (state_of p s station) (states s) (λ v l. state_inside p s station t v) x)

    pub full_mass : x (full_word p) ≡ y (full_state s)
    full_mass =
        sym (sum-same (words p) (λ w. cond (eqb (state_of p s station w) (full_state s)) (x w) 0)
        (λ w. cond (eqb w (full_word p)) (x w) 0)
        (λ w l. ap (λ c. cond c (x w) 0) (same_test (state_of p s station w) (full_state s) w (full_word p)
        (full_if_state w l) (state_if_full w)))
        ∙ sum-at (words p) x (full_word p) (full_below p))

    pub same_mass : (z : ℕ) → mass p x z ≡ total s y z
    same_mass z = omega (arith, all_states)

    pub same_queued : (l : Line) (z : ℕ) → queued_mass_on l p x z ≡ queued_on l s y z
    same_queued line.Zero z = refl
    same_queued line.Infinite z = omega (arith, full_mass)

    pub queued_is : (z : ℕ) → queued_mass p x z ≡ queued s y z
    queued_is z = same_queued p.line z ∙ ap (λ l. queued_on l s y z) t.line

    pub same_base : (l : Line) (z : ℕ) → base_on l p x z ≡ answerable_on l s y z
    same_base line.Zero z =
        omega (arith, all_states, full_mass, all_words p x, ap (λ n. sum_below n y) states_full)
    same_base line.Infinite z = same_mass z

    pub base_is : (z : ℕ) → base p x z ≡ answerable s y z
    base_is z = same_base p.line z ∙ ap (λ l. answerable_on l s y z) t.line

    -- the busy crews of a station
    pub busy_is_of_states : (z k : ℕ) → k < stations s
        → class_sum (units p) station (busy_mass p x z) k ≡ busy_crews s y z k
    busy_is_of_states z k l =
        class_add (units p) station (λ n. sum_below (words p) (λ w. cond (is_busy w n) (x w) 0)) (λ n. z) k
        ∙ ap (λ c. c + class_sum (units p) station (λ n. z) k)
        (class_swap (units p) station (words p) (λ w n. cond (is_busy w n) (x w) 0) k
        ∙ sum-same (words p) (λ w. class_sum (units p) station (λ n. cond (is_busy w n) (x w) 0) k)
        (λ w. x w * busy_in s (state_of p s station w) k)
        (λ w h.
        class_same (units p) station (λ n. cond (is_busy w n) (x w) 0) (λ n. x w * busy_count w n) k
        (λ n g e. as_count (is_busy w n) (x w))
        ∙ class_scaled (units p) station (x w) (busy_count w) k
        ∙ ap (λ c. x w * c) (sym (busy_is p s station t w k l)))
        ∙ sym (sum_by_class (words p) (state_of p s station) (states s) (λ v h. state_inside p s station t v) x
        (λ a. busy_in s a k)))
        ∙ ap (λ c. sum_below (states s) (λ a. y a * busy_in s a k) + c)
        (class_same (units p) station (λ n. z) (λ n. 1 * z) k (λ n g e. omega arith)
        ∙ class_times (units p) station z (λ n. 1) k
        ∙ ap (λ c. c * z) (t.crews k l))
      where
        as_count : (b : Bool) (r : ℕ) → cond b r 0 ≡ r * cond b 1 0
        as_count true r = omega arith
        as_count false r = omega arith

    module _ {most : ℕ} (accepted : IsAcceptedUpTo most p) where
      -- the calls that they take at once
      pub taken_is : (k j : ℕ) → k < stations s → j < atoms p
          → class_sum (units p) station (λ n. taken_mass p x n j) k ≡ split p * answered s y k j
      taken_is k j l h =
          class_swap (units p) station (words p) (λ w n. cond (takes p j w n) (x w * portion p j w) 0) k
          ∙ sum-same (words p) (λ w. class_sum (units p) station (λ n. cond (takes p j w n) (x w * portion p j w) 0) k)
          (λ w. cond (answers s j (state_of p s station w) k) (split p * x w) 0)
          (λ w g. station_share p s station t accepted j w k (x w) h g l)
          ∙ choices_scaled (words p) (split p) (λ w. answers s j (state_of p s station w) k) x
          ∙ ap (λ c. split p * c)
          (sum_of_classes (words p) (state_of p s station) (states s) (λ v g. state_inside p s station t v)
          (λ a. answers s j a k) x)

      -- and all that they answer
      pub flow_is : (z k j : ℕ) → k < stations s → j < atoms p
          → class_sum (units p) station (λ n. dispatch_flow p x z n j) k ≡ split p * answer_flow s y z k j
      flow_is z k j l h =
          class_scaled (units p) station (calls_of p j)
          (λ n. all_service p * taken_mass p x n j + split p * service_of p n * queued_mass p x z) k
          ∙ ap (λ c. calls_of p j * c)
          (class_add (units p) station (λ n. all_service p * taken_mass p x n j)
          (λ n. split p * service_of p n * queued_mass p x z) k
          ∙ ap (λ c. c + class_sum (units p) station (λ n. split p * service_of p n * queued_mass p x z) k)
          (class_scaled (units p) station (all_service p) (λ n. taken_mass p x n j) k)
          ∙ ap (λ c. all_service p * class_sum (units p) station (λ n. taken_mass p x n j) k + c)
          (class_same (units p) station (λ n. split p * service_of p n * queued_mass p x z)
          (λ n. 1 * (split p * crew_service s k * queued s y z)) k
          (λ n g e. ap (λ c. split p * c * queued_mass p x z) (t.service n g ∙ ap (λ m. crew_service s m) e)
          ∙ ap (λ c. split p * crew_service s k * c) (queued_is z) ∙ omega arith)
          ∙ class_times (units p) station (split p * crew_service s k * queued s y z) (λ n. 1) k
          ∙ ap (λ c. c * (split p * crew_service s k * queued s y z)) (t.crews k l)))
          ∙ ap (λ c. calls_of p j
          * (all_service p * c + crews_at s k * (split p * crew_service s k * queued s y z))) (taken_is k j l h)
          ∙ ap (λ c. c * (all_service p * (split p * answered s y k j)
          + crews_at s k * (split p * crew_service s k * queued s y z))) (t.calls j h)
          ∙ ap (λ c. calls_of s.parts j * (c * (split p * answered s y k j)
          + crews_at s k * (split p * crew_service s k * queued s y z))) same_service
          ∙ omega arith

      pub flow_by_is : (z k : ℕ) → k < stations s
          → class_sum (units p) station (dispatch_flow_by p x z) k ≡ split p * flow_by s y z k
      flow_by_is z k l =
          class_swap (units p) station (atoms p) (λ j n. dispatch_flow p x z n j) k
          ∙ sum-same (atoms p) (λ j. class_sum (units p) station (λ n. dispatch_flow p x z n j) k)
          (λ j. split p * answer_flow s y z k j) (λ j h. flow_is z k j l h)
          ∙ sum-scaled (atoms p) (split p) (answer_flow s y z k)
          ∙ ap (λ n. split p * sum_below n (answer_flow s y z k)) t.same_atoms

      -- the crews of a station have its mean travel times
      pub mean_is : (n j : ℕ) → n < units p → mean_travel p n j ≡ mean_travel s.parts (station n) j
      mean_is n j l =
          mean_travel-of_plan p accepted n j
          ∙ sum-same (atoms p) (λ k. located p n k * travel p k j) (λ k. located s.parts (station n) k * travel s.parts k j)
          (λ k h. ap (λ c. c * travel p k j) (t.located n k l h)
          ∙ ap (λ (g : Grid). located s.parts (station n) k * cell g k j) t.travel)
          ∙ ap (λ c. sum_below c (λ k. located s.parts (station n) k * travel s.parts k j))
          (sym accepted.locations.cols ∙ t.columns)
