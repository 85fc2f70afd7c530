-- Two crews of one station change places: an exchange of words that leaves all rates as they are.
use Rattle.std.proofs.Common.{◌≡◌, ◌≢◌, ℕ, ◌+◌, ◌*◌, ◌/◌, ◌^◌, ◌<◌, Bool, true, false, not, ◌&&◌, List, cond, eqb, eq-eqb, true≢false, refl, sym, ap, ◌∙◌, inl, inr, arith}
use Rattle.std.proofs.lemmas.Bool.{cases_eq, ne_eqb}
use Rattle.std.proofs.lemmas.Nat.Bits.{same_from_bits}
use Rattle.hyper_model.specs.declared.parts.PlanParts.{PlanParts}
use Rattle.hyper_model.specs.Measures.{busy_mass, taken_mass}
use Rattle.hyper_model.specs.Plans.{units, atoms, service_of, calls_of, split, IsAcceptedUpTo}
use Rattle.hyper_model.specs.Solutions.{mass_in, SolvesWords}
use Rattle.hyper_model.specs.Sums.{sum_below}
use Rattle.hyper_model.specs.Tables.{turn_rate, word_table}
use Rattle.hyper_model.specs.Words.{words, is_busy, is_free, turned_word, takes, taker_count, portion}
use Rattle.hyper_model.specs.Rates.{up}
use Rattle.hyper_model.proofs.Bits.{busy_bit, free_bit, turned_lt, busy_turned, busy_turned_other}
use Rattle.hyper_model.proofs.PlanLaws.{solves_word_table}
use Rattle.hyper_model.proofs.Sums.{on_test, same_test, sum-same, sum-permuted}
use Rattle.hyper_model.proofs.WordTables.{words_descend}
use Rattle.crew_stations.specs.Lumps.{IsExchange}
use Rattle.crew_stations.specs.Laws.{HoldsAtStations, CrewsAreAlike}
use Rattle.crew_stations.specs.Standing.{IsStationed, busy_at, state_of, exchanged_word}
use Rattle.crew_stations.specs.Stations.{StationPlan, stations, stride_of, answers}
use Rattle.crew_stations.proofs.Answering.{taker_is}
use Rattle.crew_stations.proofs.Counting.{busy_count}
use Rattle.crew_stations.proofs.Exchanging.{exchanged_balance}

-- words with the same busy units are the same
pub same_word : (v w : ℕ) → ((n : ℕ) → is_busy v n ≡ is_busy w n) → v ≡ w
same_word v w h = same_from_bits v w (λ n. on_test (is_busy v n)
    (λ b. busy_bit v n b ∙ sym (busy_bit w n (sym (h n) ∙ b)))
    (λ f. free_bit v n f ∙ sym (free_bit w n (sym (h n) ∙ f))))

module _ (a b : ℕ) where
  -- the unit that takes the place of unit n
  abbrev pub other : ℕ → ℕ
  other n = cond (eqb n a) b (cond (eqb n b) a n)

  pub other_first : other a ≡ b
  other_first = ap (λ c. cond c b (cond (eqb a b) a a)) (eq-eqb a a refl)

  pub other_second : other b ≡ a
  other_second = elim (cases_eq b a) [
    | inl e ↦ ap (λ c. cond c b (cond (eqb b b) a b)) (eq-eqb b a e) ∙ e
    | inr ne ↦ ap (λ c. cond c b (cond (eqb b b) a b)) (ne_eqb b a ne)
        ∙ ap (λ c. cond c a b) (eq-eqb b b refl)
  ]

  pub other_else : (n : ℕ) → n ≢ a → n ≢ b → other n ≡ n
  other_else n na nb = ap (λ c. cond c b (cond (eqb n b) a n)) (ne_eqb n a na) ∙ ap (λ c. cond c a n) (ne_eqb n b nb)

  -- what holds of a, of b and of all else holds of each unit
  by_unit : (P : ℕ → Type 0) (n : ℕ) → (n ≡ a → P n) → (n ≡ b → P n) → (n ≢ a → n ≢ b → P n) → P n
  by_unit P n at_a at_b at_else = elim (cases_eq n a) [
    | inl e ↦ at_a e
    | inr na ↦ elim (cases_eq n b) [ inl e ↦ at_b e | inr nb ↦ at_else na nb ]
  ]

  pub other_twice : (n : ℕ) → other (other n) ≡ n
  other_twice n = by_unit (λ n. other (other n) ≡ n) n
      (λ e. ap (λ c. other (other c)) e ∙ ap other other_first ∙ other_second ∙ sym e)
      (λ e. ap (λ c. other (other c)) e ∙ ap other other_second ∙ other_first ∙ sym e)
      (λ na nb. ap other (other_else n na nb) ∙ other_else n na nb)

  other_below : (k n : ℕ) → a < k → b < k → n < k → other n < k
  other_below k n la lb l = by_unit (λ n. n < k → other n < k) n
      (λ e h. omega (arith, ap other e, other_first, lb))
      (λ e h. omega (arith, ap other e, other_second, la))
      (λ na nb h. omega (arith, other_else n na nb, h)) l

  other_station : (station : ℕ → ℕ) → station a ≡ station b → (n : ℕ) → station (other n) ≡ station n
  other_station station same n = by_unit (λ n. station (other n) ≡ station n) n
      (λ e. ap (λ c. station (other c)) e ∙ ap station other_first ∙ sym same ∙ ap station (sym e))
      (λ e. ap (λ c. station (other c)) e ∙ ap station other_second ∙ same ∙ ap station (sym e))
      (λ na nb. ap station (other_else n na nb))

  -- in the exchanged word each unit is busy if the one in whose place it is was
  kept : (w n : ℕ) → is_busy w a ≡ is_busy w b → is_busy w n ≡ is_busy w (other n)
  kept w n same = by_unit (λ n. is_busy w n ≡ is_busy w (other n)) n
      (λ e. ap (is_busy w) e ∙ same ∙ ap (is_busy w) (sym (ap other e ∙ other_first)))
      (λ e. ap (is_busy w) e ∙ sym same ∙ ap (is_busy w) (sym (ap other e ∙ other_second)))
      (λ na nb. ap (is_busy w) (sym (other_else n na nb)))

  changed : (w n : ℕ) → is_busy w a ≡ not (is_busy w b)
      → is_busy (turned_word (turned_word w a) b) n ≡ is_busy w (other n)
  changed w n differ = by_unit (λ n. is_busy (turned_word (turned_word w a) b) n ≡ is_busy w (other n)) n
      (λ e.
      ap (is_busy (turned_word (turned_word w a) b)) e
      ∙ busy_turned_other (turned_word w a) b a apart
      ∙ busy_turned w a ∙ ap not differ ∙ twice (is_busy w b)
      ∙ ap (is_busy w) (sym (ap other e ∙ other_first)))
      (λ e.
      ap (is_busy (turned_word (turned_word w a) b)) e
      ∙ busy_turned (turned_word w a) b
      ∙ ap not (busy_turned_other w a b (λ q. apart (sym q)))
      ∙ sym differ
      ∙ ap (is_busy w) (sym (ap other e ∙ other_second)))
      (λ na nb.
      busy_turned_other (turned_word w a) b n nb ∙ busy_turned_other w a n na
      ∙ ap (is_busy w) (sym (other_else n na nb)))
    where
      twice : (c : Bool) → not (not c) ≡ c
      twice true = refl
      twice false = refl

      no_fixed_point : (c : Bool) → c ≢ not c
      no_fixed_point true e = true≢false e
      no_fixed_point false e = true≢false (sym e)

      apart : a ≢ b
      apart e = no_fixed_point (is_busy w b) (sym (ap (is_busy w) e) ∙ differ)

  pub busy_exchanged : (w n : ℕ) → is_busy (exchanged_word a b w) n ≡ is_busy w (other n)
  busy_exchanged w n = by_bits (is_busy w a) (is_busy w b) refl refl
    where
      by_bits : (c d : Bool) → is_busy w a ≡ c → is_busy w b ≡ d
          → is_busy (cond c (cond d w (turned_word (turned_word w a) b)) (cond d (turned_word (turned_word w a) b) w)) n
          ≡ is_busy w (other n)
      by_bits true true e f = kept w n (e ∙ sym f)
      by_bits true false e f = changed w n (e ∙ ap not (sym f))
      by_bits false true e f = changed w n (e ∙ ap not (sym f))
      by_bits false false e f = kept w n (e ∙ sym f)

  pub exchanged_twice : (w : ℕ) → exchanged_word a b (exchanged_word a b w) ≡ w
  exchanged_twice w = same_word (exchanged_word a b (exchanged_word a b w)) w (λ n.
      busy_exchanged (exchanged_word a b w) n ∙ busy_exchanged w (other n) ∙ ap (is_busy w) (other_twice n))

  pub exchanged_below : (k w : ℕ) → a < k → b < k → w < 2 ^ k → exchanged_word a b w < 2 ^ k
  exchanged_below k w la lb l = by_bits (is_busy w a) (is_busy w b)
    where
      moves : turned_word (turned_word w a) b < 2 ^ k
      moves = turned_lt k (turned_word w a) b (turned_lt k w a l la) lb

      by_bits : (c d : Bool)
          → cond c (cond d w (turned_word (turned_word w a) b)) (cond d (turned_word (turned_word w a) b) w) < 2 ^ k
      by_bits true true = l
      by_bits true false = moves
      by_bits false true = moves
      by_bits false false = l

  -- a unit that turns is the other one in the exchanged word
  exchanged_turned : (w n : ℕ) → turned_word (exchanged_word a b w) (other n) ≡ exchanged_word a b (turned_word w n)
  exchanged_turned w n = same_word (turned_word (exchanged_word a b w) (other n)) (exchanged_word a b (turned_word w n))
      (λ m. elim (cases_eq m (other n)) [
        | inl e ↦
            ap (is_busy (turned_word (exchanged_word a b w) (other n))) e
            ∙ busy_turned (exchanged_word a b w) (other n)
            ∙ ap not (busy_exchanged w (other n) ∙ ap (is_busy w) (other_twice n))
            ∙ sym (busy_exchanged (turned_word w n) m
            ∙ ap (is_busy (turned_word w n)) (ap other e ∙ other_twice n)
            ∙ busy_turned w n)
        | inr ne ↦
            busy_turned_other (exchanged_word a b w) (other n) m ne
            ∙ busy_exchanged w m
            ∙ sym (busy_exchanged (turned_word w n) m
            ∙ busy_turned_other w n (other m) (λ q. ne (sym (other_twice m) ∙ ap other q)))
      ])

  module _ (p : PlanParts) (s : StationPlan) (station : ℕ → ℕ) (t : IsStationed p s station)
      (la : a < units p) (lb : b < units p) (same : station a ≡ station b) where
    -- a sum over the units, each in the place of the other
    by_others : (f : ℕ → ℕ) → sum_below (units p) (λ n. f (other n)) ≡ sum_below (units p) f
    by_others f = sum-permuted (units p) other other f
        (λ n l. other_below (units p) n la lb l) (λ n l. other_below (units p) n la lb l)
        (λ n l. other_twice n) (λ n l. other_twice n)

    pub same_state : (w : ℕ) → state_of p s station (exchanged_word a b w) ≡ state_of p s station w
    same_state w =
        sum-same (stations s) (λ k. busy_at (units p) station (exchanged_word a b w) k * stride_of s k)
        (λ k. busy_at (units p) station w k * stride_of s k)
        (λ k l. ap (λ c. c * stride_of s k)
        (sum-same (units p) (λ n. cond (eqb (station n) k) (busy_count (exchanged_word a b w) n) 0)
        (λ n. cond (eqb (station (other n)) k) (busy_count w (other n)) 0)
        (λ n h.
        ap (λ c. cond (eqb c k) (busy_count (exchanged_word a b w) n) 0) (sym (other_station station same n))
        ∙ ap (λ c. cond (eqb (station (other n)) k) (cond c 1 0) 0) (busy_exchanged w n))
        ∙ by_others (λ n. cond (eqb (station n) k) (busy_count w n) 0)))

    busy_there : (w n : ℕ) → is_busy (exchanged_word a b w) (other n) ≡ is_busy w n
    busy_there w n = busy_exchanged w (other n) ∙ ap (is_busy w) (other_twice n)

    takes_there : (j w n : ℕ) → j < atoms p → n < units p → takes p j (exchanged_word a b w) (other n) ≡ takes p j w n
    takes_there j w n h l =
        taker_is p s station t j (exchanged_word a b w) (other n) h (other_below (units p) n la lb l)
        ∙ ap (λ c. answers s j c (station (other n)) && is_free (exchanged_word a b w) (other n)) (same_state w)
        ∙ ap (λ c. answers s j (state_of p s station w) c && is_free (exchanged_word a b w) (other n))
        (other_station station same n)
        ∙ ap (λ c. answers s j (state_of p s station w) (station n) && not c) (busy_there w n)
        ∙ sym (taker_is p s station t j w n h l)

    count_there : (j w : ℕ) → j < atoms p → taker_count p j (exchanged_word a b w) ≡ taker_count p j w
    count_there j w h =
        sym (by_others (λ n. cond (takes p j (exchanged_word a b w) n) 1 0))
        ∙ sum-same (units p) (λ n. cond (takes p j (exchanged_word a b w) (other n)) 1 0) (λ n. cond (takes p j w n) 1 0)
        (λ n l. ap {B = ℕ} (λ c. cond c 1 0) (takes_there j w n h l))

    up_there : (w n : ℕ) → n < units p → up p (exchanged_word a b w) (other n) ≡ up p w n
    up_there w n l =
        sum-same (atoms p)
        (λ j. cond (takes p j (exchanged_word a b w) (other n)) (calls_of p j * portion p j (exchanged_word a b w)) 0)
        (λ j. cond (takes p j w n) (calls_of p j * portion p j w) 0)
        (λ j h.
        ap (λ c. cond c (calls_of p j * portion p j (exchanged_word a b w)) 0) (takes_there j w n h l)
        ∙ ap (λ c. cond (takes p j w n) (calls_of p j * (split p / c)) 0) (count_there j w h))

    rate_there : (w n : ℕ) → n < units p → turn_rate p (exchanged_word a b w) (other n) ≡ turn_rate p w n
    rate_there w n l =
        ap (λ c. cond c (split p * service_of p (other n)) (up p (exchanged_word a b w) (other n))) (busy_there w n)
        ∙ ap (λ c. cond (is_busy w n) (split p * c) (up p (exchanged_word a b w) (other n))) services
        ∙ ap (λ c. cond (is_busy w n) (split p * service_of p n) c) (up_there w n l)
      where
        services : service_of p (other n) ≡ service_of p n
        services =
            t.service (other n) (other_below (units p) n la lb l)
            ∙ ap (service_of s.parts) (other_station station same n)
            ∙ sym (t.service n l)

    pub is_exchange : IsExchange (words p) (word_table p) (exchanged_word a b) (exchanged_word a b)
    is_exchange = record {
      numbers = record {
        to_below = λ w l. exchanged_below (units p) w la lb l;
        back_below = λ w l. exchanged_below (units p) w la lb l;
        back_to = λ w l. exchanged_twice w;
        to_back = λ w l. exchanged_twice w;
      };
      same = λ v w l h.
          sym (by_others (λ n. cond (eqb (exchanged_word a b w) (turned_word (exchanged_word a b v) n))
          (turn_rate p (exchanged_word a b v) n) 0))
          ∙ sum-same (units p)
          (λ n. cond (eqb (exchanged_word a b w) (turned_word (exchanged_word a b v) (other n)))
          (turn_rate p (exchanged_word a b v) (other n)) 0)
          (λ n. cond (eqb w (turned_word v n)) (turn_rate p v n) 0)
          (λ n k.
          ap (λ c. cond (eqb (exchanged_word a b w) (turned_word (exchanged_word a b v) (other n))) c 0) (rate_there v n k)
          ∙ ap (λ c. cond c (turn_rate p v n) 0)
          (same_test (exchanged_word a b w) (turned_word (exchanged_word a b v) (other n)) w (turned_word v n)
          (λ e. sym (exchanged_twice w) ∙ ap (exchanged_word a b) (e ∙ exchanged_turned v n)
          ∙ exchanged_twice (turned_word v n))
          (λ e. ap (exchanged_word a b) e ∙ sym (exchanged_turned v n))));
    }

    -- a crew of the station is busy as much as another
    pub same_busy : (x : ℕ → ℕ) (z : ℕ) → ((w : ℕ) → w < words p → x (exchanged_word a b w) ≡ x w)
        → busy_mass p x z a ≡ busy_mass p x z b
    same_busy x z h =
        ap (λ c. c + z)
        (sym (sum-permuted (words p) (exchanged_word a b) (exchanged_word a b) (λ w. cond (is_busy w a) (x w) 0)
        (λ w l. exchanged_below (units p) w la lb l) (λ w l. exchanged_below (units p) w la lb l)
        (λ w l. exchanged_twice w) (λ w l. exchanged_twice w))
        ∙ sum-same (words p) (λ w. cond (is_busy (exchanged_word a b w) a) (x (exchanged_word a b w)) 0)
        (λ w. cond (is_busy w b) (x w) 0)
        (λ w l.
        ap (λ c. cond c (x (exchanged_word a b w)) 0) (busy_exchanged w a ∙ ap (is_busy w) other_first)
        ∙ ap (λ c. cond (is_busy w b) c 0) (h w l)))

    -- and takes as many calls
    pub same_taken : (x : ℕ → ℕ) (j : ℕ) → j < atoms p → ((w : ℕ) → w < words p → x (exchanged_word a b w) ≡ x w)
        → taken_mass p x a j ≡ taken_mass p x b j
    same_taken x j g h =
        sym (sum-permuted (words p) (exchanged_word a b) (exchanged_word a b)
        (λ w. cond (takes p j w a) (x w * portion p j w) 0)
        (λ w l. exchanged_below (units p) w la lb l) (λ w l. exchanged_below (units p) w la lb l)
        (λ w l. exchanged_twice w) (λ w l. exchanged_twice w))
        ∙ sum-same (words p)
        (λ w. cond (takes p j (exchanged_word a b w) a) (x (exchanged_word a b w) * portion p j (exchanged_word a b w)) 0)
        (λ w. cond (takes p j w b) (x w * portion p j w) 0)
        (λ w l.
        ap (λ c. cond c (x (exchanged_word a b w) * portion p j (exchanged_word a b w)) 0)
        (ap (takes p j (exchanged_word a b w)) (sym other_second) ∙ takes_there j w b g lb)
        ∙ ap (λ c. cond (takes p j w b) (c * portion p j (exchanged_word a b w)) 0) (h w l)
        ∙ ap (λ c. cond (takes p j w b) (x w * (split p / c)) 0) (count_there j w g))

    pub crews_alike : {most : ℕ} → IsAcceptedUpTo most p → (xs : List ℕ) → SolvesWords p xs
        → (w : ℕ) → w < words p → mass_in xs (exchanged_word a b w) ≡ mass_in xs w
    crews_alike accepted xs e w l =
        exchanged_balance (words p) (word_table p) (words_descend p accepted) (exchanged_word a b) (exchanged_word a b)
        is_exchange (mass_in xs) (solves_word_table p accepted xs e) w l

pub crews_are_alike : HoldsAtStations CrewsAreAlike
crews_are_alike most p s station accepted t xs z e a b la lb same w l =
    crews_alike a b p s station t la lb same accepted xs e.words w l
