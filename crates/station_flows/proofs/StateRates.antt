-- The lists of a fleet's rates, in which one is written after the other.
use Rattle.std.proofs.Common.{◌≡◌, ◌≢◌, ℕ, suc, ◌+◌, ◌*◌, ◌^◌, ◌<◌, ◌≤◌, Bool, true, false, cond, eqb, ltb, eq-eqb, List, [], ◌∷◌, ◌++◌, length, get_or, drop, drop-cons, refl, sym, ap, ◌∙◌, inl, inr, arith}
use Rattle.std.specs.Prelude.{slice_index, slice_set}
use Rattle.std.proofs.lemmas.Bool.{cases_eq, cases_lt, ne_eqb}
use Rattle.std.proofs.lemmas.Bool.Decides.{nat_tests}
use Rattle.std.proofs.lemmas.List.{get_or-set_other, get_or-set_same, get_or_append_left, get_or_past, get_or_push, length-set}
use Rattle.std.proofs.lemmas.List.Elements.{All-get_or}
use Rattle.std.proofs.lemmas.Nat.{mul-add-lt, mul-le, same_from_place}
use Rattle.hyper_model.specs.declared.TheConstants.{MOST_RATE}
use Rattle.hyper_model.specs.Groups.{no_row, row_of, IsRegular}
use Rattle.hyper_model.specs.Plans.{atoms, calls_of}
use Rattle.hyper_model.specs.Sums.{sum_below}
use Rattle.hyper_model.proofs.Grouping.{from_grouped}
use Rattle.hyper_model.proofs.Sums.{sum-constant, sum-le}
use Rattle.hyper_model.proofs.TravelTimes.{sum_grows}
use Rattle.crew_stations.specs.declared.TheConstants.{MOST_CREWS}
use Rattle.crew_stations.specs.Fleets.{IsFleet}
use Rattle.crew_stations.specs.Stations.{StationPlan, stations, crews_at, crew_service, stride_of, states, busy_in, has_room, order_of, is_first, answers, sent_rate, ended_rate, state_table}
use Rattle.crew_stations.proofs.Fleets.{crews_small}
use Rattle.crew_stations.proofs.Flows.{outflow_is}
use Rattle.crew_stations.proofs.Neighbours.{digit_le, digit_low}
use Rattle.state_certificate.specs.Masses.{AreMasses}
use Rattle.station_flows.specs.StateRates.{HasLeavings, HasRates, counted_atoms, place_of, sent_so_far, sent_to_first}

pub sum_next : (k : ℕ) (f : ℕ → ℕ) → sum_below (k + 1) f ≡ sum_below k f + f k
sum_next k f = ap (λ a. sum_below a f) (let e : k + 1 ≡ suc k = omega arith in e)

is_less : (a b : ℕ) → a < b → ltb a b ≡ true
is_less a b l = grind (arith, nat_tests)

is_not_less : (a b : ℕ) → b ≤ a → ltb a b ≡ false
is_not_less a b l = grind (arith, nat_tests)

module _ (s : StationPlan) where
  -- one stride more
  pub strides_more : (strides : List ℕ) (k v : ℕ) → length strides ≡ k
      → ((i : ℕ) → i < k → slice_index strides i ≡ stride_of s i) → v ≡ stride_of s k
      → (i : ℕ) → i < k + 1 → slice_index (strides ++ v ∷ []) i ≡ stride_of s i
  strides_more strides k v count before here i l = elim (cases_eq i k) [
    | inl e ↦
        ap (λ j. get_or (strides ++ v ∷ []) j 0) e ∙ get_or_push strides v 0 k count ∙ here ∙ ap (stride_of s) (sym e)
    | inr ne ↦
        let inside : i < length strides = omega (arith, count, ne) in
        get_or_append_left strides (v ∷ []) 0 i inside ∙ before i (omega (arith, ne))
  ]

  -- each place is that of one station in one state
  pub place_inside : (a k : ℕ) → a < states s → k < stations s → place_of s a k < states s * stations s
  place_inside a k l h = omega (arith, mul-add-lt a (stations s) k (states s) l h)

  same_rate : (a k b m : ℕ) → k < stations s → m < stations s → place_of s b m ≡ place_of s a k → (b ≡ a) × (m ≡ k)
  same_rate a k b m l h e = same_from_place b m a k (stations s) h l e

  pub rates_alike : (f g : ℕ → ℕ → ℕ) (rates : List ℕ) → HasRates s f rates
      → ((a k : ℕ) → a < states s → k < stations s → f a k ≡ g a k) → HasRates s g rates
  rates_alike f g rates h same = record {
    one_each = h.one_each;
    each = λ a k l m. h.each a k l m ∙ same a k l m;
  }

  -- one rate is written, and the others are alike
  rates_set : (f g : ℕ → ℕ → ℕ) (rates : List ℕ) (a k v : ℕ) → a < states s → k < stations s → HasRates s f rates
      → v ≡ g a k
      → ((b m : ℕ) → b < states s → m < stations s → ((b ≡ a) × (m ≡ k) → ⊥) → f b m ≡ g b m)
      → HasRates s g (slice_set rates (place_of s a k) v)
  rates_set f g rates a k v l h has here others = record {
    one_each = length-set rates (place_of s a k) v ∙ has.one_each;
    each = λ b m i j. elim (cases_eq (place_of s b m) (place_of s a k)) [
      | inl e ↦
          let both = same_rate a k b m h j e in
          let inside : place_of s a k < length rates = omega (arith, place_inside a k l h, has.one_each) in
          ap (λ n. get_or (slice_set rates (place_of s a k) v) n 0) e
          ∙ get_or-set_same rates (place_of s a k) v 0 inside ∙ here
          ∙ sym (ap (λ n. g n m) both.0 ∙ ap (λ n. g a n) both.1)
      | inr ne ↦
          get_or-set_other rates (place_of s a k) (place_of s b m) v 0 ne
          ∙ has.each b m i j
          ∙ others b m i j (λ both. ne (ap (λ n. place_of s n m) both.0 ∙ ap (λ n. place_of s a n) both.1))
    ];
  }

  -- of how many atoms the calls are counted, before a state, in it and after it
  counted_before : (now count a : ℕ) → a < now → counted_atoms s now count a ≡ atoms s.parts
  counted_before now count a l = ap (λ b. cond b (atoms s.parts) (cond (eqb a now) count 0)) (is_less a now l)

  counted_here : (now count a : ℕ) → a ≡ now → counted_atoms s now count a ≡ count
  counted_here now count a e =
      ap (λ b. cond b (atoms s.parts) (cond (eqb a now) count 0)) (is_not_less a now (omega (arith, e)))
      ∙ ap (λ b. cond b count 0) (eq-eqb a now e)

  counted_after : (now count a : ℕ) → now < a → counted_atoms s now count a ≡ 0
  counted_after now count a l =
      ap (λ b. cond b (atoms s.parts) (cond (eqb a now) count 0)) (is_not_less a now (omega (arith, l)))
      ∙ ap (λ b. cond b count 0) (ne_eqb a now (omega (arith, l)))

  as_counted : (n m a k : ℕ) → n ≡ m → sent_to_first n s a k ≡ sent_to_first m s a k
  as_counted n m a k e = ap (λ c. sent_to_first c s a k) e

  -- no calls are counted yet, those of one state are, and all are
  pub none_counted : (rates : List ℕ) → HasRates s (λ state k. 0) rates → HasRates s (sent_so_far s 0 0) rates
  none_counted rates h =
      rates_alike (λ state k. 0) (sent_so_far s 0 0) rates h (λ a k l m. elim (cases_eq a 0) [
        | inl e ↦ sym (as_counted (counted_atoms s 0 0 a) 0 a k (counted_here 0 0 a e))
        | inr ne ↦ sym (as_counted (counted_atoms s 0 0 a) 0 a k (counted_after 0 0 a (omega (arith, ne))))
      ])

  pub state_counted : (now : ℕ) (rates : List ℕ) → HasRates s (sent_so_far s now (atoms s.parts)) rates
      → HasRates s (sent_so_far s (now + 1) 0) rates
  state_counted now rates h =
      rates_alike (sent_so_far s now (atoms s.parts)) (sent_so_far s (now + 1) 0) rates h (λ a k l m.
      as_counted (counted_atoms s now (atoms s.parts) a) (counted_atoms s (now + 1) 0 a) a k (elim (cases_lt now a) [
        | inl later ↦
            counted_after now (atoms s.parts) a later
            ∙ elim (cases_eq a (now + 1)) [
              | inl e ↦ sym (counted_here (now + 1) 0 a e)
              | inr ne ↦ sym (counted_after (now + 1) 0 a (omega (arith, ne, later)))
            ]
        | inr le ↦
            elim (cases_eq a now) [
              | inl e ↦ counted_here now (atoms s.parts) a e
              | inr ne ↦ counted_before now (atoms s.parts) a (omega (arith, ne, le))
            ]
            ∙ sym (counted_before (now + 1) 0 a (omega (arith, le)))
      ]))

  pub all_counted : (rates : List ℕ) → HasRates s (sent_so_far s (states s) 0) rates → HasRates s (sent_rate s) rates
  all_counted rates h =
      rates_alike (sent_so_far s (states s) 0) (sent_rate s) rates h (λ a k l m.
      as_counted (counted_atoms s (states s) 0 a) (atoms s.parts) a k (counted_before (states s) 0 a l))

  -- the calls of one atom more
  sent_next : (j a k : ℕ)
      → sent_to_first (j + 1) s a k ≡ sent_to_first j s a k + cond (answers s j a k) (calls_of s.parts j) 0
  sent_next j a k = sum_next j (λ i. cond (answers s i a k) (calls_of s.parts i) 0)

  elsewhere : (now j a k : ℕ) → a ≢ now → sent_so_far s now j a k ≡ sent_so_far s now (j + 1) a k
  elsewhere now j a k ne =
      as_counted (counted_atoms s now j a) (counted_atoms s now (j + 1) a) a k (elim (cases_lt a now) [
        | inl before ↦ counted_before now j a before ∙ sym (counted_before now (j + 1) a before)
        | inr le ↦
            let after : now < a = omega (arith, le, ne) in
            counted_after now j a after ∙ sym (counted_after now (j + 1) a after)
      ])

  here_so_far : (now j a k : ℕ) → a ≡ now → sent_so_far s now j a k ≡ sent_to_first j s a k
  here_so_far now j a k e = as_counted (counted_atoms s now j a) j a k (counted_here now j a e)

  not_answered : (now j a k : ℕ) → a ≡ now → answers s j a k ≡ false → sent_so_far s now j a k ≡ sent_so_far s now (j + 1) a k
  not_answered now j a k e none =
      here_so_far now j a k e
      ∙ sym (here_so_far now (j + 1) a k e ∙ sent_next j a k
      ∙ ap (λ b. sent_to_first j s a k + cond b (calls_of s.parts j) 0) none ∙ omega arith)

  -- they go to this station, and its rate is written
  pub next_sent : (rates : List ℕ) (now j first v : ℕ) → now < states s → first < stations s
      → ((k : ℕ) → answers s j now k ≡ eqb first k) → HasRates s (sent_so_far s now j) rates
      → v ≡ slice_index rates (place_of s now first) + calls_of s.parts j
      → HasRates s (sent_so_far s now (j + 1)) (slice_set rates (place_of s now first) v)
  next_sent rates now j first v l h told has is =
      rates_set (sent_so_far s now j) (sent_so_far s now (j + 1)) rates now first v l h has
      (is
      ∙ ap (λ r. r + calls_of s.parts j) (has.each now first l h ∙ here_so_far now j now first refl)
      ∙ sym (here_so_far now (j + 1) now first refl ∙ sent_next j now first
      ∙ ap (λ b. sent_to_first j s now first + cond b (calls_of s.parts j) 0)
      (told first ∙ eq-eqb first first refl)))
      (λ a k i m apart. elim (cases_eq a now) [
        | inl e ↦
            let other : first ≢ k = λ g. apart (e, sym g) in
            not_answered now j a k e (ap (λ n. answers s j n k) e ∙ told k ∙ ne_eqb first k other)
        | inr ne ↦ elsewhere now j a k ne
      ])

  -- they go to none, and nothing is written
  pub next_not_sent : (rates : List ℕ) (now j : ℕ) → ((k : ℕ) → answers s j now k ≡ false)
      → HasRates s (sent_so_far s now j) rates → HasRates s (sent_so_far s now (j + 1)) rates
  next_not_sent rates now j none has =
      rates_alike (sent_so_far s now j) (sent_so_far s now (j + 1)) rates has (λ a k l m. elim (cases_eq a now) [
        | inl e ↦ not_answered now j a k e (ap (λ n. answers s j n k) e ∙ none k)
        | inr ne ↦ elsewhere now j a k ne
      ])

  -- the list of an atom, place by place
  pub first_here : (list : List ℕ) (a place : ℕ) → place < length list → has_room s a (get_or list place 0) ≡ true
      → (k : ℕ) → is_first s (drop place list) a k ≡ eqb (get_or list place 0) k
  first_here list a place l room k = rw (drop-cons list place 0 l)
      (ap (λ b. cond b (eqb (get_or list place 0) k) (is_first s (drop (suc place) list) a k)) room)

  pub first_later : (list : List ℕ) (a place : ℕ) → place < length list → has_room s a (get_or list place 0) ≡ false
      → (k : ℕ) → is_first s (drop (place + 1) list) a k ≡ is_first s (drop place list) a k
  first_later list a place l full k =
      let next : place + 1 ≡ suc place = omega arith in
      rw (next, drop-cons list place 0 l)
      (sym (ap (λ b. cond b (eqb (get_or list place 0) k) (is_first s (drop (suc place) list) a k)) full))

  pub list_length : IsRegular s.parts.lists → (j : ℕ) → j < length s.parts.lists.rows
      → length (order_of s j) ≡ s.parts.lists.units
  list_length regular j l =
      All-get_or (λ row. length row.members ≡ s.parts.lists.units) s.parts.lists.rows j no_row l regular.members

  module _ (f : IsFleet s) where
    pub station_listed : (j place : ℕ) → j < atoms s.parts → place < length (order_of s j)
        → get_or (order_of s j) place 0 < stations s
    station_listed j place l h =
        All-get_or (λ k. k < stations s) (order_of s j) place 0 h
        (from_grouped (stations s) (order_of s j) (drop 1 (row_of s.parts.lists j).begins) (f.accepted.lists.grouped j l)).within

    -- no rate at which crews are sent is past that of all calls
    first_small : (count a k : ℕ) → count ≤ atoms s.parts → sent_to_first count s a k ≤ MOST_RATE
    first_small count a k l =
        omega (
          arith,
          sum-le count (λ j. cond (answers s j a k) (calls_of s.parts j) 0) (calls_of s.parts)
              (λ j h. some_of (answers s j a k) (calls_of s.parts j)),
          sum_grows count (atoms s.parts) (calls_of s.parts) l,
          f.accepted.atoms.calls.high,
        )
      where
        some_of : (b : Bool) (r : ℕ) → cond b r 0 ≤ r
        some_of true r = omega arith
        some_of false r = omega arith

    pub sent_small : (a k : ℕ) → sent_rate s a k ≤ MOST_RATE
    sent_small a k = first_small (atoms s.parts) a k (omega arith)

    pub sent_fits : (now j a k : ℕ) → a ≡ now → j < atoms s.parts
        → sent_so_far s now j a k + calls_of s.parts j ≤ 2 * MOST_RATE
    sent_fits now j a k e l =
        omega (
          arith,
          here_so_far now j a k e,
          first_small j a k (omega (arith, l)),
          (f.accepted.atoms.placed j l).rate,
        )

    pub ended_small : (a k : ℕ) → k < stations s → ended_rate s a k ≤ 200 * MOST_RATE
    ended_small a k l =
        mul-le (busy_in s a k) (crew_service s k) 200 MOST_RATE
        (omega (arith, digit_le (crews_at s) k a, crews_small s f k l))
        (f.accepted.rates k l).high

    pub leaving_so_far : (n a : ℕ) → n ≤ stations s
        → sum_below n (λ k. sent_rate s a k + ended_rate s a k) ≤ n * 201000000
    leaving_so_far n a l =
        omega (
          arith,
          sum-le n (λ k. sent_rate s a k + ended_rate s a k) (λ k. 201000000)
              (λ k h. omega (arith, sent_small a k, ended_small a k (omega (arith, h, l)))),
          sum-constant n 201000000,
        )

    pub leavings_small : (leavings : List ℕ) → HasLeavings s leavings → AreMasses (states s) (2 ^ 54) leavings
    leavings_small leavings h = record {
      one_each = h.one_each;
      small = λ a. elim (cases_lt a (states s)) [
        | inl inside ↦
            omega (arith, h.each a inside, leaving_so_far (stations s) a (omega arith), f.few_stations)
        | inr past ↦ omega (arith, get_or_past leavings a 0 (omega (arith, h.one_each, past)))
      ];
    }

    -- no more crews are busy than there are
    pub crews_so_far : (n : ℕ) → n ≤ stations s → sum_below n (crews_at s) ≤ MOST_CREWS
    crews_so_far n l = omega (arith, sum_grows n (stations s) (crews_at s) l, f.accepted.number.high)

  -- a state with a busy crew at a station has one with a busy crew less
  pub lower_inside : (b k : ℕ) → busy_in s b k ≢ 0 → stride_of s k ≤ b
  lower_inside b k some = elim (cases_lt b (stride_of s k)) [
    | inl low ↦ absurd (some (digit_low (crews_at s) k b low))
    | inr high ↦ high
  ]

  -- the rate out of a state, as the flows name it
  pub leaving_here : (leavings : List ℕ) → HasLeavings s leavings → (a : ℕ) → a < states s
      → slice_index leavings a ≡ sum_below (states s) (state_table s a)
  leaving_here leavings h a l = h.each a l ∙ sym (outflow_is s a l)
