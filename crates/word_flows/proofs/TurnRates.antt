-- A list of a plan's rates, in which one is written after the other.
use Rattle.std.proofs.Common.{◌≡◌, ◌≢◌, ℕ, suc, ◌+◌, ◌*◌, ◌/◌, ◌%◌, ◌^◌, ◌<◌, ◌≤◌, Bool, true, false, cond, ltb, List, length, get_or, refl, sym, ap, subst, ◌∙◌, inl, inr, arith}
use Rattle.std.specs.Prelude.{slice_index, slice_set}
use Rattle.std.proofs.lemmas.Bool.{cases_eq, cases_lt}
use Rattle.std.proofs.lemmas.Bool.Decides.{nat_tests}
use Rattle.std.proofs.lemmas.List.{get_or-set_other, get_or-set_same, get_or_past, length-set, set-get_or}
use Rattle.std.proofs.lemmas.Nat.{div-mul-add, mod-mul-add, mul-add-lt, mul-le, same_from_place}
use Rattle.hyper_model.specs.declared.parts.PlanParts.{PlanParts}
use Rattle.hyper_model.specs.Groups.{GroupLists, groups_in}
use Rattle.hyper_model.specs.Laws.{level}
use Rattle.hyper_model.specs.Plans.{units, atoms, calls_of, service_of, all_calls, split, IsAccepted}
use Rattle.hyper_model.specs.Rates.{down, up}
use Rattle.hyper_model.specs.Sums.{sum_below}
use Rattle.hyper_model.specs.Tables.{turn_rate, word_table}
use Rattle.hyper_model.specs.Words.{is_busy, is_taker, portion, words}
use Rattle.hyper_model.proofs.Takers.{split_le, up_le}
use Rattle.hyper_model.proofs.TravelTimes.{sum_grows}
use Rattle.hyper_model.proofs.WordRates.{leaving_small}
use Rattle.hyper_model.proofs.WordTables.{leaving_is, rate_parts, row_is}
use Rattle.busy_words.proofs.FirstGroups.{level_of_takers, takes_told}
use Rattle.state_certificate.specs.Masses.{AreMasses}
use Rattle.word_flows.specs.TurnRates.{HasLeavings, HasRates, atom_rate, rate_in_turn, rate_of_first, turn_place}

pub sum_next : (k : ℕ) (f : ℕ → ℕ) → sum_below (k + 1) f ≡ sum_below k f + f k
sum_next k f = ap (λ a. sum_below a f) (let e : k + 1 ≡ suc k = omega arith in e)

module _ (p : PlanParts) where
  -- each place is that of one unit in one word
  same_turn : (w n u m : ℕ) → w < words p → u < words p → turn_place p u m ≡ turn_place p w n → (u ≡ w) × (m ≡ n)
  same_turn w n u m l k e =
      let both = same_from_place m u n w (words p) k l e in
      (both.1, both.0)

  pub place_inside : (w n : ℕ) → w < words p → n < units p → turn_place p w n < units p * words p
  place_inside w n l k = omega (arith, mul-add-lt n (words p) w (units p) k l)

  -- rates that are alike
  pub rates_alike : (f g : ℕ → ℕ → ℕ) (rates : List ℕ) → HasRates p f rates
      → ((w n : ℕ) → w < words p → n < units p → f w n ≡ g w n) → HasRates p g rates
  rates_alike f g rates h same = record {
    one_each = h.one_each;
    each = λ w n l k. h.each w n l k ∙ same w n l k;
  }

  -- a rate is read at its place
  pub rate_here : (f : ℕ → ℕ → ℕ) (rates : List ℕ) (w n k i : ℕ) → HasRates p f rates → w < words p → n < units p
      → k ≡ words p → i ≡ w → slice_index rates (n * k + i) ≡ f w n
  rate_here f rates w n k i h l m e g =
      ap (λ a. slice_index rates (n * a + i)) e ∙ ap (λ a. slice_index rates (n * words p + a)) g ∙ h.each w n l m

  -- one rate is written, and the others are alike
  pub rates_set : (f g : ℕ → ℕ → ℕ) (rates : List ℕ) (w n v : ℕ) → w < words p → n < units p → HasRates p f rates → v ≡ g w n
      → ((u m : ℕ) → u < words p → m < units p → ((u ≡ w) × (m ≡ n) → ⊥) → f u m ≡ g u m)
      → HasRates p g (slice_set rates (turn_place p w n) v)
  rates_set f g rates w n v l k h here others = record {
    one_each = length-set rates (turn_place p w n) v ∙ h.one_each;
    each = λ u m a b. elim (cases_eq (turn_place p u m) (turn_place p w n)) [
      | inl e ↦
          let both = same_turn w n u m l a e in
          let inside : turn_place p w n < length rates = omega (arith, place_inside w n l k, h.one_each) in
          ap (λ i. get_or (slice_set rates (turn_place p w n) v) i 0) e
          ∙ get_or-set_same rates (turn_place p w n) v 0 inside ∙ here
          ∙ sym (ap (λ i. g i m) both.0 ∙ ap (λ i. g w i) both.1)
      | inr ne ↦
          get_or-set_other rates (turn_place p w n) (turn_place p u m) v 0 ne
          ∙ h.each u m a b
          ∙ others u m a b (λ both. ne (ap (λ i. turn_place p i m) both.0 ∙ ap (λ i. turn_place p w i) both.1))
    ];
  }

  module _ (a : IsAccepted p) where
    down_small : (w n : ℕ) → n < units p → down p w n ≤ 27720000000
    down_small w n l = on_busy (is_busy w n)
      where
        most : split p * service_of p n ≤ 27720000000
        most = omega (arith, mul-le (split p) (service_of p n) 27720 1000000 (split_le p a.units.number.high) (a.units.rates n l).high)

        on_busy : (b : Bool) → cond b (split p * service_of p n) 0 ≤ 27720000000
        on_busy true = most
        on_busy false = omega arith

    up_small : (w n : ℕ) → up p w n ≤ 27720000000
    up_small w n = omega (arith, up_le p w n, mul-le (split p) (all_calls p) 27720 1000000 (split_le p a.units.number.high) a.atoms.calls.high)

    -- no rate is past 2 ^ 36, whichever calls are counted
    pub first_small : (count w n : ℕ) → count ≤ atoms p → n < units p → rate_of_first count p w n ≤ 2 ^ 36
    first_small count w n few l =
        omega (arith, down_small w n l, up_small w n, sum_grows count (atoms p) (atom_rate p w n) few)

    pub turn_small : (w n : ℕ) → n < units p → turn_rate p w n ≤ 2 ^ 36
    turn_small w n l = omega (arith, rate_parts p w n, down_small w n l, up_small w n)

  -- no atom's calls are counted yet, or all are
  pub none_counted : (rates : List ℕ) → HasRates p (down p) rates → HasRates p (rate_of_first 0 p) rates
  none_counted rates h = rates_alike (down p) (rate_of_first 0 p) rates h (λ w n l k. omega arith)

  pub all_counted : (rates : List ℕ) → HasRates p (rate_of_first (atoms p) p) rates → HasRates p (turn_rate p) rates
  all_counted rates h =
      rates_alike (rate_of_first (atoms p) p) (turn_rate p) rates h (λ w n l k. omega (arith, rate_parts p w n))

  module _ (atom : ℕ) where
    earlier : (done w n : ℕ) → done ≤ w * units p + n → rate_in_turn p atom done w n ≡ rate_of_first atom p w n
    earlier done w n l = ap (λ b. rate_of_first (cond b (atom + 1) atom) p w n) (not_less (w * units p + n) done l)
      where
        not_less : (i k : ℕ) → k ≤ i → ltb i k ≡ false
        not_less i k h = grind (arith, nat_tests)

    later : (done w n : ℕ) → w * units p + n < done
        → rate_in_turn p atom done w n ≡ rate_of_first atom p w n + atom_rate p w n atom
    later done w n l =
        ap (λ b. rate_of_first (cond b (atom + 1) atom) p w n) (is_less (w * units p + n) done l)
        ∙ omega (arith, sum_next atom (atom_rate p w n))
      where
        is_less : (i k : ℕ) → i < k → ltb i k ≡ true
        is_less i k h = grind (arith, nat_tests)

    pub in_turn_small : IsAccepted p → (done w n : ℕ) → atom < atoms p → n < units p → rate_in_turn p atom done w n ≤ 2 ^ 36
    in_turn_small a done w n l k = either (ltb (w * units p + n) done)
      where
        either : (b : Bool) → rate_of_first (cond b (atom + 1) atom) p w n ≤ 2 ^ 36
        either true = first_small a (atom + 1) w n (omega arith) k
        either false = first_small a atom w n (omega arith) k

    -- no word has the calls of this atom yet, or all have
    pub turn_begins : (rates : List ℕ) → HasRates p (rate_of_first atom p) rates → HasRates p (rate_in_turn p atom 0) rates
    turn_begins rates h =
        rates_alike (rate_of_first atom p) (rate_in_turn p atom 0) rates h (λ w n l k. sym (earlier 0 w n (omega arith)))

    pub turn_ends : (rates : List ℕ) → HasRates p (rate_in_turn p atom (words p * units p)) rates
        → HasRates p (rate_of_first (atom + 1) p) rates
    turn_ends rates h =
        rates_alike (rate_in_turn p atom (words p * units p)) (rate_of_first (atom + 1) p) rates h (λ w n l k.
        later (words p * units p) w n (omega (arith, mul-add-lt w (units p) n (words p) l k)) ∙ omega (arith, sum_next atom (atom_rate p w n)))

    -- what one place more changes, and what it leaves
    alike_elsewhere : (w n u m : ℕ) → n < units p → m < units p → ((u ≡ w) × (m ≡ n) → ⊥)
        → rate_in_turn p atom (w * units p + n) u m ≡ rate_in_turn p atom (w * units p + (n + 1)) u m
    alike_elsewhere w n u m k l apart = elim (cases_lt (u * units p + m) (w * units p + n)) [
      | inl before ↦ later (w * units p + n) u m before ∙ sym (later (w * units p + (n + 1)) u m (omega arith))
      | inr after ↦
          let other : u * units p + m ≢ w * units p + n = λ e. apart (same_from_place u m w n (units p) l k e) in
          earlier (w * units p + n) u m after ∙ sym (earlier (w * units p + (n + 1)) u m (omega (arith, other)))
    ]

    here_more : (w n : ℕ) → rate_in_turn p atom (w * units p + (n + 1)) w n
        ≡ rate_in_turn p atom (w * units p + n) w n + atom_rate p w n atom
    here_more w n =
        later (w * units p + (n + 1)) w n (omega arith)
        ∙ ap (λ r. r + atom_rate p w n atom) (sym (earlier (w * units p + n) w n (omega arith)))

    -- the unit is sent to calls of the atom, and its rate is written
    pub next_sent : (rates : List ℕ) (w n v : ℕ) → w < words p → n < units p
        → HasRates p (rate_in_turn p atom (w * units p + n)) rates
        → v ≡ slice_index rates (turn_place p w n) + atom_rate p w n atom
        → HasRates p (rate_in_turn p atom (w * units p + (n + 1))) (slice_set rates (turn_place p w n) v)
    next_sent rates w n v l k h is =
        rates_set (rate_in_turn p atom (w * units p + n)) (rate_in_turn p atom (w * units p + (n + 1))) rates w n v l k h
        (is ∙ ap (λ r. r + atom_rate p w n atom) (h.each w n l k) ∙ sym (here_more w n))
        (λ u m a b apart. alike_elsewhere w n u m k b apart)

    -- it is not, and nothing is written
    pub next_not_sent : (rates : List ℕ) (w n : ℕ) → w < words p → n < units p
        → HasRates p (rate_in_turn p atom (w * units p + n)) rates → atom_rate p w n atom ≡ 0
        → HasRates p (rate_in_turn p atom (w * units p + (n + 1))) rates
    next_not_sent rates w n l k h none =
        subst (λ list. HasRates p (rate_in_turn p atom (w * units p + (n + 1))) list)
        (set-get_or rates (turn_place p w n) 0)
        (next_sent rates w n (slice_index rates (turn_place p w n)) l k h (omega (arith, none)))

  -- services are written place by place
  pub served_more : (rates : List ℕ) (place v : ℕ) → place < length rates
      → ((w n : ℕ) → w < words p → n < units p → turn_place p w n < place → slice_index rates (turn_place p w n) ≡ down p w n)
      → v ≡ down p (place % words p) (place / words p)
      → (w n : ℕ) → w < words p → n < units p → turn_place p w n < place + 1
      → slice_index (slice_set rates place v) (turn_place p w n) ≡ down p w n
  served_more rates place v inside before is w n l k below = elim (cases_eq (turn_place p w n) place) [
    | inl e ↦
        ap (λ i. get_or (slice_set rates place v) i 0) e
        ∙ get_or-set_same rates place v 0 inside ∙ is
        ∙ ap (λ i. down p (i % words p) (i / words p)) (sym e)
        ∙ ap (λ i. down p i (turn_place p w n / words p)) (mod-mul-add n (words p) w l)
        ∙ ap (down p w) (div-mul-add n (words p) w l)
    | inr ne ↦
        get_or-set_other rates place (turn_place p w n) v 0 ne ∙ before w n l k (omega (arith, ne))
  ]

-- what each of the units that take a call of the atom has of its calls, and what the others have
pub rate_sent : (p : PlanParts) (lists : GroupLists) → lists ≡ p.lists → (atom word set n rate : ℕ)
    → ((m : ℕ) → is_busy set m ≡ is_taker (groups_in lists atom) word m) → is_busy set n ≡ true
    → rate ≡ calls_of p atom * (split p / level (units p) set) → rate ≡ atom_rate p word n atom
rate_sent p lists e atom word set n rate told busy is =
    is
    ∙ ap (λ k. calls_of p atom * (split p / k)) (level_of_takers p lists e atom word set told)
    ∙ sym (ap (λ b. cond b (calls_of p atom * portion p atom word) 0)
    (sym (takes_told p lists e atom word set n (told n)) ∙ busy))

pub rate_not_sent : (p : PlanParts) (lists : GroupLists) → lists ≡ p.lists → (atom word set n : ℕ)
    → ((m : ℕ) → is_busy set m ≡ is_taker (groups_in lists atom) word m) → is_busy set n ≡ false
    → atom_rate p word n atom ≡ 0
rate_not_sent p lists e atom word set n told free =
    ap (λ b. cond b (calls_of p atom * portion p atom word) 0) (sym (takes_told p lists e atom word set n (told n)) ∙ free)

-- no rate out of a word is past 2 ^ 54
pub leavings_small : (p : PlanParts) → IsAccepted p → (leavings : List ℕ) → HasLeavings p leavings
    → AreMasses (words p) (2 ^ 54) leavings
leavings_small p a leavings h = record {
  one_each = h.one_each;
  small = λ w. elim (cases_lt w (words p)) [
    | inl inside ↦ omega (arith, h.each w inside, leaving_is p a w inside, leaving_small p a w)
    | inr past ↦ omega (arith, get_or_past leavings w 0 (omega (arith, h.one_each)))
  ];
}

-- the rate out of a word, as the flows name it
pub leaving_here : (p : PlanParts) → IsAccepted p → (leavings : List ℕ) → HasLeavings p leavings → (w : ℕ) → w < words p
    → slice_index leavings w ≡ sum_below (words p) (word_table p w)
leaving_here p a leavings h w l = h.each w l ∙ sym (row_is p w l)
