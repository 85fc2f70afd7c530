-- The word of a state, the sums of weights by word, and the gathered weights, one more at a time.
use Rattle.std.proofs.Common.{◌≡◌, ℕ, suc, ◌+◌, ◌*◌, ◌^◌, ◌<◌, ◌≤◌, ◌/◌, ◌%◌, Bool, true, false, true≢false, cond, eqb, ltb, eq-eqb, List, [], ◌∷◌, ◌++◌, length, length-append, get_or, set, refl, sym, ap, ap₂, subst, ◌∙◌, inl, inr, arith}
use Rattle.std.specs.Int.{div_ceil}
use Rattle.std.proofs.lemmas.Grind.{div_ceil_times}
use Rattle.std.proofs.lemmas.Nat.{pow_pos}
use Rattle.std.proofs.Math.Nat.{div-div-eq-div-mul, mul-le-mul_right, pow-le-pow_right}
use Rattle.std.proofs.lemmas.Bool.{cases_eq, cases_lt, ne_eqb}
use Rattle.std.proofs.lemmas.List.{get_or_default, get_or-set_same, get_or-set_other, get_or_append_left}
use Rattle.std.proofs.Math.Seq.{get_or-append_seam}
use Rattle.fixed_interval.specs.Ends.{Ends, between, plus_ends, shifted_ends}
use Rattle.fixed_interval.specs.WeightList.{IsLeastShift, ends_at}
use Rattle.fixed_interval.proofs.Rounding.{div_ceil-le}
use Rattle.hyper_model.specs.Sums.{sum_below}
use Rattle.hyper_model.proofs.Sums.{sum-le}
use Rattle.hyper_model.proofs.TravelTimes.{sum_grows}
use Rattle.hyper_model.specs.declared.kinds.Line.{Line}
use Rattle.hyper_model.specs.declared.kinds.Line.TheVariants as line
use Rattle.hyper_model.specs.Plans.{units}
use Rattle.hyper_model.specs.Words.{words}
use Rattle.busy_words.specs.Algebra.{total_ends, where_ends}
use Rattle.busy_words.specs.Order.{WordOrder, word_at}
use Rattle.busy_words.specs.Parts.{set_ends}
use Rattle.busy_words.specs.WeightParts.{places_on}
use Rattle.crew_stations.specs.Fleets.{IsFleet}
use Rattle.crew_stations.specs.Stations.{StationPlan, stations, crews_at, has_room, states, stride_of}
use Rattle.fleet_measures.specs.Pooled.{AreGathered, exhausted_word, gathered_weight, pooled, pooled_weight, state_places, state_places_on, waiting_weights}
use Rattle.fleet_measures.proofs.Gathering.{is_below, is_past}
use Rattle.fleet_measures.proofs.Pooling.{units_are}

-- the word and the number that is left, one station further
pub next_word : (s : StationPlan) (a k word rest crews next more : ℕ) → word ≡ sum_below k (λ i. cond (has_room s a i) 0 (2 ^ i))
    → rest ≡ a / stride_of s k → crews ≡ crews_at s k → next ≡ suc k
    → more ≡ word + cond (ltb (rest % (crews + 1)) crews) 0 (2 ^ k)
    → more ≡ sum_below next (λ i. cond (has_room s a i) 0 (2 ^ i))
next_word s a k word rest crews next more is_word is_rest is_crews one_more is_more =
    rw (one_more, is_more, is_word, is_rest, is_crews) refl

pub next_quotient : (s : StationPlan) (a k rest crews next left : ℕ) → rest ≡ a / stride_of s k → crews ≡ crews_at s k
    → next ≡ suc k → left ≡ rest / (crews + 1) → left ≡ a / stride_of s next
next_quotient s a k rest crews next left is_rest is_crews one_more is_left =
    rw (one_more, is_left, is_rest, is_crews) (div-div-eq-div-mul a (stride_of s k) (crews_at s k + 1))

-- the bit of one of twelve stations, and a word with one bit more
pub bit_small : (k : ℕ) → k < 12 → 2 ^ k ≤ 2 ^ 11
bit_small k l = pow-le-pow_right (omega arith) (let few : k ≤ 11 = omega (arith, l) in few)

pub next_below : (k next word bit : ℕ) → word < 2 ^ k → bit ≤ 2 ^ k → next ≡ suc k → word + bit < 2 ^ next
next_below k next word bit below most one_more =
    rw one_more (let e : 2 ^ suc k ≡ 2 ^ k + 2 ^ k = omega arith in omega (arith, below, most, e))

with_item : (b : Bool) (a c : Ends) → b ≡ true → plus_ends a c ≡ plus_ends a (where_ends b c)
with_item true a c e = refl
with_item false a c e = absurd (true≢false (sym e))

without_item : (b : Bool) (a c : Ends) → b ≡ false → a ≡ plus_ends a (where_ends b c)
without_item true a c e = absurd (true≢false e)
without_item false a c e = ap₂ between (plus_none a.lo) (plus_none a.hi)
  where
    plus_none : (n : ℕ) → n ≡ n + 0
    plus_none n = omega arith

-- of each word, the sum of the weights of its first states, one state more
pub next_sums : (s : StationPlan) (w : ℕ → Ends) (n next here : ℕ) (sums : List Ends) (value : Ends)
    → length sums ≡ 2 ^ stations s → next ≡ suc n → here ≡ exhausted_word s n → here < 2 ^ stations s
    → ((word : ℕ) → word < 2 ^ stations s → ends_at sums word ≡ set_ends n (λ a. eqb (exhausted_word s a) word) w)
    → value ≡ plus_ends (ends_at sums here) (w n)
    → (word : ℕ) → word < 2 ^ stations s
    → ends_at (set sums here value) word ≡ set_ends next (λ a. eqb (exhausted_word s a) word) w
next_sums s w n next here sums value count one_more is_here inside before is_value word l = elim (cases_eq word here) [
  | inl e ↦
      ap (λ i. ends_at (set sums here value) i) e
      ∙ get_or-set_same sums here value (between 0 0) (omega (arith, inside, count))
      ∙ is_value
      ∙ ap (λ a. plus_ends a (w n)) (before here inside)
      ∙ with_item (eqb (exhausted_word s n) here) (set_ends n (λ a. eqb (exhausted_word s a) here) w) (w n)
      (eq-eqb (exhausted_word s n) here (sym is_here))
      ∙ ap (λ m. set_ends m (λ a. eqb (exhausted_word s a) here) w) (sym one_more)
      ∙ ap (λ i. set_ends next (λ a. eqb (exhausted_word s a) i) w) (sym e)
  | inr ne ↦
      get_or-set_other sums here word value (between 0 0) ne
      ∙ before word l
      ∙ without_item (eqb (exhausted_word s n) word) (set_ends n (λ a. eqb (exhausted_word s a) word) w) (w n)
      (ne_eqb (exhausted_word s n) word (λ e. ne (sym e ∙ sym is_here)))
      ∙ ap (λ m. set_ends m (λ a. eqb (exhausted_word s a) word) w) (sym one_more)
]

-- and the high ends stay small
pub next_most : (n next here bound : ℕ) (sums : List Ends) (value weight : Ends) → here < bound → length sums ≡ bound
    → next ≡ suc n → ((word : ℕ) → word < bound → (ends_at sums word).hi ≤ n * 2 ^ 52)
    → value ≡ plus_ends (ends_at sums here) weight → weight.hi ≤ 2 ^ 52
    → (word : ℕ) → word < bound → (ends_at (set sums here value) word).hi ≤ next * 2 ^ 52
next_most n next here bound sums value weight inside count one_more most is_value small word l = elim (cases_eq word here) [
  | inl e ↦
      omega (
        arith,
        ap (λ (a : Ends). a.hi) (ap (λ i. ends_at (set sums here value) i) e
            ∙ get_or-set_same sums here value (between 0 0) (omega (arith, inside, count)) ∙ is_value),
        most here inside,
        small,
        one_more,
      )
  | inr ne ↦
      omega (
        arith,
        ap (λ (a : Ends). a.hi) (get_or-set_other sums here word value (between 0 0) ne),
        most word l,
        one_more,
      )
]

-- a word of the pooled plan is one of the words of the stations, and the sum of its weights is in the list at it
pub word_inside : (s : StationPlan) (order : WordOrder) (narrow word : ℕ) → order.units ≡ units (pooled s)
    → narrow < 2 ^ order.units → word ≡ narrow → word < 2 ^ stations s
word_inside s order narrow word same below is_word =
    subst (λ n. word < 2 ^ n) (same ∙ units_are s) (rw is_word below)

pub sum_at : (s : StationPlan) (items sums : List Ends) (word : ℕ) (value : Ends) → length sums ≡ 2 ^ stations s
    → ((word : ℕ) → word < 2 ^ stations s → ends_at sums word ≡ pooled_weight s (ends_at items) word)
    → word < 2 ^ stations s → value ≡ get_or sums word value → value ≡ pooled_weight s (ends_at items) word
sum_at s items sums word value count each inside is_value =
    is_value ∙ get_or_default sums word value (between 0 0) (omega (arith, inside, count)) ∙ each word inside

-- a list of weights with one more after it
pub next_weight : (g : ℕ → Ends) (n next : ℕ) (before after : List Ends) (item : Ends) → length before ≡ n → next ≡ suc n
    → ((i : ℕ) → i < n → ends_at before i ≡ g i) → item ≡ g n → after ≡ before ++ item ∷ []
    → (i : ℕ) → i < next → ends_at after i ≡ g i
next_weight g n next before after item count one_more each is_item is_after i l = elim (cases_eq i n) [
  | inl e ↦
      ap (λ list. ends_at list i) is_after
      ∙ ap (ends_at (before ++ item ∷ [])) (e ∙ sym count)
      ∙ get_or-append_seam before item [] (between 0 0)
      ∙ is_item
      ∙ ap g (sym e)
  | inr ne ↦
      let below : i < n = omega (arith, l, one_more, ne) in
      ap (λ list. ends_at list i) is_after
      ∙ get_or_append_left before (item ∷ []) (between 0 0) i (omega (arith, below, count))
      ∙ each i below
]

first_of : (i n : ℕ) (a b : Ends) → i < n → a ≡ cond (ltb i n) a b
first_of i n a b l = ap (λ t. cond t a b) (sym (is_below i n l))

last_of : (i n : ℕ) (a b : Ends) → n ≤ i → b ≡ cond (ltb i n) a b
last_of i n a b l = ap (λ t. cond t a b) (sym (is_past i n l))

-- all gathered weights, those of the words and that of the calls that wait
pub gathered_are : (s : StationPlan) (order : WordOrder) (items before after : List Ends) (power : ℕ)
    → IsLeastShift (total_ends (length items) (ends_at items)).hi power → length before ≡ words (pooled s)
    → ((i : ℕ) → i < words (pooled s)
    → ends_at before i ≡ shifted_ends power (pooled_weight s (ends_at items) (word_at order i)))
    → after ≡ before ++ waiting_weights s.parts.line (shifted_ends power (ends_at items (states s)))
    → AreGathered s order items after
gathered_are s order items before after power least count each is_after = record {
  power = power;
  least = least;
  one_each = ap (λ (list : List Ends). length list) is_after ∙ lengths s.parts.line;
  each = λ i l. ap (λ list. ends_at list i) is_after ∙ by_line s.parts.line i l;
}
  where
    waiting : Ends
    waiting = shifted_ends power (ends_at items (states s))

    lengths : (l : Line) → length (before ++ waiting_weights l waiting) ≡ places_on l (pooled s)
    lengths line.Zero = omega (arith, length-append before [], count)
    lengths line.Infinite = omega (arith, length-append before (waiting ∷ []), count)

    of_word : (i : ℕ) → i < words (pooled s) → (rest : List Ends)
        → ends_at (before ++ rest) i ≡ shifted_ends power (gathered_weight s order (ends_at items) i)
    of_word i l rest =
        get_or_append_left before rest (between 0 0) i (omega (arith, l, count))
        ∙ each i l
        ∙ ap (shifted_ends power) (first_of i (words (pooled s)) (pooled_weight s (ends_at items) (word_at order i))
        (ends_at items (states s)) l)

    by_line : (l : Line) (i : ℕ) → i < places_on l (pooled s)
        → ends_at (before ++ waiting_weights l waiting) i ≡ shifted_ends power (gathered_weight s order (ends_at items) i)
    by_line line.Zero i l = of_word i l []
    by_line line.Infinite i l = elim (cases_lt i (words (pooled s))) [
      | inl h ↦ of_word i h (waiting ∷ [])
      | inr h ↦
          ap (ends_at (before ++ waiting ∷ [])) (let e : i ≡ length before = omega (arith, l, h, count) in e)
          ∙ get_or-append_seam before waiting [] (between 0 0)
          ∙ ap (shifted_ends power) (last_of i (words (pooled s)) (pooled_weight s (ends_at items) (word_at order i))
          (ends_at items (states s)) h)
    ]

-- the weight of a word is at most that of all
pub pooled_fits : (s : StationPlan) (items : List Ends) (word power : ℕ) → states s ≤ length items
    → div_ceil (total_ends (length items) (ends_at items)).hi (2 ^ power) ≤ 2 ^ 52
    → div_ceil (pooled_weight s (ends_at items) word).hi (2 ^ power) ≤ 2 ^ 52
pooled_fits s items word power few fits =
    let total : ℕ = (total_ends (length items) (ends_at items)).hi in
    let part : ℕ = (pooled_weight s (ends_at items) word).hi in
    let pos : 0 < 2 ^ power = pow_pos power in
    let least : part ≤ total =
    omega (
      arith,
      sum-le (states s) (λ a. cond (eqb (exhausted_word s a) word) (ends_at items a).hi 0) (λ a. (ends_at items a).hi)
          (λ a l. chosen_le (eqb (exhausted_word s a) word) (ends_at items a).hi),
      sum_grows (states s) (length items) (λ a. (ends_at items a).hi) few,
    ) in
    let whole : total ≤ div_ceil total (2 ^ power) * 2 ^ power = (div_ceil_times total (2 ^ power) pos).0 in
    let room : div_ceil total (2 ^ power) * 2 ^ power ≤ 2 ^ 52 * 2 ^ power = mul-le-mul_right (2 ^ power) fits in
    div_ceil-le part (2 ^ power) (2 ^ 52) pos (omega (arith, least, whole, room))
  where
    chosen_le : (b : Bool) (m : ℕ) → cond b m 0 ≤ m
    chosen_le true m = omega arith
    chosen_le false m = omega arith

-- a fleet has few weights, and one at least for each state
pub places_few : (s : StationPlan) → IsFleet s → state_places s ≤ 65537
places_few s f = on_line s.parts.line
  where
    on_line : (l : Line) → state_places_on l s ≤ 65537
    on_line line.Zero = omega (arith, f.few_states)
    on_line line.Infinite = omega (arith, f.few_states)

pub states_fit : (s : StationPlan) → states s ≤ state_places s
states_fit s = on_line s.parts.line
  where
    on_line : (l : Line) → states s ≤ state_places_on l s
    on_line line.Zero = omega arith
    on_line line.Infinite = omega arith
