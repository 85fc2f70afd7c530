-- The flows into a state and the rates out of it, station by station.
use Rattle.std.proofs.Common.{◌≡◌, ℕ, ◌+◌, ◌-◌, ◌*◌, ◌<◌, ◌≤◌, Bool, true, false, cond, eqb, ltb, true≢false, refl, sym, ap, ◌∙◌, inl, inr, arith}
use Rattle.std.proofs.lemmas.Bool.{cases_lt, ne_eqb}
use Rattle.std.proofs.lemmas.Bool.Decides.{nat_tests}
use Rattle.hyper_model.specs.Plans.{atoms, calls_of}
use Rattle.hyper_model.specs.Sums.{sum_below}
use Rattle.hyper_model.proofs.Sums.{on_test, same_test, cond_scaled, sum-same, sum-add, sum-scaled, sum-swap, sum-at, sum_none}
use Rattle.crew_stations.specs.StateFlows.{came_sent, came_ended, IsInflowOfStations, IsOutflowOfStations}
use Rattle.crew_stations.specs.Stations.{StationPlan, stations, crews_at, crew_service, stride_of, states, busy_in, has_room, order_of, answers, sent_rate, ended_rate, state_table}
use Rattle.crew_stations.proofs.Answering.{first_has_room}
use Rattle.crew_stations.proofs.Lumping.{swapped_test}
use Rattle.crew_stations.proofs.Neighbours.{digit_le, digit_up, digit_carry, digit_low, up_below}

is_less : (a b : ℕ) → a < b → ltb a b ≡ true
is_less a b l = grind (arith, nat_tests)

is_not_less : (a b : ℕ) → b ≤ a → ltb a b ≡ false
is_not_less a b l = grind (arith, nat_tests)

nothing : (b : Bool) (r : ℕ) → r ≡ 0 → cond b r 0 ≡ 0
nothing true r e = e
nothing false r e = refl

-- a sum with one place that is reached by adding d
at_lower : (n d b : ℕ) (f : ℕ → ℕ) → d ≤ b → b < n → sum_below n (λ a. cond (eqb b (a + d)) (f a) 0) ≡ f (b - d)
at_lower n d b f l h =
    sum-same n (λ a. cond (eqb b (a + d)) (f a) 0) (λ a. cond (eqb a (b - d)) (f a) 0)
    (λ a k. ap (λ c. cond c (f a) 0) (same_test b (a + d) a (b - d) (λ e. omega (arith, e)) (λ e. omega (arith, e, l))))
    ∙ sum-at n f (b - d) (omega (arith, h))

none_lower : (n d b : ℕ) (f : ℕ → ℕ) → b < d → sum_below n (λ a. cond (eqb b (a + d)) (f a) 0) ≡ 0
none_lower n d b f l =
    sum_none n (λ a. cond (eqb b (a + d)) (f a) 0)
    (λ a k. ap (λ c. cond c (f a) 0) (ne_eqb b (a + d) (omega (arith, l))))

at_upper : (n d b : ℕ) (f : ℕ → ℕ) → b + d < n → sum_below n (λ a. cond (eqb (b + d) a) (f a) 0) ≡ f (b + d)
at_upper n d b f h =
    sum-same n (λ a. cond (eqb (b + d) a) (f a) 0) (λ a. cond (eqb a (b + d)) (f a) 0)
    (λ a k. ap (λ c. cond c (f a) 0) (swapped_test (b + d) a))
    ∙ sum-at n f (b + d) h

none_upper : (n d b : ℕ) (f : ℕ → ℕ) → n ≤ b + d → sum_below n (λ a. cond (eqb (b + d) a) (f a) 0) ≡ 0
none_upper n d b f h =
    sum_none n (λ a. cond (eqb (b + d) a) (f a) 0)
    (λ a k. ap (λ c. cond c (f a) 0) (ne_eqb (b + d) a (omega (arith, h, k))))

module _ (s : StationPlan) where
  -- a station without a free crew sends none
  none_sent : (a k : ℕ) → has_room s a k ≡ false → sent_rate s a k ≡ 0
  none_sent a k none =
      sum_none (atoms s.parts) (λ j. cond (answers s j a k) (calls_of s.parts j) 0)
      (λ j l. on_test (answers s j a k)
      (λ t. absurd (true≢false (sym (first_has_room s (order_of s j) a k t) ∙ none)))
      (λ f. ap (λ c. cond c (calls_of s.parts j) 0) f))

  -- a state's digit, and that of the state with one busy crew more
  full_digit : (a k : ℕ) → has_room s a k ≡ false → busy_in s a k ≡ crews_at s k
  full_digit a k f =
      let most = digit_le (crews_at s) k a in
      let least : crews_at s k ≤ busy_in s a k = at_least (busy_in s a k) (crews_at s k) f in
      omega (arith, most, least)
    where
      at_least : (a b : ℕ) → ltb a b ≡ false → b ≤ a
      at_least a b e = grind (arith, nat_tests, e)

  low_digit : (a k : ℕ) → has_room s a k ≡ true → busy_in s a k < crews_at s k
  low_digit a k t = less (busy_in s a k) (crews_at s k) t
    where
      less : (a b : ℕ) → ltb a b ≡ true → a < b
      less a b e = grind (arith, nat_tests, e)

  sent_into : (y : ℕ → ℕ) (b k : ℕ) → b < states s
      → sum_below (states s) (λ a. cond (eqb b (a + stride_of s k)) (y a * sent_rate s a k) 0) ≡ came_sent s y b k
  sent_into y b k l = elim (cases_lt b (stride_of s k)) [
    | inl low ↦
        none_lower (states s) (stride_of s k) b (λ a. y a * sent_rate s a k) low
        ∙ sym (ap (λ c. cond c (y (b - stride_of s k) * sent_rate s (b - stride_of s k) k) 0)
        (is_not_less 0 (busy_in s b k) (omega (arith, digit_low (crews_at s) k b low))))
    | inr high ↦
        let from : b - stride_of s k + stride_of s k ≡ b = omega (arith, high) in
        at_lower (states s) (stride_of s k) b (λ a. y a * sent_rate s a k) (omega (arith, high)) l
        ∙ on_test (has_room s (b - stride_of s k) k)
        (λ t.
        let more : busy_in s b k ≡ busy_in s (b - stride_of s k) k + 1 =
        ap (λ a. busy_in s a k) (sym from) ∙ digit_up (crews_at s) k (b - stride_of s k) (low_digit (b - stride_of s k) k t)
        in
        sym (ap (λ c. cond c (y (b - stride_of s k) * sent_rate s (b - stride_of s k) k) 0)
        (is_less 0 (busy_in s b k) (omega (arith, more)))))
        (λ f.
        let none : busy_in s b k ≡ 0 =
        ap (λ a. busy_in s a k) (sym from) ∙ digit_carry (crews_at s) k (b - stride_of s k) (full_digit (b - stride_of s k) k f)
        in
        ap (λ c. y (b - stride_of s k) * c) (none_sent (b - stride_of s k) k f)
        ∙ omega arith
        ∙ sym (ap (λ c. cond c (y (b - stride_of s k) * sent_rate s (b - stride_of s k) k) 0)
        (is_not_less 0 (busy_in s b k) (omega (arith, none)))))
  ]

  ended_into : (y : ℕ → ℕ) (b k : ℕ) → b < states s → k < stations s
      → sum_below (states s) (λ a. cond (eqb (b + stride_of s k) a) (y a * ended_rate s a k) 0) ≡ came_ended s y b k
  ended_into y b k l h = on_test (has_room s b k)
      (λ t.
      at_upper (states s) (stride_of s k) b (λ a. y a * ended_rate s a k)
      (up_below (crews_at s) k (stations s) b h l (low_digit b k t))
      ∙ ap (λ c. y (b + stride_of s k) * (c * crew_service s k)) (digit_up (crews_at s) k b (low_digit b k t))
      ∙ sym (ap (λ c. cond c (y (b + stride_of s k) * ((busy_in s b k + 1) * crew_service s k)) 0) t))
      (λ f. elim (cases_lt (b + stride_of s k) (states s)) [
        | inl g ↦
            at_upper (states s) (stride_of s k) b (λ a. y a * ended_rate s a k) g
            ∙ ap (λ c. y (b + stride_of s k) * (c * crew_service s k)) (digit_carry (crews_at s) k b (full_digit b k f))
            ∙ omega arith
            ∙ sym (ap (λ c. cond c (y (b + stride_of s k) * ((busy_in s b k + 1) * crew_service s k)) 0) f)
        | inr g ↦
            none_upper (states s) (stride_of s k) b (λ a. y a * ended_rate s a k) (omega (arith, g))
            ∙ sym (ap (λ c. cond c (y (b + stride_of s k) * ((busy_in s b k + 1) * crew_service s k)) 0) f)
      ])

  pub inflow_is : IsInflowOfStations s
  inflow_is y b l =
      sum-same (states s) (λ a. y a * state_table s a b)
      (λ a. sum_below (stations s) (λ k.
      cond (eqb b (a + stride_of s k)) (y a * sent_rate s a k) 0
      + cond (eqb (b + stride_of s k) a) (y a * ended_rate s a k) 0))
      (λ a h.
      sym (sum-scaled (stations s) (y a) (λ k.
      cond (eqb b (a + stride_of s k)) (sent_rate s a k) 0 + cond (eqb (b + stride_of s k) a) (ended_rate s a k) 0))
      ∙ sum-same (stations s)
      (λ k. y a
      * (cond (eqb b (a + stride_of s k)) (sent_rate s a k) 0 + cond (eqb (b + stride_of s k) a) (ended_rate s a k) 0))
      (λ k. cond (eqb b (a + stride_of s k)) (y a * sent_rate s a k) 0
      + cond (eqb (b + stride_of s k) a) (y a * ended_rate s a k) 0)
      (λ k g. omega (
        arith,
        cond_scaled (eqb b (a + stride_of s k)) (y a) (sent_rate s a k),
        cond_scaled (eqb (b + stride_of s k) a) (y a) (ended_rate s a k),
      )))
      ∙ sum-swap (states s) (stations s) (λ a k.
      cond (eqb b (a + stride_of s k)) (y a * sent_rate s a k) 0
      + cond (eqb (b + stride_of s k) a) (y a * ended_rate s a k) 0)
      ∙ sum-same (stations s)
      (λ k. sum_below (states s) (λ a.
      cond (eqb b (a + stride_of s k)) (y a * sent_rate s a k) 0
      + cond (eqb (b + stride_of s k) a) (y a * ended_rate s a k) 0))
      (λ k. came_sent s y b k + came_ended s y b k)
      (λ k h. omega (
        arith,
        sum-add (states s) (λ a. cond (eqb b (a + stride_of s k)) (y a * sent_rate s a k) 0)
            (λ a. cond (eqb (b + stride_of s k) a) (y a * ended_rate s a k) 0),
        sent_into y b k l,
        ended_into y b k l h,
      ))

  sent_out : (a k : ℕ) → a < states s → k < stations s
      → sum_below (states s) (λ b. cond (eqb b (a + stride_of s k)) (sent_rate s a k) 0) ≡ sent_rate s a k
  sent_out a k l h = on_test (has_room s a k)
      (λ t. sum-at (states s) (λ b. sent_rate s a k) (a + stride_of s k)
      (up_below (crews_at s) k (stations s) a h l (low_digit a k t)))
      (λ f.
      sum_none (states s) (λ b. cond (eqb b (a + stride_of s k)) (sent_rate s a k) 0)
      (λ b g. nothing (eqb b (a + stride_of s k)) (sent_rate s a k) (none_sent a k f))
      ∙ sym (none_sent a k f))

  ended_out : (a k : ℕ) → a < states s
      → sum_below (states s) (λ b. cond (eqb (b + stride_of s k) a) (ended_rate s a k) 0) ≡ ended_rate s a k
  ended_out a k l =
      sum-same (states s) (λ b. cond (eqb (b + stride_of s k) a) (ended_rate s a k) 0)
      (λ b. cond (eqb a (b + stride_of s k)) (ended_rate s a k) 0)
      (λ b h. ap (λ c. cond c (ended_rate s a k) 0) (swapped_test (b + stride_of s k) a))
      ∙ elim (cases_lt a (stride_of s k)) [
        | inl low ↦
            none_lower (states s) (stride_of s k) a (λ b. ended_rate s a k) low
            ∙ sym (ap (λ c. c * crew_service s k) (digit_low (crews_at s) k a low) ∙ omega arith)
        | inr high ↦ at_lower (states s) (stride_of s k) a (λ b. ended_rate s a k) (omega (arith, high)) l
      ]

  pub outflow_is : IsOutflowOfStations s
  outflow_is a l =
      sum-swap (states s) (stations s) (λ b k.
      cond (eqb b (a + stride_of s k)) (sent_rate s a k) 0 + cond (eqb (b + stride_of s k) a) (ended_rate s a k) 0)
      ∙ sum-same (stations s)
      (λ k. sum_below (states s) (λ b.
      cond (eqb b (a + stride_of s k)) (sent_rate s a k) 0 + cond (eqb (b + stride_of s k) a) (ended_rate s a k) 0))
      (λ k. sent_rate s a k + ended_rate s a k)
      (λ k h. omega (
        arith,
        sum-add (states s) (λ b. cond (eqb b (a + stride_of s k)) (sent_rate s a k) 0)
            (λ b. cond (eqb (b + stride_of s k) a) (ended_rate s a k) 0),
        sent_out a k l h,
        ended_out a k l,
      ))
