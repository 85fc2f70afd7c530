-- The whole run of an elimination: what is left of the intervals encloses what is left of a table, and each state
-- that has gone is in balance with the states before it.
use Rattle.std.proofs.Common.{◌≡◌, ◌≢◌, ℕ, zero, suc, ◌+◌, ◌-◌, ◌*◌, ◌<◌, ◌≤◌, cond, eqb, sym, ap, subst, ◌∙◌, inl, inr, arith}
use Rattle.std.proofs.lemmas.Bool.{cases_lt}
use Rattle.std.proofs.lemmas.Bool.Decides.{nat_tests}
use Rattle.std.proofs.Math.Nat.{mul-le-mul_left}
use Rattle.fixed_interval.specs.Ends.{Ends, exact_ends}
use Rattle.fixed_interval.proofs.Rounding.{encloses_exact}
use Rattle.hyper_model.specs.Sums.{sum_below}
use Rattle.hyper_model.specs.Solutions.{mass_in}
use Rattle.hyper_model.specs.Tables.{RateTable, SolvesTable, between_states}
use Rattle.hyper_model.proofs.Sums.{place_le_sum, sum-same, sum-scaled}
use Rattle.hyper_model.proofs.Tables.{restricted, without_last}
use Rattle.rate_matrix.specs.Elimination.{AreSoundEntries, Entries, HoldsAt, IsExact, entries_after, entries_left_after}
use Rattle.busy_words.specs.Algebra.{total_ends}
use Rattle.state_reduction.specs.Laws.{Begins, BeginsSound, HoldsEverySolution}
use Rattle.rate_matrix.proofs.Raising.{entries_after-from, entries_after-to}
use Rattle.rate_matrix.proofs.Sameness.{HoldsAll-same}
use Rattle.state_reduction.proofs.Soundness.{entries_left_after-sound}
use Rattle.state_reduction.proofs.Enclosing.{LiesIn, entries_after-lies, holds_last, leaves_some}

-- while the first t states are left: a table of them that the masses solve, and the balance of those that have gone
pub record Remains (size t : ℕ) (caps : ℕ → ℕ) (y : ℕ → ℕ) (entries : Entries) : Type 0 where
  pub scale : ℕ
  pub rates : RateTable
  pub lies : LiesIn t scale rates caps entries
  pub solves : SolvesTable t rates y
  pub held : (m : ℕ) → t ≤ m → m < size → HoldsAt entries y m

-- no later elimination touches what stands in the balance of a state that has gone
entries_after-holds : (entries : Entries) (caps : ℕ → ℕ) (y : ℕ → ℕ) (t m : ℕ) → t ≤ m → HoldsAt entries y m
    → HoldsAt (entries_after entries caps t) y m
entries_after-holds entries caps y t m gone holds =
    let low = sum-same m (λ k. (entries_after entries caps t m k).lo) (λ k. (entries m k).lo)
    (λ k l. ap (λ (e : Ends). e.lo) (entries_after-from entries caps t m k gone)) in
    let high = sum-same m (λ k. (entries_after entries caps t m k).hi) (λ k. (entries m k).hi)
    (λ k l. ap (λ (e : Ends). e.hi) (entries_after-from entries caps t m k gone)) in
    let flow_low = sum-same m (λ i. y i * (entries_after entries caps t i m).lo) (λ i. y i * (entries i m).lo)
    (λ i l. ap (λ (e : Ends). y i * e.lo) (entries_after-to entries caps t i m gone)) in
    let flow_high = sum-same m (λ i. y i * (entries_after entries caps t i m).hi) (λ i. y i * (entries i m).hi)
    (λ i l. ap (λ (e : Ends). y i * e.hi) (entries_after-to entries caps t i m gone)) in
    record {
      least = omega (arith, holds.least, ap (λ a. y m * a) low, flow_high);
      most = omega (arith, holds.most, ap (λ a. y m * a) high, flow_low);
    }

-- one elimination
entries_after-remains : (size t : ℕ) (caps : ℕ → ℕ) (y : ℕ → ℕ) (entries : Entries)
    → 0 < (total_ends t (entries t)).lo → Remains size (suc t) caps y entries
    → Remains size t caps y (entries_after entries caps t)
entries_after-remains size t caps y entries live left = record {
  scale = left.scale * sum_below t (left.rates t);
  rates = without_last t left.rates;
  lies = entries_after-lies t left.scale left.rates caps entries left.lies live;
  solves = restricted t left.rates y (leaves_some t left.scale left.rates caps entries left.lies live) left.solves;
  held = λ m gone inside.
      entries_after-holds entries caps y t m gone
      (elim (cases_lt t m) [
        | inl after ↦ left.held m (omega arith) inside
        | inr here ↦
            let same : m ≡ t = omega arith in
            rw same (holds_last t left.scale left.rates caps entries y left.lies left.solves)
      ]);
}

-- all eliminations so far
entries_left_after-remains : (size : ℕ) (caps : ℕ → ℕ) (y : ℕ → ℕ) (entries : Entries) → AreSoundEntries size 1 caps entries
    → Remains size size caps y entries → (k t : ℕ) → k + t ≡ size → 0 < t
    → Remains size t caps y (entries_left_after entries caps size k)
unfolding entries_left_after
entries_left_after-remains size caps y entries sound begins zero t whole some =
    let all : t ≡ size = omega arith in
    rw all (record {
      scale = begins.scale;
      rates = begins.rates;
      lies = record { scaled = begins.lies.scaled; inside = begins.lies.inside; rows = begins.lies.rows };
      solves = begins.solves;
      held = λ m gone inside. absurd (omega arith);
    })
entries_left_after-remains size caps y entries sound begins (suc k) t whole some =
    let last : size - suc k ≡ t = omega arith in
    let before = entries_left_after-remains size caps y entries sound begins k (suc t) (omega arith) (omega arith) in
    let live = (entries_left_after-sound size 1 caps entries k (omega arith) sound).live.leaves t some (omega arith) in
    subst (λ a. Remains size t caps y (entries_after (entries_left_after entries caps size k) caps a)) (sym last)
    (entries_after-remains size t caps y (entries_left_after entries caps size k) (omega (arith, live)) before)

pub apart_rate : (i j a : ℕ) → i ≢ j → cond (eqb i j) 0 a ≡ a
apart_rate i j a apart = grind (arith, nat_tests)

-- all rates in one scale
abbrev scaled_table : ℕ → RateTable → RateTable
scaled_table scale rates i j = scale * between_states rates i j

scaled_solves : (size scale : ℕ) (rates : RateTable) (y : ℕ → ℕ) → SolvesTable size (between_states rates) y
    → SolvesTable size (scaled_table scale rates) y
scaled_solves size scale rates y solves = record {
  positive = solves.positive;
  balanced = λ j inside.
      let flow = sum-same size (λ i. y i * (scale * between_states rates i j))
      (λ i. scale * (y i * between_states rates i j)) (λ i l. omega arith) in
      omega (
        arith,
        ap (λ a. scale * a) (solves.balanced j inside),
        flow,
        ap (λ a. y j * a) (sum-scaled size scale (between_states rates j)),
        sum-scaled size scale (λ i. y i * between_states rates i j),
      );
}

exact_at : (size scale : ℕ) (rates : RateTable) (entries : Entries) → IsExact size scale rates entries
    → (i j : ℕ) → i < size → j < size → i ≢ j → entries i j ≡ exact_ends (scale * between_states rates i j)
exact_at size scale rates entries exact i j row column apart =
    exact.exact i j row column apart ∙ ap (λ a. exact_ends (scale * a)) (sym (apart_rate i j (rates i j) apart))

-- at the beginning the ends are the scaled rates themselves
begins_lies : (size scale : ℕ) (rates : RateTable) (caps : ℕ → ℕ) (entries : Entries)
    → Begins size scale rates caps entries → LiesIn size 1 (scaled_table scale rates) caps entries
begins_lies size scale rates caps entries begins = record {
  scaled = omega arith;
  inside = λ i j row column apart.
      let one : scale * between_states rates i j * 1 ≡ scale * between_states rates i j = omega arith in
      rw one at (encloses_exact (scale * between_states rates i j) (entries i j)
      (exact_at size scale rates entries begins.exact i j row column apart) 1);
  rows = λ i row.
      omega (arith, begins.outflows.each i row, sum-scaled size scale (between_states rates i));
}

-- and they are in order, under the caps, and lead to earlier states
pub begins_sound : BeginsSound
begins_sound size scale rates caps entries begins = record {
  within = record {
    ordered = λ i j row column apart. rw (begins.exact.exact i j row column apart) (omega arith);
    capped = λ i j row column apart.
        rw (exact_at size scale rates entries begins.exact i j row column apart, begins.outflows.each i row)
        (mul-le-mul_left scale (place_le_sum size (between_states rates i) j column));
  };
  live = record {
    leaves = λ m some inside.
        let to = begins.descends m some inside in
        let low : (entries m to.0).lo ≡ scale * rates m to.0 =
        ap (λ (e : Ends). e.lo) (begins.exact.exact m to.0 inside (omega (arith, to.1)) (omega (arith, to.1))) in
        let one : scale * 1 ≤ scale * rates m to.0 = mul-le-mul_left scale to.2 in
        omega (arith, low, one, place_le_sum m (λ k. (entries m k).lo) to.0 to.1);
  };
}

weaker_sound : (size least : ℕ) (caps : ℕ → ℕ) (entries : Entries) → 1 ≤ least → AreSoundEntries size least caps entries
    → AreSoundEntries size 1 caps entries
weaker_sound size least caps entries some sound = record {
  within = sound.within;
  live = record { leaves = λ m later inside. omega (arith, sound.live.leaves m later inside) };
}

begins_remains : (size scale : ℕ) (rates : RateTable) (caps : ℕ → ℕ) (entries : Entries) (y : ℕ → ℕ)
    → Begins size scale rates caps entries → SolvesTable size (between_states rates) y
    → Remains size size caps y entries
begins_remains size scale rates caps entries y begins solves = record {
  scale = 1;
  rates = scaled_table scale rates;
  lies = begins_lies size scale rates caps entries begins;
  solves = scaled_solves size scale rates y solves;
  held = λ m gone inside. absurd (omega arith);
}

-- a table with a solution has a state
some_state : (size : ℕ) (x : ℕ → ℕ) → 0 < sum_below size x → 0 < size
some_state zero x positive = positive
some_state (suc n) x positive = omega arith

-- the whole run
pub holds_every_solution : HoldsEverySolution
holds_every_solution size scale rates caps entries left ys begins same solution =
    let some : 0 < size = some_state size (mass_in ys) solution.solves.positive in
    let sound = weaker_sound size scale caps entries begins.scaled (begins_sound size scale rates caps entries begins) in
    let remains = entries_left_after-remains size caps (mass_in ys) entries sound
    (begins_remains size scale rates caps entries (mass_in ys) begins solution.solves)
    (size - 1) 1 (omega arith) (omega arith) in
    HoldsAll-same size (entries_left_after entries caps size (size - 1)) left (mass_in ys) same
    (record { each = λ m later inside. remains.held m later inside })
