-- A matrix while its states are eliminated, state by state.
use Rattle.std.proofs.Common.{◌≡◌, ℕ, suc, ◌-◌, ◌*◌, ◌<◌, ◌≤◌, Bool, List, length, refl, sym, ap, subst, ◌∙◌, arith}
use Rattle.fixed_interval.specs.Ends.{Ends, exact_ends}
use Rattle.hyper_model.specs.Solutions.{mass_in}
use Rattle.hyper_model.specs.Tables.{Descends}
use Rattle.hyper_model.proofs.Tables.{solves_between}
use Rattle.rate_matrix.specs.Bands.{BandedRates, HasSameFrame, IsKept, cap, entry}
use Rattle.rate_matrix.specs.Elimination.{Entries, entries_after, entries_left_after, outflow_of, part_to, raised_entries}
use Rattle.rate_matrix.specs.Rows.{part_in}
use Rattle.rate_matrix.proofs.Raising.{entries_left_after-more, entries_left_after-none}
use Rattle.state_reduction.specs.Laws.{HoldsSolutions, MatricesBegin}
use Rattle.state_reduction.specs.Reductions.{IsReduced, LosesState, MayBeReduced, MayLoseState}
use Rattle.state_reduction.proofs.Frames.{cap-same, fewer-alive, fewer-entry, fewer-frame, frame-more, frame-none, kept-same, no_part_outside}
use Rattle.state_reduction.proofs.RaisedRows.{next_entries, raised_entries-same}
use Rattle.state_reduction.proofs.Runs.{apart_rate, holds_every_solution}
use Rattle.rate_matrix.proofs.Sameness.{part_to-same}

entries_after-open : (a : Entries) (caps : ℕ → ℕ) (t i j : ℕ)
    → entries_after a caps t i j ≡ raised_entries (part_to a t) a caps t i j
unfolding entries_after
entries_after-open a caps t i j = refl

-- one elimination follows from the entries of the states that there are
pub entries_after-alike : (size : ℕ) (a b : Entries) (caps limits : ℕ → ℕ) (t : ℕ) → t < size
    → ((i j : ℕ) → i < size → j < size → a i j ≡ b i j) → ((i : ℕ) → i < size → caps i ≡ limits i)
    → (i j : ℕ) → i < size → j < size → entries_after a caps t i j ≡ entries_after b limits t i j
entries_after-alike size a b caps limits t inside same bounds i j row column =
    entries_after-open a caps t i j
    ∙ raised_entries-same (part_to a t) (part_to b t) a b caps limits t i j
    (λ before. part_to-same size a b (record { same = λ p q l k ne. same p q l k }) t j inside before)
    (same i j row column) (same i t row inside) (bounds i row)
    ∙ sym (entries_after-open b limits t i j)

-- the parts of what leaves state t
abbrev pub ArePartsOf : BandedRates → ℕ → List Ends → Type 0
ArePartsOf m t parts = (k : ℕ) → k < t → part_in parts k ≡ part_to (entry m) t k

pub parts-read : (m : BandedRates) (filled parts : List Ends) → parts ≡ filled → ArePartsOf m (m.alive - 1) filled
    → ArePartsOf m (m.alive - 1) parts
parts-read m filled parts read are = subst (ArePartsOf m (m.alive - 1)) (sym read) are

-- outside of what the matrix keeps nothing is passed on
pub parts-outside : (m gone : BandedRates) (parts : List Ends) → gone ≡ record m { alive = m.alive - 1 }
    → ArePartsOf m (m.alive - 1) parts
    → (j : ℕ) → j < gone.alive → ¬ IsKept gone gone.alive j → part_in parts j ≡ exact_ends 0
parts-outside m gone parts is are j before outside =
    let fewer = fewer-alive m gone is in
    no_part_outside m parts (m.alive - 1) are j (omega (arith, fewer))
    (λ kept.
    outside (subst (λ t. IsKept gone t j) (sym fewer) (kept-same m gone (fewer-frame m gone is) (m.alive - 1) j kept)))

-- the last state retires, and what goes through it is passed on in the parts of its own entries
pub loses-state : (m gone n : BandedRates) (parts : List Ends) → 1 ≤ m.alive → m.alive ≤ m.size
    → gone ≡ record m { alive = m.alive - 1 }
    → ArePartsOf m (m.alive - 1) parts → HasSameFrame gone n → n.alive ≡ gone.alive
    → ((i j : ℕ) → i < gone.size → j < gone.size → entry n i j ≡ next_entries parts gone i j) → LosesState m n
loses-state m gone n parts some most is parts_are frame alive entries =
    let fewer = fewer-alive m gone is in
    let kept = fewer-frame m gone is in
    let last : n.alive ≡ m.alive - 1 = alive ∙ fewer in
    record {
      frame = frame-more m gone n kept frame;
      alive = omega (arith, last);
      entries = λ i j row column.
          entries i j (omega (arith, kept.size)) (omega (arith, kept.size))
          ∙ ap (λ t. raised_entries (part_in parts) (entry gone) (cap gone) t i j) (sym alive)
          ∙ raised_entries-same (part_in parts) (part_to (entry m) n.alive) (entry gone) (entry m) (cap gone) (cap m) n.alive i j
          (λ before.
          parts_are j (omega (arith, last)) ∙ ap (λ t. part_to (entry m) t j) (sym last))
          (fewer-entry m gone is i j) (fewer-entry m gone is i n.alive) (cap-same m gone kept i)
          ∙ sym (entries_after-open (entry m) (cap m) n.alive i j);
    }

-- all states after those that are alive are eliminated
pub record StatesGone (first m : BandedRates) : Type 0 where
  pub frame : HasSameFrame first m
  pub some : 1 ≤ m.alive
  pub most : m.alive ≤ first.size
  pub left : (i j : ℕ) → i < first.size → j < first.size
      → entry m i j ≡ entries_left_after (entry first) (cap first) first.size (first.size - m.alive) i j

pub states-all : (m : BandedRates) → 1 ≤ m.alive → m.alive ≡ m.size → StatesGone m m
states-all m some all =
    let none : m.size - m.alive ≡ 0 = omega arith in
    record {
      frame = frame-none m;
      some = some;
      most = omega arith;
      left = λ i j l k.
          sym (ap (λ n. entries_left_after (entry m) (cap m) m.size n i j) none
          ∙ entries_left_after-none (entry m) (cap m) m.size i j);
    }

pub states-fewer : (first m n : BandedRates) → StatesGone first m → 2 ≤ m.alive → LosesState m n → StatesGone first n
states-fewer first m n gone some less =
    let size = gone.frame.size in
    let alive = less.alive in
    let more : first.size - n.alive ≡ suc (first.size - m.alive) = omega (arith, gone.most) in
    let last : first.size - suc (first.size - m.alive) ≡ n.alive = omega (arith, gone.most) in
    record {
      frame = frame-more first m n gone.frame less.frame;
      some = omega arith;
      most = omega (arith, gone.most);
      left = λ i j l k.
          less.entries i j (omega (arith, size)) (omega (arith, size))
          ∙ entries_after-alike first.size (entry m) (entries_left_after (entry first) (cap first) first.size (first.size - m.alive))
          (cap m) (cap first) n.alive (omega (arith, gone.most)) gone.left (λ p inside. cap-same first m gone.frame p)
          i j l k
          ∙ sym (ap (λ c. entries_left_after (entry first) (cap first) first.size c i j) more
          ∙ entries_left_after-more (entry first) (cap first) first.size (first.size - m.alive) n.alive i j last);
    }

-- the whole run
pub states-end : (first m : BandedRates) → StatesGone first m → m.alive ≤ 1 → (i j : ℕ) → i < first.size
    → j < first.size → entry m i j ≡ entries_left_after (entry first) (cap first) first.size (first.size - 1) i j
states-end first m gone one i j l k =
    let same : first.size - m.alive ≡ first.size - 1 = omega (arith, gone.some) in
    gone.left i j l k ∙ ap (λ n. entries_left_after (entry first) (cap first) first.size n i j) same

pub holds-solutions : (first m : BandedRates)
    → ((i j : ℕ) → i < first.size → j < first.size
    → entry m i j ≡ entries_left_after (entry first) (cap first) first.size (first.size - 1) i j)
    → HoldsSolutions first m
holds-solutions first m left rates ys begins solution =
    holds_every_solution first.size first.scale rates (cap first) (entry first) (entry m) ys begins
    (record { same = λ i j l k ne. sym (left i j l k) })
    (record {
      one_each = solution.one_each;
      solves = (solves_between first.size rates (mass_in ys)).0 solution.solves;
    })

-- a matrix of a chain, before any elimination
pub matrices_begin : MatricesBegin
matrices_begin states top rates m is some descends =
    let size = is.size in
    record {
      scaled = some;
      descends = subst (λ n. Descends n rates) (sym size) descends;
      exact = record {
        exact = λ i j l k ne.
            is.entries i j (omega arith) (omega arith)
            ∙ ap (λ a. exact_ends (m.scale * a)) (apart_rate i j (rates i j) ne);
      };
      outflows = record {
        each = λ i l.
            ap (λ a. m.scale * a) (is.outflows i (omega arith))
            ∙ ap (λ n. m.scale * outflow_of n rates i) (sym size);
      };
    }

-- the run so far, with as much room in the row as before
pub record IsUnderWay (first m : BandedRates) (begun row : List Ends) : Type 0 where
  pub gone : StatesGone first m
  pub room : length row ≡ length begun

pub starts : (packed : Bool) (m : BandedRates) (row : List Ends) → 1 ≤ m.size → MayBeReduced packed m row
    → IsUnderWay m m row row
starts packed m row some ready = record {
  gone = states-all m (omega (arith, ready.alive)) ready.alive;
  room = refl;
}

pub may_lose : (packed : Bool) (first m : BandedRates) (begun row : List Ends) → MayBeReduced packed first begun
    → IsUnderWay first m begun row → 2 ≤ m.alive → MayLoseState packed m row
may_lose packed first m begun row ready way some = record {
  form = way.gone.frame.packed ∙ ready.form;
  alive = some;
  room = omega (arith, way.gone.frame.size, ready.room, way.room);
}

pub goes_on : (first m n : BandedRates) (begun row next : List Ends) → IsUnderWay first m begun row → 2 ≤ m.alive
    → LosesState m n → length next ≡ length row → IsUnderWay first n begun next
goes_on first m n begun row next way some less same = record {
  gone = states-fewer first m n way.gone some less;
  room = same ∙ way.room;
}

pub ends_reduced : (first m : BandedRates) (begun row : List Ends) → IsUnderWay first m begun row → m.alive ≤ 1
    → IsReduced first m
ends_reduced first m begun row way one =
    let left = states-end first m way.gone one in
    record {
      frame = way.gone.frame;
      alive = omega (arith, way.gone.some);
      entries = left;
      solutions = holds-solutions first m left;
    }
