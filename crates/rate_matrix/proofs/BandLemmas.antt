-- Entries of a matrix in bands: what a new cell or a new band changes, and that the matrix stays sound.
use Rattle.std.proofs.Common.{◌≡◌, ◌≢◌, ℕ, ◌+◌, ◌-◌, ◌*◌, ◌/◌, ◌%◌, ◌<◌, ◌≤◌, true, false, cond, List, length, length-set, get_or, set, get_or-set_same, get_or-set_other, slice_index, refl, sym, ap, subst, ◌∙◌, inl, inr, arith}
use Rattle.std.proofs.lemmas.Bool.{cases_eq}
use Rattle.std.proofs.lemmas.Bool.Decides.{nat_tests}
use Rattle.std.proofs.lemmas.List.{get_or_read}
use Rattle.std.proofs.lemmas.Nat.{div-mul-add, mod-mul-add}
use Rattle.fixed_interval.specs.Ends.{Ends, exact_ends}
use Rattle.hyper_model.proofs.Sums.{on_test, sum-le}
use Rattle.rate_matrix.specs.Elimination.{IsWithin, IsLive}
use Rattle.rate_matrix.specs.Bands.{BandOfRows, BandedRates, HasRow, HasColumn, HasSameFrame, HasSameShape, IsKept, IsBanded, IsSound, no_band, has_column, place_in, band_entry, band_at, band_of, entry, cap}

pub has_column_true : (b : BandOfRows) (j : ℕ) → HasColumn b j → has_column b j ≡ true
has_column_true b j h = let from = h.from in let to = h.to in grind (arith, nat_tests)

pub has_column_false : (b : BandOfRows) (j : ℕ) → ¬ HasColumn b j → has_column b j ≡ false
has_column_false b j h = on_test (has_column b j) (λ t. absurd (h (column_of b j t))) (λ f. f)
  where
    column_of : (b : BandOfRows) (j : ℕ) → has_column b j ≡ true → HasColumn b j
    column_of b j t = record { from = grind (arith, nat_tests); to = grind (arith, nat_tests) }

pub has_column_of : (b : BandOfRows) (j : ℕ) → has_column b j ≡ true → HasColumn b j
has_column_of b j t = record { from = grind (arith, nat_tests); to = grind (arith, nat_tests) }

-- an entry that is kept is in its cell
pub band_entry_kept : (b : BandOfRows) (i j : ℕ) → HasColumn b j
    → band_entry b i j ≡ get_or b.cells (place_in b i j) (exact_ends 0)
unfolding band_entry
band_entry_kept b i j h = ap (λ t. cond t (get_or b.cells (place_in b i j) (exact_ends 0)) (exact_ends 0)) (has_column_true b j h)

-- another is 0
pub band_entry_none : (b : BandOfRows) (i j : ℕ) → has_column b j ≡ false → band_entry b i j ≡ exact_ends 0
unfolding band_entry
band_entry_none b i j f = ap (λ t. cond t (get_or b.cells (place_in b i j) (exact_ends 0)) (exact_ends 0)) f

pub band_entry_zero : (b : BandOfRows) (i j : ℕ) → ¬ HasColumn b j → band_entry b i j ≡ exact_ends 0
band_entry_zero b i j h = band_entry_none b i j (has_column_false b j h)

pub entry_is : (m : BandedRates) (i j : ℕ) → entry m i j ≡ band_entry (band_of m i) i j
unfolding entry
entry_is m i j = refl

-- two numbers of a row and a column within it
pub same_digits : (w a b c d : ℕ) → b < w → d < w → a * w + b ≡ c * w + d → (a ≡ c) × (b ≡ d)
same_digits w a b c d l k e = (
  sym (div-mul-add a w b l) ∙ ap (λ n. n / w) e ∙ div-mul-add c w d k,
  sym (mod-mul-add a w b l) ∙ ap (λ n. n % w) e ∙ mod-mul-add c w d k,
)

-- different places of a band have different cells
pub place_apart : (b : BandOfRows) (p q i j : ℕ) → HasRow b p → HasColumn b q → HasRow b i → HasColumn b j
    → (p ≡ i → q ≢ j) → place_in b p q ≢ place_in b i j
place_apart b p q i j rp cq ri cj ne e =
    let inside : q - b.left < b.width = omega (arith, cq.from, cq.to) in
    let within : j - b.left < b.width = omega (arith, cj.from, cj.to) in
    let same = same_digits b.width (p - b.first) (q - b.left) (i - b.first) (j - b.left) inside within e in
    ne (omega (arith, same.0, rp.from, ri.from)) (omega (arith, same.1, cq.from, cj.from))

pub place_within : (b : BandOfRows) (i j : ℕ) → HasRow b i → HasColumn b j → length b.cells ≡ b.rows * b.width
    → place_in b i j < length b.cells
place_within b i j r c e =
    let row : i - b.first + 1 ≤ b.rows = omega (arith, r.from, r.to) in
    let column : j - b.left < b.width = omega (arith, c.from, c.to) in
    let product : (i - b.first + 1) * b.width ≤ b.rows * b.width = grind arith in
    omega (arith, product, e)

-- a band with one cell changed
abbrev pub with_cell : BandOfRows → ℕ → ℕ → Ends → BandOfRows
with_cell b i j v = record b { cells = set b.cells (place_in b i j) v }

pub at_cell : (b : BandOfRows) (i j : ℕ) (v : Ends) → HasRow b i → HasColumn b j
    → length b.cells ≡ b.rows * b.width → band_entry (with_cell b i j v) i j ≡ v
at_cell b i j v r c e =
    band_entry_kept (with_cell b i j v) i j (record { from = c.from; to = c.to })
    ∙ get_or-set_same b.cells (place_in b i j) v (exact_ends 0) (place_within b i j r c e)

pub at_other_cell : (b : BandOfRows) (i j p q : ℕ) (v : Ends) → HasRow b i → HasColumn b j → HasRow b p
    → (p ≡ i → q ≢ j) → band_entry (with_cell b i j v) p q ≡ band_entry b p q
at_other_cell b i j p q v r c rp ne = on_test (has_column b q)
    (λ t. let k = has_column_of b q t in
    band_entry_kept (with_cell b i j v) p q (record { from = k.from; to = k.to })
    ∙ get_or-set_other b.cells (place_in b i j) (place_in b p q) v (exact_ends 0)
    (place_apart b p q i j rp k r c ne)
    ∙ sym (band_entry_kept b p q k))
    (λ f. band_entry_none (with_cell b i j v) p q f ∙ sym (band_entry_none b p q f))

-- a matrix with other bands
abbrev pub with_bands : BandedRates → List BandOfRows → BandedRates
with_bands m bs = record m { bands = bs }

-- with other bands of the same shape, and so many states alive, a matrix has the same frame
pub framed : (m : BandedRates) (bs : List BandOfRows) (alive : ℕ) → length bs ≡ length m.bands
    → ((l : ℕ) → HasSameShape (band_at m l) (band_at (with_bands m bs) l))
    → HasSameFrame m (record m { alive = alive; bands = bs })
framed m bs alive count shape = record {
  size = refl;
  scale = refl;
  packed = refl;
  outflows = refl;
  levels = refl;
  count = count;
  shape = shape;
}

-- the same rows and columns
pub shape_row : (b c : BandOfRows) (i : ℕ) → HasSameShape b c → HasRow b i → HasRow c i
shape_row b c i e r = record { from = omega (arith, e.first, r.from); to = omega (arith, e.first, e.rows, r.to) }

pub shape_row_back : (b c : BandOfRows) (i : ℕ) → HasSameShape b c → HasRow c i → HasRow b i
shape_row_back b c i e r = record { from = omega (arith, e.first, r.from); to = omega (arith, e.first, e.rows, r.to) }

pub shape_column : (b c : BandOfRows) (j : ℕ) → HasSameShape b c → HasColumn b j → HasColumn c j
shape_column b c j e k = record { from = omega (arith, e.left, k.from); to = omega (arith, e.left, e.width, k.to) }

pub banded_changed : (m : BandedRates) (bs : List BandOfRows) → IsBanded m → length bs ≡ length m.bands
    → ((l : ℕ) → HasSameShape (band_at m l) (band_at (with_bands m bs) l))
    → ((l : ℕ) → l < length m.bands → length (band_at (with_bands m bs) l).cells ≡ length (band_at m l).cells)
    → IsBanded (with_bands m bs)
banded_changed m bs b count shape cells = record {
  levels = b.levels;
  level = λ i l. omega (arith, count, b.level i l);
  row = λ i l. shape_row _ _ i (shape (slice_index m.levels i)) (b.row i l);
  own = λ l i h r. b.own l i (omega (arith, count, h)) (shape_row_back _ _ i (shape l) r);
  cells = λ l h.
      let k : l < length m.bands = omega (arith, count, h) in
      let e = shape l in
      cells l k ∙ b.cells l k ∙ sym (ap (λ a. a * (band_at (with_bands m bs) l).width) e.rows ∙ ap (λ a. (band_at m l).rows * a) e.width);
  columns = λ l h.
      let k : l < length m.bands = omega (arith, count, h) in
      omega (arith, (shape l).left, (shape l).width, b.columns l k);
  falls = λ i j o l.
      omega (arith, (shape (slice_index m.levels i)).left, (shape (slice_index m.levels j)).left, b.falls i j o l);
  whole = λ p i j l k. shape_column _ _ j (shape (slice_index m.levels i)) (b.whole p i j l k);
}

-- the matrix is sound with bands of the same shape in which the entries between states are no lower and within
-- the caps
pub sound_changed : (m : BandedRates) (bs : List BandOfRows) → IsSound m
    → length bs ≡ length m.bands
    → ((l : ℕ) → HasSameShape (band_at m l) (band_at (with_bands m bs) l))
    → ((l : ℕ) → l < length m.bands → length (band_at (with_bands m bs) l).cells ≡ length (band_at m l).cells)
    → ((i j : ℕ) → i < m.size → j < m.size → (entry m i j).lo ≤ (entry (with_bands m bs) i j).lo)
    → IsWithin m.size (cap m) (entry (with_bands m bs))
    → IsSound (with_bands m bs)
sound_changed m bs s count shape cells grows within = record {
  at_least = s.at_least;
  at_most = s.at_most;
  alive = s.alive;
  some_alive = s.some_alive;
  scale = s.scale;
  outflows = s.outflows;
  caps = s.caps;
  banded = banded_changed m bs s.banded count shape cells;
  within = within;
  live = record {
    leaves = λ i p l.
        let more = sum-le i (λ k. (entry m i k).lo) (λ k. (entry (with_bands m bs) i k).lo)
        (λ k q. grows i k l (omega arith)) in
        omega (arith, more, s.live.leaves i p l);
  };
}

-- another band at one level
pub band_at_same : (m : BandedRates) (l : ℕ) (b : BandOfRows) → l < length m.bands
    → band_at (with_bands m (set m.bands l b)) l ≡ b
band_at_same m l b h = get_or-set_same m.bands l b no_band h

pub band_at_other : (m : BandedRates) (l k : ℕ) (b : BandOfRows) → k ≢ l
    → band_at (with_bands m (set m.bands l b)) k ≡ band_at m k
band_at_other m l k b ne = get_or-set_other m.bands l k b no_band ne

pub same_shape : (b : BandOfRows) → HasSameShape b b
same_shape b = record { first = refl; rows = refl; left = refl; width = refl }

-- other cells leave the shape
pub cells_shape : (b : BandOfRows) (cells : List Ends) → HasSameShape b (record b { cells = cells })
cells_shape b cells = record { first = refl; rows = refl; left = refl; width = refl }

-- what holds of each band and of the new one holds after the change
pub band_changed : (P : BandOfRows → Type 0) (m : BandedRates) (l k : ℕ) (b : BandOfRows) → l < length m.bands
    → (k ≡ l → P b) → (k ≢ l → P (band_at m k)) → P (band_at (with_bands m (set m.bands l b)) k)
band_changed P m l k b h here there = elim (cases_eq k l) [
  | inl e ↦ subst (λ a. P (band_at (with_bands m (set m.bands l b)) a)) (sym e) (subst P (sym (band_at_same m l b h)) (here e))
  | inr ne ↦ subst P (sym (band_at_other m l k b ne)) (there ne)
]

-- one entry changed
abbrev pub with_entry : BandedRates → ℕ → ℕ → Ends → BandedRates
with_entry m i j v = with_bands m (set m.bands (slice_index m.levels i) (with_cell (band_of m i) i j v))

pub at_entry : (m : BandedRates) (i j : ℕ) (v : Ends) → IsBanded m → i < m.size → IsKept m i j
    → entry (with_entry m i j v) i j ≡ v
at_entry m i j v b l k =
    let h = b.level i l in
    entry_is (with_entry m i j v) i j
    ∙ ap (λ a. band_entry a i j) (band_at_same m (slice_index m.levels i) (with_cell (band_of m i) i j v) h)
    ∙ at_cell (band_of m i) i j v (b.row i l) k (b.cells (slice_index m.levels i) h)

pub at_other_entry : (m : BandedRates) (i j : ℕ) (v : Ends) (p q : ℕ) → IsBanded m → i < m.size → IsKept m i j
    → p < m.size → (p ≡ i → q ≢ j) → entry (with_entry m i j v) p q ≡ entry m p q
at_other_entry m i j v p q b l k lp ne =
    entry_is (with_entry m i j v) p q
    ∙ band_changed (λ a. band_entry a p q ≡ band_entry (band_of m p) p q) m (slice_index m.levels i)
    (slice_index m.levels p) (with_cell (band_of m i) i j v) (b.level i l)
    (λ e. at_other_cell (band_of m i) i j p q v (b.row i l) k (subst (λ a. HasRow (band_at m a) p) e (b.row p lp)) ne
    ∙ ap (λ a. band_entry (band_at m a) p q) (sym e))
    (λ _. refl)
    ∙ sym (entry_is m p q)

pub entry_shape : (m : BandedRates) (i j : ℕ) (v : Ends) → IsBanded m → i < m.size → (l : ℕ)
    → HasSameShape (band_at m l) (band_at (with_entry m i j v) l)
entry_shape m i j v b h l =
    band_changed (λ a. HasSameShape (band_at m l) a) m (slice_index m.levels i) l (with_cell (band_of m i) i j v) (b.level i h)
    (λ e. subst (λ a. HasSameShape (band_at m a) (with_cell (band_of m i) i j v)) (sym e) (cells_shape (band_of m i) _))
    (λ _. same_shape (band_at m l))

pub sound_entry : (m : BandedRates) (i j : ℕ) (v : Ends) → IsSound m → i < m.size → j < m.size → i ≢ j → IsKept m i j
    → (entry m i j).lo ≤ v.lo → v.lo ≤ v.hi → v.hi ≤ cap m i → IsSound (with_entry m i j v)
sound_entry m i j v s l lj ne k grows ordered capped =
    sound_changed m (set m.bands (slice_index m.levels i) (with_cell (band_of m i) i j v)) s
    (length-set m.bands (slice_index m.levels i) (with_cell (band_of m i) i j v))
    (entry_shape m i j v s.banded l)
    (λ a h. band_changed (λ c. length c.cells ≡ length (band_at m a).cells) m (slice_index m.levels i) a
    (with_cell (band_of m i) i j v) (s.banded.level i l)
    (λ e. length-set (band_of m i).cells (place_in (band_of m i) i j) v ∙ ap (λ c. length (band_at m c).cells) (sym e))
    (λ _. refl))
    (λ p q lp lq. entry_by (λ e. (entry m p q).lo ≤ e.lo) p q lp
    (λ a b. subst (λ c. (entry m c q).lo ≤ v.lo) (sym a) (subst (λ c. (entry m i c).lo ≤ v.lo) (sym b) grows))
    (omega arith))
    record {
      ordered = λ p q lp lq n. entry_by (λ e. e.lo ≤ e.hi) p q lp (λ a b. ordered) (s.within.ordered p q lp lq n);
      capped = λ p q lp lq n.
          entry_by (λ e. e.hi ≤ cap m p) p q lp (λ a b. subst (λ c. v.hi ≤ cap m c) (sym a) capped) (s.within.capped p q lp lq n);
    }
  where
    entry_by : (P : Ends → Type 0) (p q : ℕ) → p < m.size → (p ≡ i → q ≡ j → P v) → P (entry m p q)
        → P (entry (with_entry m i j v) p q)
    entry_by P p q lp here there = elim (cases_eq p i) [
      | inl a ↦ elim (cases_eq q j) [
        | inl b ↦ subst (λ c. P (entry (with_entry m i j v) c q)) (sym a)
            (subst (λ c. P (entry (with_entry m i j v) i c)) (sym b)
            (subst P (sym (at_entry m i j v s.banded l k)) (here a b)))
        | inr nb ↦ subst P (sym (at_other_entry m i j v p q s.banded l k lp (λ _ b. nb b))) there
      ]
      | inr na ↦ subst P (sym (at_other_entry m i j v p q s.banded l k lp (λ a. absurd (na a)))) there
    ]

abbrev fewer : BandedRates → BandedRates
fewer m = record m { alive = m.alive - 1 }

same_within : (m : BandedRates) → IsWithin m.size (cap m) (entry m) → IsWithin m.size (cap m) (entry (fewer m))
unfolding entry
same_within m w = w

same_live : (m : BandedRates) → IsLive m.size m.scale (entry m) → IsLive m.size m.scale (entry (fewer m))
unfolding entry
same_live m w = w

-- one state less is alive
pub sound_retired : (m : BandedRates) → IsSound m → 2 ≤ m.alive → IsSound (record m { alive = m.alive - 1 })
sound_retired m s h = record {
  at_least = s.at_least;
  at_most = s.at_most;
  alive = omega (arith, s.alive);
  some_alive = omega arith;
  scale = s.scale;
  outflows = s.outflows;
  caps = s.caps;
  banded = record {
    levels = s.banded.levels;
    level = s.banded.level;
    row = s.banded.row;
    own = s.banded.own;
    cells = s.banded.cells;
    columns = s.banded.columns;
    falls = s.banded.falls;
    whole = s.banded.whole;
  };
  within = same_within m s.within;
  live = same_live m s.live;
}

-- what indexing the levels and the bands reads
pub level_read : (m : BandedRates) (i k : ℕ) → IsBanded m → i < m.size → k ≡ get_or m.levels i k
    → k ≡ slice_index m.levels i
level_read m i k b l e = get_or_read m.levels i k (omega (arith, b.levels)) e 0

pub band_read : (m : BandedRates) (i k : ℕ) (a : BandOfRows) → IsBanded m → i < m.size → k ≡ get_or m.levels i k
    → a ≡ get_or m.bands k a → a ≡ band_of m i
band_read m i k a b l e f =
    let same = level_read m i k b l e in
    get_or_read m.bands k a (omega (arith, same, b.level i l)) f no_band ∙ ap (band_at m) same

pub entry_read : (m : BandedRates) (i j k : ℕ) (a : BandOfRows) → IsBanded m → i < m.size → k ≡ get_or m.levels i k
    → a ≡ get_or m.bands k a → band_entry a i j ≡ entry m i j
entry_read m i j k a b l e f = ap (λ c. band_entry c i j) (band_read m i k a b l e f) ∙ sym (entry_is m i j)

pub entry_written : (m : BandedRates) (i j k : ℕ) (v : Ends) (a c : BandOfRows) → IsBanded m → i < m.size
    → k ≡ get_or m.levels i k → a ≡ get_or m.bands k a → c ≡ with_cell a i j v
    → with_bands m (set m.bands k c) ≡ with_entry m i j v
entry_written m i j k v a c b l e f g =
    ap (λ x. with_bands m (set m.bands k x)) (g ∙ ap (λ x. with_cell x i j v) (band_read m i k a b l e f))
    ∙ ap (λ x. with_bands m (set m.bands x (with_cell (band_of m i) i j v))) (level_read m i k b l e)

-- the dense form keeps each place
pub kept_place : (m : BandedRates) (i j : ℕ) → IsBanded m → i < m.size → j < m.size
    → (m.packed ≡ true → IsKept m i j) → IsKept m i j
kept_place m i j b l k h = on_test m.packed h (λ f. b.whole f i j l k)
