-- A matrix before and after the elimination of a state.
use Rattle.std.proofs.Common.{◌≡◌, ◌≢◌, ℕ, ◌<◌, ◌≤◌, List, length, get_or, slice_index, sym, ap, subst, ◌∙◌, inl, inr, arith}
use Rattle.std.proofs.lemmas.Bool.{cases_lt, cases_eq}
use Rattle.std.proofs.lemmas.List.{get_or_past}
use Rattle.fixed_interval.specs.Ends.{Ends, exact_ends}
use Rattle.rate_matrix.specs.Elimination.{Entries, raised_entries}
use Rattle.rate_matrix.specs.Bands.{BandOfRows, BandedRates, HasRow, HasColumn, HasSameFrame, HasSameShape, IsKept, IsSound, band_at, band_entry, band_of, cap, cell_of, entry, no_band}
use Rattle.rate_matrix.specs.Rows.{CanUpdate, IsUpdated, OneElimination, part_in}
use Rattle.rate_matrix.proofs.Raising.{is_raised-from, is_raised-to, is_raised-itself, raised_entries-before, raised_entries-stays, raised_entry-capped, raised_entry-grows}
use Rattle.rate_matrix.proofs.RowsOfBand.{raised_entries-alike}
use Rattle.rate_matrix.proofs.BandLemmas.{band_entry_kept, entry_is, framed, same_shape, sound_changed, with_bands}

-- no entry that is raised goes past its cap, and none falls
pub raised_entries-within : (parts : ℕ → Ends) (a : Entries) (caps : ℕ → ℕ) (t i j : ℕ) → (a i j).lo ≤ (a i j).hi → (a i j).hi ≤ caps i
    → ((a i j).lo ≤ (raised_entries parts a caps t i j).lo) × ((raised_entries parts a caps t i j).hi ≤ caps i)
raised_entries-within parts a caps t i j ordered capped = elim (cases_lt i t) [
  | inl l ↦ elim (cases_lt j t) [
    | inl k ↦ elim (cases_eq i j) [
      | inl e ↦ stays (raised_entries-stays parts a caps t i j (is_raised-itself t i j e))
      | inr ne ↦ subst (λ e. ((a i j).lo ≤ e.lo) × (e.hi ≤ caps i)) (sym (raised_entries-before parts a caps t i j l k ne))
          (raised_entry-grows (a i j) (a i t) (parts j) (caps i) (omega arith), raised_entry-capped (a i j) (a i t) (parts j) (caps i))
    ]
    | inr k ↦ stays (raised_entries-stays parts a caps t i j (is_raised-to t i j k))
  ]
  | inr l ↦ stays (raised_entries-stays parts a caps t i j (is_raised-from t i j l))
]
  where
    stays : raised_entries parts a caps t i j ≡ a i j → ((a i j).lo ≤ (raised_entries parts a caps t i j).lo) × ((raised_entries parts a caps t i j).hi ≤ caps i)
    stays e = subst (λ x. ((a i j).lo ≤ x.lo) × (x.hi ≤ caps i)) (sym e) (omega arith, capped)

-- the elimination of the state that has just retired
abbrev pub elimination_of : BandedRates → List ℕ → List Ends → OneElimination
elimination_of m outflows parts = record { state = m.alive; scale = m.scale; outflows = outflows; parts = parts }

module _ (m : BandedRates) (parts : List Ends) (s : IsSound m) (gone : m.alive < m.size) where
  -- the band of a row is the one that has it
  row_band : (l i : ℕ) → l < length m.bands → HasRow (band_at m l) i → band_of m i ≡ band_at m l
  row_band l i h r = ap (band_at m) (s.banded.own l i h r).1

  row_entry : (l i j : ℕ) → l < length m.bands → HasRow (band_at m l) i → HasColumn (band_at m l) j
      → cell_of (band_at m l) i j ≡ entry m i j
  row_entry l i j h r k =
      sym (band_entry_kept (band_at m l) i j k)
      ∙ ap (λ b. band_entry b i j) (sym (row_band l i h r))
      ∙ sym (entry_is m i j)

  pub can_update : m.alive ≤ length parts
      → ((j : ℕ) → j < m.alive → ¬ IsKept m m.alive j → part_in parts j ≡ exact_ends 0)
      → (l : ℕ) → l < length m.bands → CanUpdate (elimination_of m m.outflows parts) (band_at m l)
  can_update enough zeros l h = record {
    parts = enough;
    outflows = λ i r. omega (arith, (s.banded.own l i h r).0, s.outflows);
    cells = s.banded.cells l h;
    caps = λ i r. s.caps i (s.banded.own l i h r).0;
    ordered = λ i j r k ne. subst (λ e. e.lo ≤ e.hi) (sym (row_entry l i j h r k))
        (s.within.ordered i j (s.banded.own l i h r).0 (in_size j k) ne);
    capped = λ i j r k ne. subst (λ e. e.hi ≤ cap m i) (sym (row_entry l i j h r k))
        (s.within.capped i j (s.banded.own l i h r).0 (in_size j k) ne);
    outside = λ i j r before state_kept j_before not_kept.
        zeros j j_before (λ kept.
        let falls = s.banded.falls i m.alive (omega arith) gone in
        let left = ap (λ b. b.left) (row_band l i h r) in
        not_kept (record { from = omega (arith, falls, left, kept.from); to = omega (arith, state_kept.to) }));
  }
    where
      in_size : (j : ℕ) → HasColumn (band_at m l) j → j < m.size
      in_size j k = omega (arith, k.to, s.banded.columns l h)

  module _ (bs : List BandOfRows) (count : length bs ≡ length m.bands)
      (done : (l : ℕ) → l < length m.bands → IsUpdated (elimination_of m m.outflows parts) (band_at m l) (band_at (with_bands m bs) l)) where
    pub entries_raised : (i j : ℕ) → i < m.size
        → entry (with_bands m bs) i j ≡ raised_entries (part_in parts) (entry m) (cap m) m.alive i j
    entries_raised i j l =
        entry_is (with_bands m bs) i j
        ∙ (done (slice_index m.levels i) (s.banded.level i l)).each i j (s.banded.row i l)
        ∙ raised_entries-alike (part_in parts) (band_entry (band_of m i)) (entry m) (cap m) m.alive i j
        (sym (entry_is m i j)) (sym (entry_is m i m.alive))

    shapes : (l : ℕ) → HasSameShape (band_at m l) (band_at (with_bands m bs) l)
    shapes l = elim (cases_lt l (length m.bands)) [
      | inl h ↦ (done l h).shape
      | inr h ↦
          let old = get_or_past m.bands l no_band h in
          let new = get_or_past bs l no_band (omega (arith, count)) in
          subst (λ b. HasSameShape b (band_at (with_bands m bs) l)) (sym old)
          (subst (λ b. HasSameShape no_band b) (sym new) (same_shape no_band))
    ]

    pub same_frame : HasSameFrame m (with_bands m bs)
    same_frame = framed m bs m.alive count shapes

    pub update_sound : IsSound (with_bands m bs)
    update_sound = sound_changed m bs s count shapes (λ l h. (done l h).count)
        (λ i j l k. elim (cases_eq i j) [
          | inl e ↦ subst (λ x. (entry m i j).lo ≤ x.lo)
              (sym (entries_raised i j l ∙ raised_entries-stays (part_in parts) (entry m) (cap m) m.alive i j (is_raised-itself m.alive i j e))) (omega arith)
          | inr ne ↦ subst (λ x. (entry m i j).lo ≤ x.lo) (sym (entries_raised i j l)) (within i j l k ne).0
        ])
        record {
          ordered = λ i j l k ne. subst (λ x. x.lo ≤ x.hi) (sym (entry_is (with_bands m bs) i j))
              ((done (slice_index m.levels i) (s.banded.level i l)).ordered i j (s.banded.row i l) ne);
          capped = λ i j l k ne. subst (λ x. x.hi ≤ cap m i) (sym (entries_raised i j l)) (within i j l k ne).1;
        }
      where
        within : (i j : ℕ) → i < m.size → j < m.size → i ≢ j
            → ((entry m i j).lo ≤ (raised_entries (part_in parts) (entry m) (cap m) m.alive i j).lo)
            × ((raised_entries (part_in parts) (entry m) (cap m) m.alive i j).hi ≤ cap m i)
        within i j l k ne = raised_entries-within (part_in parts) (entry m) (cap m) m.alive i j (s.within.ordered i j l k ne) (s.within.capped i j l k ne)

-- the same for outflows and bands as the code has them
pub can_update_each : (m : BandedRates) (parts : List Ends) → IsSound m → m.alive < m.size → m.alive ≤ length parts
    → ((j : ℕ) → j < m.alive → ¬ IsKept m m.alive j → part_in parts j ≡ exact_ends 0)
    → (outflows : List ℕ) (bands : List BandOfRows) → outflows ≡ m.outflows → bands ≡ m.bands
    → (l : ℕ) → l < length bands → CanUpdate (elimination_of m outflows parts) (get_or bands l no_band)
can_update_each m parts s gone enough zeros outflows bands outflows_are bands_are =
    subst (λ bs. (l : ℕ) → l < length bs → CanUpdate (elimination_of m outflows parts) (get_or bs l no_band)) (sym bands_are)
    (subst (λ fs. (l : ℕ) → l < length m.bands → CanUpdate (elimination_of m fs parts) (get_or m.bands l no_band)) (sym outflows_are)
    (can_update m parts s gone enough zeros))

pub record IsEliminated (m : BandedRates) (parts : List Ends) (bands : List BandOfRows) : Type 0 where
  pub sound : IsSound (with_bands m bands)
  pub frame : HasSameFrame m (with_bands m bands)
  pub entries : (i j : ℕ) → i < m.size
      → entry (with_bands m bands) i j ≡ raised_entries (part_in parts) (entry m) (cap m) m.alive i j

pub update_all : (m : BandedRates) (parts : List Ends) → IsSound m → m.alive < m.size
    → (outflows : List ℕ) (bands new left : List BandOfRows) → outflows ≡ m.outflows → bands ≡ m.bands → left ≡ new
    → length new ≡ length bands
    → ((l : ℕ) → l < length bands → IsUpdated (elimination_of m outflows parts) (get_or bands l no_band) (get_or new l no_band))
    → IsEliminated m parts left
update_all m parts s gone outflows bands new left outflows_are bands_are left_are count done =
    let counted = count ∙ ap length bands_are in
    let each = subst (λ bs. (l : ℕ) → l < length bs → IsUpdated (elimination_of m m.outflows parts) (get_or bs l no_band) (get_or new l no_band)) bands_are
    (subst (λ fs. (l : ℕ) → l < length bands → IsUpdated (elimination_of m fs parts) (get_or bands l no_band) (get_or new l no_band)) outflows_are done) in
    subst (IsEliminated m parts) (sym left_are) record {
      sound = update_sound m parts s gone new counted each;
      frame = same_frame m parts s gone new counted each;
      entries = entries_raised m parts s gone new counted each;
    }
