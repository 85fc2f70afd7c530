-- Matrices with one frame: their caps and the places that they keep, and what a state that retires leaves.
use Rattle.std.proofs.Common.{◌≡◌, ℕ, ◌-◌, ◌*◌, ◌<◌, List, slice_index, refl, sym, ap, subst, ◌∙◌}
use Rattle.fixed_interval.specs.Ends.{Ends, exact_ends}
use Rattle.rate_matrix.specs.Bands.{BandedRates, HasColumn, HasSameFrame, IsKept, band_at, band_of, cap, entry}
use Rattle.rate_matrix.specs.Elimination.{part_to}
use Rattle.rate_matrix.specs.Rows.{part_in}
use Rattle.rate_matrix.proofs.BandLemmas.{band_entry_zero, entry_is, framed, same_shape, shape_column}
use Rattle.state_reduction.proofs.FarZeros.{part_to-nothing}

pub frame-none : (m : BandedRates) → HasSameFrame m m
frame-none m = framed m m.bands m.alive refl (λ l. same_shape (band_at m l))

pub frame-more : (a b c : BandedRates) → HasSameFrame a b → HasSameFrame b c → HasSameFrame a c
frame-more a b c first second = record {
  size = second.size ∙ first.size;
  scale = second.scale ∙ first.scale;
  packed = second.packed ∙ first.packed;
  outflows = second.outflows ∙ first.outflows;
  levels = second.levels ∙ first.levels;
  count = second.count ∙ first.count;
  shape = λ l. record {
    first = (second.shape l).first ∙ (first.shape l).first;
    rows = (second.shape l).rows ∙ (first.shape l).rows;
    left = (second.shape l).left ∙ (first.shape l).left;
    width = (second.shape l).width ∙ (first.shape l).width;
  };
}

pub cap-same : (a b : BandedRates) → HasSameFrame a b → (i : ℕ) → cap b i ≡ cap a i
cap-same a b frame i =
    ap (λ s. s * slice_index b.outflows i) frame.scale
    ∙ ap (λ (outflows : List ℕ). a.scale * slice_index outflows i) frame.outflows

-- what the first keeps, the second keeps
pub kept-same : (a b : BandedRates) → HasSameFrame a b → (i j : ℕ) → IsKept a i j → IsKept b i j
kept-same a b frame i j kept =
    subst (λ (levels : List ℕ). HasColumn (band_at b (slice_index levels i)) j) (sym frame.levels)
    (shape_column (band_at a (slice_index a.levels i)) (band_at b (slice_index a.levels i)) j
    (frame.shape (slice_index a.levels i)) kept)

-- one state less is alive
pub fewer-frame : (m n : BandedRates) → n ≡ record m { alive = m.alive - 1 } → HasSameFrame m n
fewer-frame m n is =
    subst (HasSameFrame m) (sym is) (framed m m.bands (m.alive - 1) refl (λ l. same_shape (band_at m l)))

fewer_entry : (m : BandedRates) (i j : ℕ) → entry (record m { alive = m.alive - 1 }) i j ≡ entry m i j
unfolding entry
fewer_entry m i j = refl

pub fewer-entry : (m n : BandedRates) → n ≡ record m { alive = m.alive - 1 } → (i j : ℕ) → entry n i j ≡ entry m i j
fewer-entry m n is i j = ap (λ x. entry x i j) is ∙ fewer_entry m i j

pub fewer-alive : (m n : BandedRates) → n ≡ record m { alive = m.alive - 1 } → n.alive ≡ m.alive - 1
fewer-alive m n is = ap (λ (x : BandedRates). x.alive) is

-- nothing goes to a state whose place is not kept
pub no_part_outside : (m : BandedRates) (parts : List Ends) (t : ℕ)
    → ((k : ℕ) → k < t → part_in parts k ≡ part_to (entry m) t k)
    → (j : ℕ) → j < t → ¬ IsKept m t j → part_in parts j ≡ exact_ends 0
no_part_outside m parts t are j before outside =
    are j before ∙ part_to-nothing (entry m) t j (entry_is m t j ∙ band_entry_zero (band_of m t) t j outside)
