-- The first value that is too wide, value by value.
use Rattle.std.proofs.Common.{◌≡◌, ℕ, ◌+◌, ◌-◌, ◌<◌, ◌∙◌, ap, sym, refl, true, false, Bool, List, [], ◌∷◌, ◌++◌, drop, Some, None}
use Rattle.std.specs.Prelude.{if◌then◌else◌, slice_get}
use Rattle.std.specs.List.{flat_map, range_with_len}
use Rattle.hyper_model.specs.Enclosures.{EnclosureList}
use Rattle.hyper_model.specs.declared.kinds.Measure.{Measure}
use Rattle.report_text.specs.declared.ending.Widths.{Widths}
use Rattle.plan_compare.specs.Comparisons.{ValuePlace, places_in, end_at, first_wide_of, is_wide_at, is_wide_value}
use Rattle.plan_compare.specs.Values.{value_at}
use Rattle.plan_compare.specs.declared.ending.CompareEnd.{CompareEnd}
use Rattle.plan_compare.specs.declared.ending.CompareEnd.TheVariants as end
use Rattle.hyper_model.specs.declared.values.Value.{Value}
use Rattle.text_lines.proofs.Pieces.{drop_at, range_first}

module _ (widths : Widths) (found : List EnclosureList) where
  wide_first : (a : ValuePlace) (places : List ValuePlace) (b : Bool) → is_wide_at widths found a ≡ b
      → first_wide_of widths found (a ∷ places) ≡ (if b then Some (end_at found a) else first_wide_of widths found places)
  wide_first a places true e = rw e refl
  wide_first a places false e = rw e refl

  -- the value at this place of a plan's measures
  at_next : (measures : List Measure) (place k : ℕ) (m : Measure) (v : Value) (b : Bool) → slice_get measures k ≡ Some m
      → v ≡ value_at found m place → is_wide_value widths m v ≡ b
      → first_wide_of widths found (places_in (drop k measures) place)
      ≡ (if b then Some (end.TooWide (place + 1) m v.lo v.hi) else first_wide_of widths found (places_in (drop (k + 1) measures) place))
  at_next measures place k m v b at e w =
      let at_this : ValuePlace = record { place = place; measure = m } in
      ap (λ ms. first_wide_of widths found (places_in ms place)) (drop_at measures k m at)
      ∙ wide_first at_this (places_in (drop (k + 1) measures) place) b (ap (λ (x : Value). is_wide_value widths m x) (sym e) ∙ w)
      ∙ ap (λ (x : Value). if b then Some (end.TooWide (place + 1) m x.lo x.hi) else first_wide_of widths found (places_in (drop (k + 1) measures) place)) (sym e)

  -- it is too wide
  pub wide_here : (measures : List Measure) (place k : ℕ) (m : Measure) (v : Value) → slice_get measures k ≡ Some m
      → v ≡ value_at found m place → is_wide_value widths m v ≡ true
      → first_wide_of widths found (places_in (drop k measures) place) ≡ Some (end.TooWide (place + 1) m v.lo v.hi)
  wide_here measures place k m v at e w = at_next measures place k m v true at e w

  -- it is not
  pub wide_past : (measures : List Measure) (place k : ℕ) (m : Measure) (v : Value) → slice_get measures k ≡ Some m
      → v ≡ value_at found m place → is_wide_value widths m v ≡ false
      → first_wide_of widths found (places_in (drop k measures) place) ≡ first_wide_of widths found (places_in (drop (k + 1) measures) place)
  wide_past measures place k m v at e w = at_next measures place k m v false at e w

  wide_in_first : (xs ys : List ValuePlace) (e : CompareEnd) → first_wide_of widths found xs ≡ Some e
      → first_wide_of widths found (xs ++ ys) ≡ Some e
  wide_in_first [] ys e h = absurd (cc)
  wide_in_first (x ∷ xs) ys e h = by (is_wide_at widths found x) refl (wide_in_first xs ys e)
    where
      by : (b : Bool) → is_wide_at widths found x ≡ b
          → (first_wide_of widths found xs ≡ Some e → first_wide_of widths found (xs ++ ys) ≡ Some e)
          → first_wide_of widths found (x ∷ (xs ++ ys)) ≡ Some e
      by true w later = wide_first x (xs ++ ys) true w ∙ sym (wide_first x xs true w) ∙ h
      by false w later = wide_first x (xs ++ ys) false w ∙ later (sym (wide_first x xs false w) ∙ h)

  wide_in_second : (xs ys : List ValuePlace) → first_wide_of widths found xs ≡ None
      → first_wide_of widths found (xs ++ ys) ≡ first_wide_of widths found ys
  wide_in_second [] ys h = refl
  wide_in_second (x ∷ xs) ys h = by (is_wide_at widths found x) refl (wide_in_second xs ys)
    where
      by : (b : Bool) → is_wide_at widths found x ≡ b
          → (first_wide_of widths found xs ≡ None → first_wide_of widths found (xs ++ ys) ≡ first_wide_of widths found ys)
          → first_wide_of widths found (x ∷ (xs ++ ys)) ≡ first_wide_of widths found ys
      by true w later = absurd (let some = sym (wide_first x xs true w) ∙ h in cc)
      by false w later = wide_first x (xs ++ ys) false w ∙ later (sym (wide_first x xs false w) ∙ h)

  -- the first too wide of the plans from this place on is in the plan at this place
  pub plan_here : (measures : List Measure) (n place : ℕ) (e : CompareEnd) → place < n
      → first_wide_of widths found (places_in measures place) ≡ Some e
      → first_wide_of widths found (flat_map (places_in measures) (range_with_len place (n - place))) ≡ Some e
  plan_here measures n place e h w =
      ap (λ ks. first_wide_of widths found (flat_map (places_in measures) ks)) (range_first place n h)
      ∙ wide_in_first (places_in measures place) (flat_map (places_in measures) (range_with_len (place + 1) (n - (place + 1)))) e w

  -- it is not
  pub plan_past : (measures : List Measure) (n place : ℕ) → place < n
      → first_wide_of widths found (places_in measures place) ≡ None
      → first_wide_of widths found (flat_map (places_in measures) (range_with_len place (n - place)))
      ≡ first_wide_of widths found (flat_map (places_in measures) (range_with_len (place + 1) (n - (place + 1))))
  plan_past measures n place h w =
      ap (λ ks. first_wide_of widths found (flat_map (places_in measures) ks)) (range_first place n h)
      ∙ wide_in_second (places_in measures place) (flat_map (places_in measures) (range_with_len (place + 1) (n - (place + 1)))) w
