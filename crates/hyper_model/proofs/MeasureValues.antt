-- What a list's value for a measure says, and that ends which lie apart have measures between them.
use Rattle.std.proofs.Common.{◌≡◌, ℕ, ◌+◌, ◌*◌, ◌≤◌, ◌<◌, ◌∙◌, sym, ap, refl, subst, arith, rules, Bool, true, false, List, [], ◌∷◌, Option, Some, None}
use Rattle.std.specs.Prelude.{All, find, if◌then◌else◌, is_some, unwrap_or}
use Rattle.std.specs.List.{list_all, list_any}
use Rattle.std.specs.Str.{bytes_eq}
use Rattle.std.proofs.Math.Nat.{lt_of_mul-lt-mul_left, mul-le-mul_right, mul-pos}
use Rattle.std.proofs.lemmas.List.Elements.{All-head, All-tail}
use Rattle.std.proofs.lemmas.Bool.{and_parts}
use Rattle.std.proofs.lemmas.Option.{same_Some}
use Rattle.hyper_model.specs.Measures.{ContainsRatio, IsContained, IsFoundOf, IsInRange, IsSubjectOf, Ratio, is_of_region, is_region, is_silent, is_without, measure_named, measure_of, region_measures, scale_of, subject_of, word_of}
use Rattle.hyper_model.specs.Separation.{IsLess}
use Rattle.hyper_model.specs.Values.{ends_of, is_same, value_in, value_of, zero_value}
use Rattle.hyper_model.specs.declared.kinds.Enclosed.{Enclosed}
use Rattle.hyper_model.specs.declared.kinds.Found.{Found}
use Rattle.hyper_model.specs.declared.kinds.Found.TheVariants as found
use Rattle.hyper_model.specs.declared.kinds.Measure.{Measure}
use Rattle.hyper_model.specs.declared.kinds.Subject.{Subject}
use Rattle.hyper_model.specs.declared.kinds.Subject.TheVariants as subject
use Rattle.hyper_model.specs.declared.parts.PlanParts.{PlanParts}
use Rattle.hyper_model.specs.declared.values.Value.{Value}

-- what is found in a list passes each test that all its items pass
pub found_passes : {A : Type 0} (p q : A → Bool) (xs : List A) (x : A) → list_all q xs ≡ true → find p xs ≡ Some x → q x ≡ true
found_passes p q [] x h e = absurd (cc)
found_passes p q (y ∷ ys) x h e = by (p y) refl (found_passes p q ys x (and_parts (q y) (list_all q ys) h).1)
  where
    by : (b : Bool) → p y ≡ b → (find p ys ≡ Some x → q x ≡ true) → q x ≡ true
    by true t later = ap q (sym (same_Some y x (rw t at e))) ∙ (and_parts (q y) (list_all q ys) h).0
    by false t later = later (rw t at e)

-- a measure that has its word in a study is of the region
pub of_region_measure : (word : List ℕ) (m : Measure) → measure_named word ≡ Some m → is_of_region m ≡ true
unfolding measure_named
of_region_measure word m e = found_passes (λ k. bytes_eq word (word_of k)) is_of_region region_measures m refl e

-- what an item says
ends_found : (f : Found) (v : Value) → ends_of f ≡ Some v → f ≡ found.Ends v.lo v.hi
ends_found (found.Ends lo hi) v s =
    ap (λ (x : Value). found.Ends x.lo x.hi) (same_Some (record { lo = lo; hi = hi }) v s)
ends_found found.Without v s = absurd (cc)

same_is : (a b : Measure) → is_same a b ≡ true → a ≡ b
same_is a b h = search (rules, h)

says : (m : Measure) (e : Enclosed) (v : Value) → value_of m e ≡ Some v
    → (e.measure ≡ m) × (e.found ≡ found.Ends v.lo v.hi)
says m e v t = by (is_same e.measure m) refl t
  where
    by : (b : Bool) → is_same e.measure m ≡ b → (if b then ends_of e.found else None) ≡ Some v
        → (e.measure ≡ m) × (e.found ≡ found.Ends v.lo v.hi)
    by true b s = (same_is e.measure m b, ends_found e.found v s)
    by false b s = absurd (cc)

-- the list has ends for the measure
abbrev pub has_value : Measure → List Enclosed → Bool
has_value m items = list_any (λ e. is_some (value_of m e)) items

value_first : (m : Measure) (e : Enclosed) (items : List Enclosed) (v : Value) → value_of m e ≡ Some v
    → value_in m (e ∷ items) ≡ v
value_first m e items v t = ap (λ o. unwrap_or o (value_in m items)) t

value_later : (m : Measure) (e : Enclosed) (items : List Enclosed) → value_of m e ≡ None
    → value_in m (e ∷ items) ≡ value_in m items
value_later m e items t = ap (λ o. unwrap_or o (value_in m items)) t

-- without ends it has 0 and 0
pub value_none : (m : Measure) (items : List Enclosed) → has_value m items ≡ false → value_in m items ≡ zero_value
value_none m [] h = refl
value_none m (e ∷ items) h = by (value_of m e) refl (value_none m items)
  where
    by : (o : Option Value) → value_of m e ≡ o → (has_value m items ≡ false → value_in m items ≡ zero_value)
        → value_in m (e ∷ items) ≡ zero_value
    by None t later = value_later m e items t ∙ later (rw t at h)
    by (Some v) t later = absurd (let some = rw t at h in cc)

module _ (p : PlanParts) (x : ℕ → ℕ) (z : ℕ) (m : Measure) where
  abbrev pub ContainsMeasure : Value → Type 0
  ContainsMeasure v = ContainsRatio v.lo v.hi (scale_of m) (measure_of p x z m)

  item_contains : (e : Enclosed) (v : Value) → value_of m e ≡ Some v → IsContained p x z e → ContainsMeasure v
  item_contains e v t c =
      let said = says m e v t in
      (subst (λ f. IsFoundOf p x z m f) said.1 (subst (λ k. IsFoundOf p x z k e.found) said.0 c)).1

  pub value_contains : (items : List Enclosed) → All (IsContained p x z) items → has_value m items ≡ true
      → ContainsMeasure (value_in m items)
  value_contains [] each h = absurd (cc)
  value_contains (e ∷ items) each h =
      by (value_of m e) refl (value_contains items (All-tail (IsContained p x z) e items each))
    where
      by : (o : Option Value) → value_of m e ≡ o → (has_value m items ≡ true → ContainsMeasure (value_in m items))
          → ContainsMeasure (value_in m (e ∷ items))
      by None t later = subst ContainsMeasure (sym (value_later m e items t)) (later (rw t at h))
      by (Some v) t later =
          subst ContainsMeasure (sym (value_first m e items v t)) (item_contains e v t (All-head (IsContained p x z) e items each))

-- what is said of the region can be said of any plan
only_region : (about : Subject) → is_region about ≡ true → about ≡ subject.Region
only_region subject.Region h = refl
only_region about h = absurd (cc)

pub region_in_range : (p : PlanParts) (m : Measure) → is_of_region m ≡ true → IsInRange p m × (is_without p m ≡ false)
region_in_range p m h =
    let region = only_region (subject_of m) h in
    (subst (IsSubjectOf p) (sym region) tt, ap (is_silent p) region)

-- a high end below a low end
pub less : (lo hi low high scale : ℕ) (r s : Ratio) → ContainsRatio lo hi scale r → ContainsRatio low high scale s → hi < low
    → 0 < r.denominator → 0 < s.denominator → IsLess r s
less lo hi low high scale r s in_r in_s apart some_r some_s =
    let a = r.numerator in
    let b = r.denominator in
    let c = s.numerator in
    let d = s.denominator in
    let upper : scale * a * d ≤ hi * b * d = mul-le-mul_right d in_r.most in
    let lower : low * d * b ≤ scale * c * b = mul-le-mul_right b in_s.least in
    let more : hi + 1 ≤ low = omega arith in
    let gap : (hi + 1) * (b * d) ≤ low * (b * d) = mul-le-mul_right (b * d) more in
    let some : 0 < b * d = mul-pos some_r some_s in
    let strict : scale * (a * d) < scale * (c * b) = grind arith in
    lt_of_mul-lt-mul_left scale strict
