-- Names in a row that are all different.
use Rattle.std.proofs.Common.{◌≡◌, ◌∙◌, ℕ, ◌<◌, ◌≤◌, List, [], ◌∷◌, ◌++◌, length, get_or, true, false, refl, sym, inl, inr, arith}
use Rattle.std.specs.Prelude.{Option, Some, None}
use Rattle.std.specs.List.{list_any}
use Rattle.std.specs.Str.{bytes_eq}
use Rattle.std.proofs.lemmas.Bool.{cases_lt}
use Rattle.std.proofs.lemmas.List.{get_or_append_left, get_or_at, length-append, length-map}
use Rattle.std.proofs.lemmas.List.Folds.{list_any_at}
use Rattle.std.proofs.lemmas.List.Quantifiers.{position-Some}
use Rattle.std.proofs.lemmas.Slice.Eq.{bytes_eq-Decides}
use Rattle.hyper_model.specs.declared.parts.Atom.{Atom}
use Rattle.hyper_model.specs.declared.parts.Unit as declared_unit
use Rattle.hyper_model.specs.Acceptance.{HaveOwnNames}
use Rattle.atom_table.specs.Entries.{atom_names, unit_names}
use Rattle.atom_table.specs.Names.{is_among, place_of, place_or_zero}

abbrev pub AreOwn : List (List ℕ) → Type 0
AreOwn names = HaveOwnNames (length names) (λ place. get_or names place [])

pub own_none : AreOwn []
own_none i j l h e = absurd (omega arith)

-- a name that is not among them stands at no place
not_at : (names : List (List ℕ)) (name : List ℕ) (i : ℕ) → is_among names name ≡ false → i < length names
    → name ≡ get_or names i [] → ⊥
not_at names name i fresh lt is =
    let there : list_any (bytes_eq name) names ≡ true =
    list_any_at (bytes_eq name) names i [] lt ((bytes_eq-Decides name (get_or names i [])).1 is) in
    let f : ⊥ = cc in f

-- a name more, which is not among them
pub own_push : (names : List (List ℕ)) (name : List ℕ) → AreOwn names → is_among names name ≡ false
    → AreOwn (names ++ name ∷ [])
own_push names name own fresh i j l h e = elim (cases_lt i (length names)) [
  | inl a ↦ elim (cases_lt j (length names)) [
    | inl b ↦ own i j a b (sym (get_or_append_left names (name ∷ []) [] i a) ∙ e ∙ get_or_append_left names (name ∷ []) [] j b)
    | inr b ↦ absurd (not_at names name i fresh a (sym (last j h b) ∙ sym e ∙ get_or_append_left names (name ∷ []) [] i a))
  ]
  | inr a ↦ elim (cases_lt j (length names)) [
    | inl b ↦ absurd (not_at names name j fresh b (sym (last i l a) ∙ e ∙ get_or_append_left names (name ∷ []) [] j b))
    | inr b ↦ omega (arith, length-append names (name ∷ []))
  ]
]
  where
    last : (k : ℕ) → k < length (names ++ name ∷ []) → length names ≤ k → get_or (names ++ name ∷ []) k [] ≡ name
    last k lt ge = get_or_at names name [] [] k (omega (arith, length-append names (name ∷ [])))

-- each name has a place where there is one at all
pub place_or_zero-within : (names : List (List ℕ)) (name : List ℕ) → 0 < length names → place_or_zero names name < length names
place_or_zero-within names name some = by (place_of names name) refl
  where
    by : (found : Option ℕ) → place_of names name ≡ found → place_or_zero names name < length names
    by None e = rw e some
    by (Some place) e = rw e ((position-Some (bytes_eq name) names place [] e).0)

-- the place of a name lies among them
place_of-within : (names : List (List ℕ)) (name : List ℕ) (place : ℕ) → place_of names name ≡ Some place → place < length names
place_of-within names name place e = (position-Some (bytes_eq name) names place [] e).0

pub unit_of-within : (units : List declared_unit.Unit) (name : List ℕ) (place : ℕ) → place_of (unit_names units) name ≡ Some place
    → place < length units
unit_of-within units name place e =
    let size : length (unit_names units) ≡ length units = length-map units (λ (unit : declared_unit.Unit). unit.name) in
    omega (arith, size, place_of-within (unit_names units) name place e)

pub atom_of-within : (atoms : List Atom) (name : List ℕ) (place : ℕ) → place_of (atom_names atoms) name ≡ Some place
    → place < length atoms
atom_of-within atoms name place e =
    let size : length (atom_names atoms) ≡ length atoms = length-map atoms (λ (atom : Atom). atom.name) in
    omega (arith, size, place_of-within (atom_names atoms) name place e)

-- the places of units and atoms
pub unit_place-within : (units : List declared_unit.Unit) (name : List ℕ) → 0 < length units
    → place_or_zero (unit_names units) name < length units
unit_place-within units name some =
    let size : length (unit_names units) ≡ length units = length-map units (λ (unit : declared_unit.Unit). unit.name) in
    omega (arith, size, place_or_zero-within (unit_names units) name (omega (arith, size)))

pub atom_place-within : (atoms : List Atom) (name : List ℕ) → 0 < length atoms
    → place_or_zero (atom_names atoms) name < length atoms
atom_place-within atoms name some =
    let size : length (atom_names atoms) ≡ length atoms = length-map atoms (λ (atom : Atom). atom.name) in
    omega (arith, size, place_or_zero-within (atom_names atoms) name (omega (arith, size)))
