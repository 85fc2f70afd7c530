-- The names of an accepted plan are all different.
use Rattle.std.proofs.Common.{◌≡◌, ◌∙◌, ℕ, ◌<◌, ◌≤◌, Bool, true, false, List, length, map, take, get_or, [], refl, sym, ap, arith}
use Rattle.std.specs.List.{list_any}
use Rattle.std.specs.Str.{bytes_eq}
use Rattle.std.proofs.lemmas.List.{get_or-map, get_or-take, get_or_default, length-map, length-take-le, take-map}
use Rattle.std.proofs.lemmas.List.Folds.{list_any_none}
use Rattle.std.proofs.lemmas.Slice.Eq.{bytes_eq-Decides}
use Rattle.hyper_model.specs.Plans.{IsAccepted, atom_name, atoms, no_atom, no_unit, unit_name, units}
use Rattle.hyper_model.specs.declared.parts.Atom.{Atom}
use Rattle.hyper_model.specs.declared.parts.PlanParts.{PlanParts}
use Rattle.hyper_model.specs.declared.parts.Unit as declared_unit
use Rattle.atom_table.specs.Entries.{atom_names, unit_names}
use Rattle.atom_table.specs.Names.{is_among}

unequal : (a b : List ℕ) → (a ≡ b → ⊥) → bytes_eq a b ≡ false
unequal a b apart = by (bytes_eq a b) (bytes_eq-Decides a b).0
  where
    by : (test : Bool) → (test ≡ true → a ≡ b) → test ≡ false
    by true same = absurd (apart (same refl))
    by false same = refl

-- a name that none of the first ones is
fresh_name : (names : List (List ℕ)) (n : ℕ) (name : List ℕ) → n ≤ length names
    → ((k : ℕ) → k < n → name ≡ get_or names k [] → ⊥) → is_among (take n names) name ≡ false
fresh_name names n name within apart =
    list_any_none (bytes_eq name) (take n names) (λ k d lt.
    let early : k < n = omega (arith, length-take-le n names within, lt) in
    let here : get_or (take n names) k d ≡ get_or names k [] =
    get_or-take n names k d early ∙ get_or_default names k d [] (omega arith) in
    unequal name (get_or (take n names) k d) (λ e. apart k early (e ∙ here)))

pub unit_fresh : (p : PlanParts) (n : ℕ) (names : List (List ℕ)) (name : List ℕ) → IsAccepted p → n < units p
    → names ≡ unit_names (take n p.units) → name ≡ unit_name p n → is_among names name ≡ false
unit_fresh p n names name accepted lt names_are name_is =
    let size = length-map p.units (λ (u : declared_unit.Unit). u.name) in
    rw (names_are, name_is, sym (take-map (λ (u : declared_unit.Unit). u.name) n p.units))
    (fresh_name (unit_names p.units) n (unit_name p n) (omega (arith, size)) (λ k early e.
    let there : get_or (unit_names p.units) k [] ≡ unit_name p k =
    get_or-map (λ (u : declared_unit.Unit). u.name) p.units k no_unit [] (omega arith) in
    let same : n ≡ k = accepted.units.named n k lt (omega arith) (e ∙ there) in
    absurd (omega (arith, same))))

pub atom_fresh : (p : PlanParts) (j : ℕ) (names : List (List ℕ)) (name : List ℕ) → IsAccepted p → j < atoms p
    → names ≡ atom_names (take j p.atoms) → name ≡ atom_name p j → is_among names name ≡ false
atom_fresh p j names name accepted lt names_are name_is =
    let size = length-map p.atoms (λ (a : Atom). a.name) in
    rw (names_are, name_is, sym (take-map (λ (a : Atom). a.name) j p.atoms))
    (fresh_name (atom_names p.atoms) j (atom_name p j) (omega (arith, size)) (λ k early e.
    let there : get_or (atom_names p.atoms) k [] ≡ atom_name p k =
    get_or-map (λ (a : Atom). a.name) p.atoms k no_atom [] (omega arith) in
    let same : j ≡ k = accepted.atoms.named j k lt (omega arith) (e ∙ there) in
    absurd (omega (arith, same))))
