-- Lists of masses in which one changes, or all are made.
use Rattle.std.proofs.Common.{◌≡◌, ℕ, ◌+◌, ◌^◌, ◌<◌, ◌≤◌, List, length, get_or, inl, inr, subst, sym, ◌∙◌, arith}
use Rattle.std.specs.Prelude.{slice_index, slice_set}
use Rattle.std.proofs.lemmas.Bool.{cases_eq, cases_lt}
use Rattle.std.proofs.lemmas.List.{get_or-set_other, get_or-set_same, length-set, set_past}
use Rattle.state_certificate.specs.Masses.{AreMasses, AreOrdered}

-- a list stays small where a small number is written
pub masses_set : (n most : ℕ) (xs : List ℕ) (i v : ℕ) → AreMasses n most xs → v ≤ most → AreMasses n most (slice_set xs i v)
masses_set n most xs i v h small = record {
  one_each = length-set xs i v ∙ h.one_each;
  small = λ j. elim (cases_lt i (length xs)) [
    | inl inside ↦ elim (cases_eq j i) [
      | inl e ↦ subst (λ a. get_or (slice_set xs i v) a 0 ≤ most) (sym e) (rw (get_or-set_same xs i v 0 inside) small)
      | inr ne ↦ rw (get_or-set_other xs i j v 0 ne) (h.small j)
    ]
    | inr past ↦ rw (set_past xs i v past) (h.small j)
  ];
}

-- masses that leave room below a bound are below it
pub masses_roomy : (n : ℕ) (xs : List ℕ) → AreMasses n (2 ^ 61) xs → AreMasses n (2 ^ 62) xs
masses_roomy n xs h = record { one_each = h.one_each; small = λ i. omega (arith, h.small i) }

-- masses in order up to a place, and a low and a high one in order at it
pub ordered_more : (xs ys : List ℕ) (i a b : ℕ) → i < length xs → i < length ys
    → ((k : ℕ) → k < i → get_or xs k 0 ≤ get_or ys k 0) → a ≤ b
    → (k : ℕ) → k < i + 1 → get_or (slice_set xs i a) k 0 ≤ get_or (slice_set ys i b) k 0
ordered_more xs ys i a b l m before here k below = elim (cases_eq k i) [
  | inl e ↦ subst (λ j. get_or (slice_set xs i a) j 0 ≤ get_or (slice_set ys i b) j 0) (sym e)
      (rw (get_or-set_same xs i a 0 l, get_or-set_same ys i b 0 m) here)
  | inr ne ↦ rw (get_or-set_other xs i k a 0 ne, get_or-set_other ys i k b 0 ne) (before k (omega (arith, ne)))
]
