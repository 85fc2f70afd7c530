-- Parts of weights that enclose masses of words contain what they stand for.
use Rattle.std.proofs.Common.{◌≡◌, ℕ, ◌*◌, ◌^◌, ◌<◌, ◌≤◌, List, refl, sym, subst, arith}
use Rattle.std.specs.Prelude.{Option, Some, None, SomeIff, IsSome}
use Rattle.std.proofs.lemmas.Nat.{mul-le}
use Rattle.std.proofs.lemmas.List.FromFn.{get_or-map-range_with_len}
use Rattle.fixed_interval.specs.Ends.{Ends, Encloses, between, ratio_ends}
use Rattle.fixed_interval.specs.WeightList.{ends_at}
use Rattle.fixed_interval.proofs.Rounding.{div_ceil-le, encloses_ratio}
use Rattle.hyper_model.specs.declared.kinds.Line.{Line}
use Rattle.hyper_model.specs.declared.kinds.Line.TheVariants as line
use Rattle.hyper_model.specs.declared.parts.PlanParts.{PlanParts}
use Rattle.hyper_model.specs.Plans.{units, atoms, service_of, all_service, split, IsAccepted}
use Rattle.hyper_model.specs.Solutions.{mass_in}
use Rattle.hyper_model.specs.Measures.{mass, queued_mass_on, queued_mass, base_on, base, taken_mass}
use Rattle.hyper_model.proofs.Sums.{place_le_sum}
use Rattle.hyper_model.proofs.Masses.{service_total_positive}
use Rattle.busy_words.specs.Order.{WordOrder}
use Rattle.busy_words.specs.WeightParts.{IsOrderOf, EnclosesMasses, EnclosesSolution, full_part, taken_part}
use Rattle.busy_words.proofs.MassParts.{mass_of_base, full_part_encloses, taken_part_encloses}
use Rattle.busy_words.proofs.WeightParts.{masses_enclosed}
use Rattle.dispatch_fractions.specs.PartLists.{PartList, waiting_on, help_from, parts_from, ArePartsOf, HasParts}
use Rattle.hyper_model.proofs.Ranges.{table_read}

-- one unit's service is at most all service, so that its part of a part is one
pub service_part : (p : PlanParts) (n : ℕ) → n < units p → service_of p n ≤ all_service p
service_part p n l = place_le_sum (units p) (service_of p) n l

pub some_if : {T : Type 0} (o : Option T) (P : Type 0) (v : T) → P → SomeIff o P v → IsSome o
some_if None P v holds h = absurd (h holds)
some_if (Some w) P v holds h = refl

pub part_of_part : (w r : Ends) (a b : ℕ) → 1 ≤ b → a ≤ b → w.hi ≤ 2 ^ 62 → r ≡ ratio_ends w a b → r.hi ≤ 2 ^ 62
part_of_part w r a b some part in_range is =
    rw is (div_ceil-le (w.hi * a) b (2 ^ 62) (omega arith) (mul-le w.hi a (2 ^ 62) b in_range part))

pub same_parts : (rows height cols width : ℕ) (some taken : List Ends) (all full : Ends) (part help : List Ends)
    → rows ≡ height → cols ≡ width → some ≡ taken → all ≡ full → part ≡ help
    → (let before : PartList = record { units = rows; atoms = cols; taken = some; full = all; help = part } in
    let after : PartList = record { units = height; atoms = width; taken = taken; full = full; help = help } in
    before ≡ after)
same_parts rows height cols width some taken all full part help r c t f h = cc

-- the parts that are pushed unit by unit are those of the weights
pub parts_are : (p : PlanParts) (order : WordOrder) (w : ℕ → Ends) → ArePartsOf p order w (parts_from p order w)
parts_are p order w = record {
  sized = record { same_units = refl; same_atoms = refl };
  full = refl;
  taken = λ n j l k. table_read (taken_part p order w) (atoms p) (units p) n j (between 0 0) l k;
  help = λ n l.
      get_or-map-range_with_len (help_from p (full_part p w)) 0 (units p) n n (between 0 0) l (omega arith);
}

module _ (p : PlanParts) (a : IsAccepted p) (order : WordOrder) (o : IsOrderOf p order) (items : List Ends)
    (xs : List ℕ) (z : ℕ) (e : EnclosesMasses p order items xs z) where
  some_mass : 0 < mass p (mass_in xs) z
  some_mass = mass_of_base p (mass_in xs) z e.some

  waiting_holds : Encloses (waiting_on p.line (full_part p (ends_at items))) (2 ^ 62 * queued_mass p (mass_in xs) z)
      (base p (mass_in xs) z)
  waiting_holds = on_line p.line
    where
      on_line : (l : Line)
          → Encloses (waiting_on l (full_part p (ends_at items))) (2 ^ 62 * queued_mass_on l p (mass_in xs) z)
          (base_on l p (mass_in xs) z)
      on_line line.Zero = record { low = omega arith; high = omega arith }
      on_line line.Infinite = full_part_encloses p order o items xs z e.tail some_mass e.encloses

  help_holds : (n : ℕ)
      → Encloses (help_from p (full_part p (ends_at items)) n) (2 ^ 62 * queued_mass p (mass_in xs) z * service_of p n)
      (all_service p * base p (mass_in xs) z)
  help_holds n =
      encloses_ratio (waiting_on p.line (full_part p (ends_at items))) (help_from p (full_part p (ends_at items)) n)
      (service_of p n) (all_service p) (service_total_positive p a) refl (2 ^ 62 * queued_mass p (mass_in xs) z)
      (base p (mass_in xs) z) waiting_holds

  pub masses_have_parts : (parts : PartList) → ArePartsOf p order (ends_at items) parts → HasParts p xs z parts
  masses_have_parts parts is = record {
    accepted = a;
    taken = λ n j l k.
        subst (λ r. Encloses r (2 ^ 62 * taken_mass p (mass_in xs) n j) (split p * base p (mass_in xs) z))
        (sym (is.taken n j l k)) (taken_part_encloses p order o items xs z e.tail some_mass e.encloses e.some n j l);
    waiting =
        subst (λ r. Encloses (waiting_on p.line r) (2 ^ 62 * queued_mass p (mass_in xs) z) (base p (mass_in xs) z))
        (sym is.full) waiting_holds;
    help = λ n l.
        subst (λ r. Encloses r (2 ^ 62 * queued_mass p (mass_in xs) z * service_of p n)
        (all_service p * base p (mass_in xs) z)) (sym (is.help n l)) (help_holds n);
  }

-- so do those of weights that enclose a solution
pub has_parts : (p : PlanParts) → IsAccepted p → (order : WordOrder) → IsOrderOf p order → (items : List Ends) (xs : List ℕ)
    (z : ℕ) → EnclosesSolution p order items xs z → (parts : PartList) → ArePartsOf p order (ends_at items) parts
    → HasParts p xs z parts
has_parts p a order o items xs z e = masses_have_parts p a order o items xs z (masses_enclosed p a order items xs z e)
