-- The unit that has a name, by the units before it.
use Rattle.std.proofs.Common.{◌≡◌, ℕ, ◌<◌, refl, arith, true, false, List, length, Some, None}
use Rattle.std.specs.Prelude.{Ok, Err}
use Rattle.std.specs.List.{position, position_or_len}
use Rattle.std.specs.Str.{bytes_eq}
use Rattle.std.proofs.lemmas.Bool.Decides.{nat_tests}
use Rattle.std.proofs.lemmas.List.Sums.{position_or_len_is}
use Rattle.hyper_model.specs.Plans.{no_unit, unit_name, units}
use Rattle.hyper_model.specs.declared.parts.PlanParts.{PlanParts}
use Rattle.hyper_model.specs.declared.parts.Unit as declared_unit
use Rattle.site_sweep.specs.Finding.{if_named, unit_named, unit_of}
use Rattle.site_sweep.specs.declared.refusal.SweepRefusal.TheVariants as refusal

module _ (p : PlanParts) (name : List ℕ) where
  first_is : (n : ℕ) → n < units p → ((k : ℕ) → k < n → bytes_eq (unit_name p k) name ≡ false) → bytes_eq (unit_name p n) name ≡ true
      → unit_named p name ≡ Some n
  first_is n l before here =
      let e : position_or_len (λ (u : declared_unit.Unit). bytes_eq u.name name) p.units ≡ n =
      position_or_len_is (λ (u : declared_unit.Unit). bytes_eq u.name name) p.units n no_unit (omega arith) before (λ _. here) in
      rw e (grind (arith, nat_tests))

  none_is : ((k : ℕ) → k < units p → bytes_eq (unit_name p k) name ≡ false) → unit_named p name ≡ None
  none_is each =
      let e : position_or_len (λ (u : declared_unit.Unit). bytes_eq u.name name) p.units ≡ length p.units =
      position_or_len_is (λ (u : declared_unit.Unit). bytes_eq u.name name) p.units (length p.units) no_unit (omega arith) each
      (λ h. absurd (omega arith)) in
      rw e (grind (arith, nat_tests))

  pub unit_found : (n : ℕ) → n < units p → ((k : ℕ) → k < n → bytes_eq (unit_name p k) name ≡ false)
      → bytes_eq (unit_name p n) name ≡ true → Ok n ≡ unit_of p name
  unfolding unit_of
  unit_found n l before here = rw (first_is n l before here) refl

  pub unit_missing : ((k : ℕ) → k < units p → bytes_eq (unit_name p k) name ≡ false) → Err refusal.SweepUnit ≡ unit_of p name
  unfolding unit_of
  unit_missing each = rw (none_is each) refl
