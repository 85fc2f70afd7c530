-- In every solution each measure that has a value is a ratio: its denominator is positive.
use Rattle.std.proofs.Common.{◌≡◌, ℕ, ◌-◌, ◌*◌, ◌<◌, ◌==◌, false, List, refl, arith}
use Rattle.std.proofs.lemmas.Bool.{eqb-false}
use Rattle.std.proofs.Math.Nat.{mul-pos}
use Rattle.hyper_model.specs.declared.kinds.Line.{Line}
use Rattle.hyper_model.specs.declared.kinds.Line.TheVariants as line
use Rattle.hyper_model.specs.declared.kinds.Measure.{Measure}
use Rattle.hyper_model.specs.declared.kinds.Measure.TheVariants as measure
use Rattle.hyper_model.specs.declared.parts.PlanParts.{PlanParts}
use Rattle.hyper_model.specs.Plans.{all_calls, all_service, district_calls, split, IsAcceptedUpTo}
use Rattle.hyper_model.specs.Solutions.{mass_in, IsSolution}
use Rattle.hyper_model.specs.Measures.{mass, base, loss_on, delay_on, queue_on, wait_on, measure_of, is_without, IsInRange}
use Rattle.hyper_model.proofs.Takers.{split_positive}
use Rattle.hyper_model.proofs.PlanLaws.{stable_of}
use Rattle.hyper_model.proofs.Masses.{mass_positive, base_positive, service_total_positive, dispatched_by_positive, dispatched_all_positive, dispatched_into_positive}

module _ {most : ℕ} (p : PlanParts) (a : IsAcceptedUpTo most p) (xs : List ℕ) (z : ℕ) (s : IsSolution p xs z) where
  calls : 0 < all_calls p
  calls = omega (arith, a.atoms.calls.low)

  some_mass : 0 < mass p (mass_in xs) z
  some_mass = mass_positive p xs z s

  shares : 0 < split p * base p (mass_in xs) z
  shares = mul-pos (split_positive p) (base_positive p a xs z s)

  of_line : (l : Line) → p.line ≡ l
      → (0 < (loss_on l p (mass_in xs) z).denominator) × (0 < (delay_on l p (mass_in xs) z).denominator)
      × (0 < (queue_on l p (mass_in xs) z).denominator) × (0 < (wait_on l p (mass_in xs) z).denominator)
  of_line line.Zero e = (some_mass, omega arith, omega arith, omega arith)
  of_line line.Infinite e =
      let idle : 0 < all_service p - all_calls p = let more = stable_of p a e in omega (arith, more) in
      let both = mul-pos some_mass idle in
      (omega arith, some_mass, both, mul-pos both calls)

  some_calls : (n : ℕ) → (district_calls p n == 0) ≡ false → 0 < district_calls p n
  some_calls n e = let ne = eqb-false (district_calls p n) 0 e in omega (arith, ne)

  pub denominator_positive : (m : Measure) → IsInRange p m → is_without p m ≡ false
      → 0 < (measure_of p (mass_in xs) z m).denominator
  denominator_positive measure.Loss h v = (of_line p.line refl).0
  denominator_positive measure.Delay h v = (of_line p.line refl).1
  denominator_positive measure.Queue h v = (of_line p.line refl).2
  denominator_positive measure.Wait h v = (of_line p.line refl).3
  denominator_positive (measure.Workload n) h v = some_mass
  denominator_positive (measure.Dispatch n j) h v =
      omega (arith, mul-pos (mul-pos calls (service_total_positive p a)) shares)
  denominator_positive measure.Interdistrict h v = dispatched_all_positive p a xs z s
  denominator_positive (measure.InterdistrictUnit n) h v = dispatched_by_positive p a xs z s n h
  denominator_positive (measure.InterdistrictDistrict n) h v =
      dispatched_into_positive p a xs z s n (some_calls n v)
  denominator_positive measure.Travel h v = omega (arith, mul-pos (mul-pos calls calls) shares)
  denominator_positive (measure.TravelAtom j) h v = omega (arith, mul-pos calls shares)
  denominator_positive (measure.TravelUnit n) h v =
      omega (arith, mul-pos calls (dispatched_by_positive p a xs z s n h))
  denominator_positive (measure.TravelDistrict n) h v =
      omega (arith, mul-pos (mul-pos calls shares) (some_calls n v))
