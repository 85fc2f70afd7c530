-- Three states: two calls an hour lead from the first to the second, and one each from the second to the first and to the
-- third, and from the third to the first. By hand: all masses are equal.
use Rattle.std.proofs.Common.{◌≡◌, ◌≢◌, ℕ, ◌<◌, ◌≤◌, List, [], ◌∷◌, refl, arith}
use Rattle.std.specs.Prelude.{slice_index, slice_index_or}
use Rattle.hyper_model.specs.Solutions.{mass_in}
use Rattle.hyper_model.specs.Tables.{RateTable, SolvesTable}
use Rattle.hyper_model.proofs.Worked.{each_below}
use Rattle.state_certificate.specs.Certificates.{BoundSolutions, IsCertificate, IsDrainedState}
use Rattle.state_certificate.proofs.MaximumPrinciple.{certificates_bound}

abbrev ring : RateTable
ring i j =
    slice_index (slice_index_or ((0 ∷ 2 ∷ 0 ∷ []) ∷ (1 ∷ 0 ∷ 1 ∷ []) ∷ (1 ∷ 0 ∷ 0 ∷ []) ∷ []) i []) j

ring_solution : SolvesTable 3 ring (mass_in (1 ∷ 1 ∷ 1 ∷ []))
ring_solution = record { positive = omega arith; balanced = each_below 3 _ (((tt, refl), refl), refl) }

-- 10, then 9 to 11, then 9 to 12: at the second state 18 flow out of 20 that flow in, and 22 if 20 flow in; at the third
-- 9 of 9, and 12 if 11 flow in
ring_certificate : IsCertificate 3 ring 0 (mass_in (10 ∷ 9 ∷ 9 ∷ [])) (mass_in (10 ∷ 11 ∷ 12 ∷ []))
ring_certificate = record {
  inside = omega arith;
  ordered = omega arith;
  positive = omega arith;
  below = each_below 3 _ (((tt, λ ne. absurd (ne refl)), λ ne. omega arith), λ ne. omega arith);
  above = each_below 3 _ (((tt, λ ne. absurd (ne refl)), λ ne. omega arith), λ ne. omega arith);
}

ring_bound : BoundSolutions 3 ring (mass_in (10 ∷ 9 ∷ 9 ∷ [])) (mass_in (10 ∷ 11 ∷ 12 ∷ []))
ring_bound = certificates_bound 3 ring (mass_in (10 ∷ 9 ∷ 9 ∷ [])) (mass_in (10 ∷ 11 ∷ 12 ∷ []))
    (record { reference = 0; holds = ring_certificate })

-- 11 at the third state is too little: as much flows in as out
ring_too_low : IsDrainedState 3 ring (mass_in (10 ∷ 11 ∷ 11 ∷ [])) 2 → ⊥
ring_too_low h = omega (arith, h)

-- a state with no rates balances with any mass, so none bounds it: that is why more must flow out of it than into it
no_rates : (y : ℕ → ℕ) → IsDrainedState 2 (λ i j. 0) y 1 → ⊥
no_rates y h = omega (arith, h)
