-- The fleet that records give is within its limits.
use Rattle.std.proofs.Common.{◌≡◌, ℕ, ◌<◌, ◌≤◌, true, false, List, refl, arith}
use Rattle.std.specs.Prelude.{Bool, if◌then◌else◌, nat_lt, All, Option, Some, None, Ok}
use Rattle.std.specs.Option.{option_map}
use Rattle.std.proofs.lemmas.Bool.Decides.{nat_tests}
use Rattle.hyper_model.specs.Plans.{IsStable, all_calls}
use Rattle.hyper_model.specs.declared.TheConstants.{MOST_RATE}
use Rattle.hyper_model.specs.declared.parts.PlanParts.{PlanParts}
use Rattle.hyper_model.proofs.Sums.{place_le_sum}
use Rattle.plan_text.specs.Form.{IsInForm}
use Rattle.plan_text.specs.declared.kind.AddedKind.TheVariants as added
use Rattle.plan_text.specs.declared.record.Record.{Record}
use Rattle.plan_text.proofs.NoGroups.{IsUngrouped}
use Rattle.crew_stations.specs.Fleets.{IsFleet}
use Rattle.crew_stations.specs.Stations.{StationPlan, all_crews, crews_at, fleet_service, states, stations}
use Rattle.crew_stations.specs.declared.TheConstants.{MOST_CREWS, MOST_STATES}
use Rattle.plan_reader.specs.PlanOf.{AreWholeParts, parts_given, stable_refusal}
use Rattle.plan_reader.specs.declared.refusal.PlanRefusal.{PlanRefusal}
use Rattle.plan_reader.proofs.AcceptedPlan.{is_stable}
use Rattle.plan_reader.proofs.SingleParts.{parts_given-single}
use Rattle.plan_reader.specs.FleetOf.{with_crews}
use Rattle.plan_reader.specs.FleetLimits.{limits_refusal}
use Rattle.plan_reader.specs.FleetRefusals.{of_plan}
use Rattle.plan_reader.specs.declared.fleet_refusal.FleetRefusal.{FleetRefusal}
use Rattle.plan_reader.specs.declared.fleet_refusal.FleetRefusal.TheVariants.{CrewService, TooManyCrews, TooManyStates}
use Rattle.plan_reader.proofs.CrewCounts.{crews_at-some, one_each}

-- a number that is not refused is not above its limit, and the tests after it refuse nothing
within : (most value : ℕ) (e : FleetRefusal) (rest : Option FleetRefusal)
    → (if nat_lt most value then Some e else rest) ≡ None → (value ≤ most) × (rest ≡ None)
within most value e rest h = by (nat_lt most value) refl h
  where
    by : (test : Bool) → nat_lt most value ≡ test → (if test then Some e else rest) ≡ None → (value ≤ most) × (rest ≡ None)
    by true t q = absurd (cc)
    by false t q = (grind (arith, nat_tests, t), q)

none_inside : (o : Option PlanRefusal) → option_map of_plan o ≡ None → o ≡ None
none_inside None h = refl
none_inside (Some e) h = absurd (cc)

-- what a fleet has in all
pub record IsLimited (s : StationPlan) : Type 0 where
  pub crews : all_crews s ≤ MOST_CREWS
  pub few_states : states s ≤ MOST_STATES
  pub service : fleet_service s ≤ MOST_RATE
  pub stable : IsStable s.parts.line (all_calls s.parts) (fleet_service s)

pub is_limited : (s : StationPlan) → limits_refusal s ≡ None → IsLimited s
is_limited s h =
    let one = within MOST_CREWS (all_crews s) (TooManyCrews (all_crews s)) _ h in
    let two = within MOST_STATES (states s) (TooManyStates (states s)) _ one.1 in
    let three = within MOST_RATE (fleet_service s) (CrewService (fleet_service s)) _ two.1 in
    let last = none_inside (stable_refusal s.parts.line (all_calls s.parts) (fleet_service s)) three.1 in
    record {
      crews = one.0;
      few_states = two.0;
      service = three.0;
      stable = is_stable s.parts.line (all_calls s.parts) (fleet_service s) last;
    }

pub is_fleet : (records : List Record) (parts : PlanParts) → IsInForm records → All IsUngrouped records → AreWholeParts parts
    → parts_given added.Crews records ≡ Ok parts → limits_refusal (with_crews parts records) ≡ None → IsFleet (with_crews parts records)
is_fleet records parts form plain whole given passed =
    let s : StationPlan = with_crews parts records in
    let limited = is_limited s passed in
    let some : (k : ℕ) → k < stations s → 0 < crews_at s k = λ k lt. crews_at-some parts.units records k form.values lt in
    let first : 0 < stations s = omega (arith, whole.units.number.low) in
    record {
      accepted = record {
        one_each = one_each parts.units records;
        some = some;
        number = record {
          low = omega (arith, place_le_sum (stations s) (crews_at s) 0 first, some 0 first);
          high = limited.crews;
        };
        named = whole.units.named;
        rates = whole.units.rates;
        service = limited.service;
        single = parts_given-single added.Crews records parts plain given;
        atoms = whole.atoms;
        lists = whole.lists;
        locations = whole.locations;
        travel = whole.travel;
        period = whole.period;
        stable = limited.stable;
      };
      few_stations = whole.units.number.high;
      few_states = limited.few_states;
    }
