-- The timely plan is accepted, and has the plan's solutions and parts. No trip of it is longer than 1000 seconds.
use Rattle.std.proofs.Common.{◌∙◌, ℕ, zero, suc, ◌+◌, ◌*◌, ◌^◌, ◌<◌, ◌≤◌, ◌≡◌, Bool, true, false, cond, List, [], ◌∷◌, Some, get_or, map, refl, sym, subst, arith}
use Rattle.std.specs.Prelude.{Option, None, nat_le, slice_get}
use Rattle.std.specs.Option.{option_map}
use Rattle.std.proofs.lemmas.Option.{slice_get-map}
use Rattle.fixed_interval.specs.Ends.{Encloses}
use Rattle.hyper_model.specs.Grid.{Grid}
use Rattle.hyper_model.specs.declared.parts.PlanParts.{PlanParts}
use Rattle.hyper_model.specs.Plans.{atoms, service_of, all_service, split, travel, IsAccepted}
use Rattle.hyper_model.specs.Solutions.{IsSolution, mass_in}
use Rattle.hyper_model.specs.Measures.{base, queued_mass, taken_mass}
use Rattle.dispatch_fractions.specs.PartLists.{AreSizedFor, HasParts, PartList, help_of, taken_by, waiting_on}
use Rattle.travel_measures.specs.TravelEnds.{greatest_below, longest_mean, longest_to}
use Rattle.timely_reach.specs.declared.kinds.ReachMeasure.{ReachMeasure}
use Rattle.timely_reach.specs.declared.kinds.ReachMeasure.TheVariants as measure
use Rattle.timely_reach.specs.Reach.{IsReachInRange, has_no_calls}
use Rattle.timely_reach.specs.ReachRows.{AreReady}
use Rattle.timely_reach.specs.TimelyPlans.{timely_plan, timely_seconds, timely_table}
use Rattle.timely_reach.proofs.SameMasses.{same_base, same_queued}

thousand_at_most : (b : Bool) → cond b 1000 0 ≤ 1000
thousand_at_most true = omega arith
thousand_at_most false = omega arith

-- what none of some numbers exceeds the greatest does not exceed
greatest_le : (n : ℕ) (f : ℕ → ℕ) (most : ℕ) → ((i : ℕ) → i < n → f i ≤ most) → greatest_below n f ≤ most
greatest_le zero f most h = omega arith
greatest_le (suc n) f most h =
    let before = greatest_le n f most (λ i l. h i (omega arith)) in
    let last = h n (omega arith) in
    omega (arith, before, last)

-- what no item of a list exceeds no read of it exceeds
read_at_most : (limit : ℕ) (times : List ℕ) (i : ℕ) → get_or (map (timely_seconds limit) times) i 0 ≤ 1000
read_at_most limit [] i = omega arith
read_at_most limit (t ∷ times) zero = thousand_at_most (nat_le t limit)
read_at_most limit (t ∷ times) (suc i) = read_at_most limit times i

module _ (p : PlanParts) (limit : ℕ) where
  abbrev q : PlanParts
  q = timely_plan p limit

  short_trip : (k j : ℕ) → travel q k j ≤ 1000
  short_trip k j = read_at_most limit p.travel.cells (k * p.travel.cols + j)

  -- so no mean is longer, in thousandths
  pub short_mean : longest_mean q ≤ 1000000
  short_mean =
      let each = greatest_le (atoms p) (longest_to q) 1000
      (λ j h. greatest_le (atoms p) (λ k. travel q k j) 1000 (λ k l. short_trip k j)) in
      omega (arith, each)

  pub timely_accepted : IsAccepted p → IsAccepted q
  timely_accepted a = record {
    units = record { number = a.units.number; named = a.units.named; rates = a.units.rates; service = a.units.service };
    atoms = record { number = a.atoms.number; named = a.atoms.named; placed = a.atoms.placed; calls = a.atoms.calls };
    lists = record { one_each = a.lists.one_each; width = a.lists.width; grouped = a.lists.grouped };
    locations = record { rows = a.locations.rows; cols = a.locations.cols; whole = a.locations.whole };
    travel = record {
      rows = a.travel.rows;
      cols = a.travel.cols;
      within = λ k j l h. let short = short_trip k j in omega (arith, short);
    };
    period = a.period;
    stable = a.stable;
  }

  pub timely_parts : (xs : List ℕ) (z : ℕ) (parts : PartList) → HasParts p xs z parts → HasParts q xs z parts
  timely_parts xs z parts h = record {
    accepted = timely_accepted h.accepted;
    taken = λ n j l k.
        subst (λ b. Encloses (taken_by parts n j) (2 ^ 62 * taken_mass p (mass_in xs) n j) (split p * b))
        (sym (same_base p limit (mass_in xs) z)) (h.taken n j l k);
    waiting =
        subst (λ b. Encloses (waiting_on p.line parts.full) (2 ^ 62 * queued_mass q (mass_in xs) z) b)
        (sym (same_base p limit (mass_in xs) z))
        (subst (λ l. Encloses (waiting_on p.line parts.full) (2 ^ 62 * l) (base p (mass_in xs) z))
        (sym (same_queued p limit (mass_in xs) z)) h.waiting);
    help = λ n l.
        subst (λ b. Encloses (help_of parts n) (2 ^ 62 * queued_mass q (mass_in xs) z * service_of p n) (all_service p * b))
        (sym (same_base p limit (mass_in xs) z))
        (subst (λ m. Encloses (help_of parts n) (2 ^ 62 * m * service_of p n) (all_service p * base p (mass_in xs) z))
        (sym (same_queued p limit (mass_in xs) z)) (h.help n l));
  }

pub timely_sized : (p : PlanParts) (limit : ℕ) (parts : PartList) → AreSizedFor p parts → AreSizedFor (timely_plan p limit) parts
timely_sized p limit parts s = record { same_units = s.same_units; same_atoms = s.same_atoms }

-- the plan that is put together
pub timely_is : (p : PlanParts) (limit : ℕ) (parts : PlanParts) (table : Grid) (timely : PlanParts) → parts ≡ p
    → table ≡ timely_table limit parts.travel → timely ≡ record parts { travel = table } → timely ≡ timely_plan p limit
timely_is p limit parts table timely is_parts is_table is_timely = rw (is_timely, is_table, is_parts) refl

-- a share is of the timely plan's units and atoms if it is of the plan's, and has calls if it has them
pub timely_range : (p : PlanParts) (limit : ℕ) (m : ReachMeasure) → IsReachInRange p m → IsReachInRange (timely_plan p limit) m
timely_range p limit measure.Region h = h
timely_range p limit measure.All h = h
timely_range p limit measure.AtOnce h = h
timely_range p limit (measure.Atom j) h = h
timely_range p limit (measure.Unit n) h = h
timely_range p limit (measure.District n) h = h

pub timely_called : (p : PlanParts) (limit : ℕ) (m : ReachMeasure) → has_no_calls (timely_plan p limit) m ≡ has_no_calls p m
timely_called p limit measure.Region = refl
timely_called p limit measure.All = refl
timely_called p limit measure.AtOnce = refl
timely_called p limit (measure.Atom j) = refl
timely_called p limit (measure.Unit n) = refl
timely_called p limit (measure.District n) = refl

-- each of the timely plans is that of a limit
pub timely_at : (p : PlanParts) (parts : PartList) (timely : List PlanParts) → AreReady p parts timely → (k : ℕ) (t : PlanParts)
    → slice_get timely k ≡ Some t → (limit : ℕ) × (t ≡ timely_plan p limit)
timely_at p parts timely ready k t there =
    of_limit (slice_get ready.limits k)
    (sym (slice_get-map (timely_plan p) ready.limits k)
    ∙ subst (λ (plans : List PlanParts). slice_get plans k ≡ Some t) ready.timed there)
  where
    of_limit : (o : Option ℕ) → option_map (timely_plan p) o ≡ Some t → (limit : ℕ) × (t ≡ timely_plan p limit)
    of_limit None e = absurd (cc)
    of_limit (Some limit) e = (limit, cc)
