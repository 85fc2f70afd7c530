-- A plan with a unit wholly at an atom is accepted, as the plan was.
use Rattle.std.proofs.Common.{◌≡◌, ◌≢◌, ◌∙◌, ℕ, ◌<◌, inl, inr, List, length, refl, sym, ap, subst, arith}
use Rattle.std.specs.Prelude.{◌==◌, if◌then◌else◌}
use Rattle.std.proofs.lemmas.Bool.{cases_eq}
use Rattle.hyper_model.specs.Grid.{Grid}
use Rattle.hyper_model.specs.Groups.{GroupLists}
use Rattle.hyper_model.specs.Plans.{HasAtoms, HasLists, HasLocations, HasTravel, HasUnits, IsAccepted, atoms, located, units}
use Rattle.hyper_model.specs.Sums.{sum_below}
use Rattle.hyper_model.specs.declared.TheConstants.{WHOLE_TIME}
use Rattle.hyper_model.specs.declared.kinds.Rule.{Rule}
use Rattle.hyper_model.specs.declared.kinds.Rule.TheVariants as rule
use Rattle.hyper_model.specs.declared.parts.PlanParts.{PlanParts}
use Rattle.hyper_model.proofs.Sums.{sum-at, sum-same}
use Rattle.preference_rules.proofs.AcceptedLists.{are_lists}
use Rattle.site_sweep.specs.Placed.{lists_by, located_wholly, placed, thousandths}
use Rattle.site_sweep.proofs.PlacedTables.{grid_cell, other_cell, own_cell}

-- the parts of the placed plan
pub placed_is : (p : PlanParts) (n k u a : ℕ) (parts : PlanParts) (table : Grid) (lists : GroupLists) (moved : PlanParts) → u ≡ n → a ≡ k
    → parts ≡ p → table ≡ located_wholly parts.located u a → lists ≡ lists_by parts.rule parts table
    → moved ≡ record parts { lists = lists; located = table } → moved ≡ placed p n k
unfolding placed
placed_is p n k u a parts table lists moved is_u is_a is_parts is_table is_lists is_moved =
    rw (is_moved, is_lists, is_table, is_parts, is_u, is_a) refl

pub located_is : (p : PlanParts) → IsAccepted p → (n k m j : ℕ) → m < units p → j < atoms p
    → located (placed p n k) m j ≡ thousandths p.located n k m j
unfolding placed
located_is p a n k m j h g =
    grid_cell p.located.rows p.located.cols (thousandths p.located n k) m j (omega (arith, a.locations.rows))
    (omega (arith, a.locations.cols))

module _ (p : PlanParts) (a : IsAccepted p) (n k : ℕ) (in_units : n < units p) (in_atoms : k < atoms p) where
  whole : (m : ℕ) → m < units p → sum_below (atoms p) (thousandths p.located n k m) ≡ WHOLE_TIME
  whole m h = elim (cases_eq m n) [
    | inl e ↦ rw e
        (sum-same (atoms p) (thousandths p.located n k n) (λ j. if j == k then WHOLE_TIME else 0) (λ j l. own_cell p.located n k j)
        ∙ sum-at (atoms p) (λ j. WHOLE_TIME) k in_atoms)
    | inr ne ↦
        sum-same (atoms p) (thousandths p.located n k m) (located p m) (λ j l. other_cell p.located n k m j ne)
        ∙ a.locations.whole m h
  ]

  with_lists : (r : Rule) → HasLists (record p { located = located_wholly p.located n k; lists = lists_by r p (located_wholly p.located n k) })
  with_lists rule.Given = record { one_each = a.lists.one_each; width = a.lists.width; grouped = a.lists.grouped }
  with_lists rule.Strict = are_lists rule.Strict (located_wholly p.located n k) _ refl
  with_lists rule.Modified = are_lists rule.Modified (located_wholly p.located n k) _ refl

  pub placed_accepted : IsAccepted (placed p n k)
  unfolding placed
  placed_accepted = record {
    units = record { number = a.units.number; named = a.units.named; rates = a.units.rates; service = a.units.service };
    atoms = record { number = a.atoms.number; named = a.atoms.named; placed = a.atoms.placed; calls = a.atoms.calls };
    lists = with_lists p.rule;
    locations = record {
      rows = a.locations.rows;
      cols = a.locations.cols;
      whole = λ m h. sum-same (atoms p) _ (thousandths p.located n k m) (λ j l. located_is p a n k m j h l) ∙ whole m h;
    };
    travel = record { rows = a.travel.rows; cols = a.travel.cols; within = a.travel.within };
    period = a.period;
    stable = a.stable;
  }
