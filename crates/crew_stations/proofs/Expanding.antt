-- The plan with a unit for each crew: its units stand at the stations, and it is accepted if the plan of stations is.
use Rattle.std.proofs.Common.{◌≡◌, ℕ, suc, ◌+◌, ◌*◌, ◌/◌, ◌%◌, ◌<◌, ◌≤◌, cond, eqb, List, [], ◌∷◌, map, drop, slice_index, refl, sym, ap, subst, ◌∙◌, arith}
use Rattle.std.specs.Prelude.{All}
use Rattle.std.proofs.lemmas.List as lists
use Rattle.std.proofs.lemmas.List.{length-map}
use Rattle.std.proofs.lemmas.List.Elements.{All-head, All-tail}
use Rattle.std.proofs.lemmas.List.FromFn.{length-range_with_len, length-map-range_with_len, get_or-map-range_with_len}
use Rattle.std.proofs.Math.Nat.{add-mul-div_left, div-eq_of_lt, add-mul-mod_self_left, mod-eq_of_lt}
use Rattle.hyper_model.specs.Acceptance.{IsFullList}
use Rattle.hyper_model.specs.declared.parts.Atom.{Atom}
use Rattle.hyper_model.specs.declared.TheConstants.{MOST_RATE, MOST_ATOMS}
use Rattle.hyper_model.specs.declared.parts.PlanParts.{PlanParts}
use Rattle.hyper_model.specs.declared.parts.Unit as declared_unit
use Rattle.hyper_model.specs.Grid.{cell}
use Rattle.hyper_model.specs.Groups.{IsGrouped, AtomList, no_row, row_of, groups_from}
use Rattle.hyper_model.specs.Plans.{IsBetween, units, atoms, unit_at, atom_at, no_unit, no_atom, all_calls, all_service, district_of, groups_of, located, IsStable, IsAtomWithin, HasUnitsUpTo, HasAtoms, HasLists, HasLocations, IsAcceptedUpTo}
use Rattle.hyper_model.specs.Sums.{sum_below}
use Rattle.hyper_model.proofs.Grids.{place_within}
use Rattle.hyper_model.proofs.Grouping.{grouped_from, from_grouped}
use Rattle.hyper_model.proofs.PlanLaws.{has_solution}
use Rattle.hyper_model.proofs.Sums.{sum-same}
use Rattle.hyper_model.proofs.TravelTimes.{sum_grows}
use Rattle.crew_stations.specs.Expanded.{first_crew, station_of, crews_of, crew, crew_atom, joined, beginnings, list_of_groups, crew_groups, crew_lists, grid_of, expanded}
use Rattle.crew_stations.specs.FleetLaws.{HoldsForFleets, HoldsOfCrews, IsExpandedAccepted, IsExpandedStationed, IsExpandedSolvable}
use Rattle.crew_stations.specs.Laws.{HoldsAtStations}
use Rattle.crew_stations.specs.Standing.{IsStationed, IsCrewGroup, AreCrewGroups}
use Rattle.crew_stations.specs.Stations.{StationPlan, stations, crews_at, all_crews, order_of, IsAcceptedFleet}
use Rattle.crew_stations.proofs.Blocks.{in_range, count_in_range, range_below, station_block, station_is, within_block, block_count}
use Rattle.crew_stations.proofs.CrewLists.{groups_kept, joined_all, each_filled, each_within, count_joined}
use Rattle.crew_stations.proofs.Parts.{same_calls, same_service}

-- the cell of a table that is made cell by cell
module _ (rows cols : ℕ) (value : ℕ → ℕ → ℕ) where
  row_is : (r c : ℕ) → c < cols → (r * cols + c) / cols ≡ r
  row_is r c h =
      ap (λ a. a / cols) (let e : r * cols + c ≡ c + cols * r = omega arith in e)
      ∙ add-mul-div_left c r (omega (arith, h))
      ∙ ap (λ a. a + r) (div-eq_of_lt h)
      ∙ omega arith

  col_is : (r c : ℕ) → c < cols → (r * cols + c) % cols ≡ c
  col_is r c h =
      ap (λ a. a % cols) (let e : r * cols + c ≡ c + cols * r = omega arith in e)
      ∙ add-mul-mod_self_left c cols r
      ∙ mod-eq_of_lt h

  pub cell_is : (r c : ℕ) → r < rows → c < cols → cell (grid_of rows cols value) r c ≡ value r c
  cell_is r c l h =
      get_or-map-range_with_len (λ i. value (i / cols) (i % cols)) 0 (rows * cols) (r * cols + c) (r * cols + c) 0
      (place_within rows cols r c l h) (omega arith)
      ∙ ap (λ i. value i ((r * cols + c) % cols)) (row_is r c h)
      ∙ ap (λ i. value r i) (col_is r c h)

module _ {most : ℕ} (s : StationPlan) (a : IsAcceptedFleet most s) where
  pub units_are : units (expanded s) ≡ all_crews s
  units_are = length-map-range_with_len (crew s) 0 (all_crews s)

  atoms_are : atoms (expanded s) ≡ atoms s.parts
  atoms_are = length-map s.parts.atoms (crew_atom s)

  unit_is : (n : ℕ) → n < all_crews s → unit_at (expanded s) n ≡ crew s n
  unit_is n l = get_or-map-range_with_len (crew s) 0 (all_crews s) n n no_unit l (omega arith)

  atom_is : (j : ℕ) → j < atoms s.parts → atom_at (expanded s) j ≡ crew_atom s (atom_at s.parts j)
  atom_is j l = lists.get_or-map (crew_atom s) s.parts.atoms j no_atom no_atom l

  some_station : (n : ℕ) → n < all_crews s → station_of s n < stations s
  some_station n l = (station_block (crews_at s) (stations s) n l).0

  -- the last crew of a station is one of all
  block_inside : (k : ℕ) → k < stations s → first_crew s k + crews_at s k ≤ all_crews s
  block_inside k l = sum_grows (suc k) (stations s) (crews_at s) (omega (arith, l))

  order_full : (j : ℕ) → j < atoms s.parts → IsFullList (stations s) (order_of s j)
  order_full j l =
      from_grouped (stations s) (order_of s j) (drop 1 (row_of s.parts.lists j).begins) (a.lists.grouped j l)

  -- the list of an atom is that of its stations' crews
  row_is_of_groups : (j : ℕ) → j < atoms s.parts → row_of (crew_lists s) j ≡ list_of_groups (crew_groups s j)
  row_is_of_groups j l =
      get_or-map-range_with_len (λ i. list_of_groups (crew_groups s i)) 0 (atoms s.parts) j j no_row l (omega arith)

  groups_are : (j : ℕ) → j < atoms s.parts → groups_of (expanded s) j ≡ crew_groups s j
  groups_are j l =
      ap (λ (row : AtomList). groups_from row.members (drop 1 row.begins)) (row_is_of_groups j l)
      ∙ groups_kept (crew_groups s j) (each_filled (crews_of s) (stations s) (order_of s j) (order_full j l).within
      (λ k h. omega (arith, a.some k h, length-range_with_len (first_crew s k) (crews_at s k))))

  crew_group : (k : ℕ) → k < stations s → IsCrewGroup (units (expanded s)) (station_of s) k (crews_of s k)
  crew_group k l = record {
    within = range_below (first_crew s k) (crews_at s k) (units (expanded s)) (omega (arith, block_inside k l, units_are));
    members = λ n h.
        in_range (first_crew s k) (crews_at s k) n
        ∙ within_block (crews_at s) (stations s) k n l (omega (arith, h, units_are));
  }

  crew_groups_are : (order : List ℕ) → All (λ k. k < stations s) order
      → AreCrewGroups (units (expanded s)) (station_of s) (stations s) order (map (crews_of s) order)
  crew_groups_are [] h = tt
  crew_groups_are (k ∷ order) h =
      let l = All-head (λ i. i < stations s) k order h in
      (l, crew_group k l, crew_groups_are order (All-tail (λ i. i < stations s) k order h))

  district_below : (j : ℕ) → j < atoms s.parts → district_of s.parts j < stations s
  district_below j l = (a.atoms.placed j l).district

  pub stationed : IsStationed (expanded s) s (station_of s)
  stationed = record {
    inside = λ n l. some_station n (omega (arith, l, units_are));
    crews = λ k l.
        subst (λ count. sum_below count (λ n. cond (eqb (station_of s n) k) 1 0) ≡ crews_at s k) (sym units_are)
        (block_count (crews_at s) (stations s) k l);
    service = λ n l. ap (λ (u : declared_unit.Unit). u.rate) (unit_is n (omega (arith, l, units_are)));
    same_atoms = atoms_are;
    calls = λ j l. ap (λ (at : Atom). at.rate) (atom_is j (omega (arith, l, atoms_are)));
    districts = λ j l.
        let h : j < atoms s.parts = omega (arith, l, atoms_are) in
        ap (λ (at : Atom). station_of s at.district) (atom_is j h)
        ∙ station_is (crews_at s) (stations s) (district_of s.parts j) (first_crew s (district_of s.parts j))
        (district_below j h)
        (record { first = omega arith; last = omega (arith, a.some (district_of s.parts j) (district_below j h)) });
    groups = λ j l.
        let h : j < atoms s.parts = omega (arith, l, atoms_are) in
        subst (λ groups. AreCrewGroups (units (expanded s)) (station_of s) (stations s) (order_of s j) groups)
        (sym (groups_are j h)) (crew_groups_are (order_of s j) (order_full j h).within);
    columns = refl;
    located = λ n k l h.
        cell_is (all_crews s) s.parts.located.cols (λ i c. located s.parts (station_of s i) c) n k
        (omega (arith, l, units_are)) (omega (arith, h, atoms_are, a.locations.cols));
    travel = refl;
    line = refl;
    period = refl;
  }

  has_units : HasUnitsUpTo most (expanded s)
  has_units = record {
    number = subst (λ n. IsBetween 1 most n) (sym units_are) a.number;
    named = λ n m l h e.
        ap (λ (name : List ℕ). slice_index name 0)
        (sym (ap (λ (u : declared_unit.Unit). u.name) (unit_is n (omega (arith, l, units_are)))) ∙ e
        ∙ ap (λ (u : declared_unit.Unit). u.name) (unit_is m (omega (arith, h, units_are))));
    rates = λ n l.
        subst (λ r. IsBetween 1 MOST_RATE r) (sym (stationed.service n l))
        (a.rates (station_of s n) (stationed.inside n l));
    service = omega (arith, same_service (expanded s) s (station_of s) stationed, a.service);
  }

  has_atoms : HasAtoms (expanded s)
  has_atoms = record {
    number = subst (λ n. IsBetween 1 MOST_ATOMS n) (sym atoms_are) a.atoms.number;
    named = λ i j l h e.
        a.atoms.named i j (omega (arith, l, atoms_are)) (omega (arith, h, atoms_are))
        (sym (ap (λ (at : Atom). at.name) (atom_is i (omega (arith, l, atoms_are)))) ∙ e
        ∙ ap (λ (at : Atom). at.name) (atom_is j (omega (arith, h, atoms_are))));
    placed = λ j l.
        let h : j < atoms s.parts = omega (arith, l, atoms_are) in
        let at = a.atoms.placed j h in
        subst (λ (atom : Atom). IsAtomWithin (units (expanded s)) atom) (sym (atom_is j h))
        (record {
          rate = at.rate;
          x = at.x;
          y = at.y;
          district = omega (
            arith,
            block_inside (district_of s.parts j) (district_below j h),
            a.some (district_of s.parts j) (district_below j h),
            units_are,
          );
        });
    calls = subst (λ c. IsBetween 1 MOST_RATE c) (sym (same_calls (expanded s) s (station_of s) stationed)) a.atoms.calls;
  }

  full_list : (j : ℕ) → j < atoms s.parts → IsFullList (all_crews s) (joined (crew_groups s j))
  full_list j l = record {
    within = joined_all (λ n. n < all_crews s) (crew_groups s j)
        (each_within (crews_of s) (stations s) (λ n. n < all_crews s) (order_of s j) (order_full j l).within
        (λ k h. range_below (first_crew s k) (crews_at s k) (all_crews s) (block_inside k h)));
    once = λ n h.
        count_joined (crews_of s) (stations s) n (station_of s n) (order_of s j) (order_full j l).within
        (λ k g. count_in_range (first_crew s k) (crews_at s k) n
        ∙ ap {B = ℕ} (λ c. cond c 1 0) (within_block (crews_at s) (stations s) k n g h))
        ∙ (order_full j l).once (station_of s n) (some_station n h);
  }

  has_lists : HasLists (expanded s)
  has_lists = record {
    one_each =
        length-map-range_with_len (λ j. list_of_groups (crew_groups s j)) 0 (atoms s.parts) ∙ sym atoms_are;
    width = sym units_are;
    grouped = λ j l.
        let h : j < atoms s.parts = omega (arith, l, atoms_are) in
        subst (λ n. IsGrouped n (groups_of (expanded s) j)) (sym units_are)
        (subst (λ (row : AtomList). IsGrouped (all_crews s) (groups_from row.members (drop 1 row.begins)))
        (sym (row_is_of_groups j h))
        (grouped_from (all_crews s) (joined (crew_groups s j)) (drop 1 (beginnings (crew_groups s j))) (full_list j h)));
  }

  has_locations : HasLocations (expanded s)
  has_locations = record {
    rows = sym units_are;
    cols = a.locations.cols ∙ sym atoms_are;
    whole = λ n l.
        sum-same (atoms (expanded s)) (located (expanded s) n) (located s.parts (station_of s n))
        (λ k h. stationed.located n k l h)
        ∙ ap (λ count. sum_below count (located s.parts (station_of s n))) atoms_are
        ∙ a.locations.whole (station_of s n) (stationed.inside n l);
  }

  pub accepted : IsAcceptedUpTo most (expanded s)
  accepted = record {
    units = has_units;
    atoms = has_atoms;
    lists = has_lists;
    locations = has_locations;
    travel = record {
      rows = a.travel.rows ∙ sym atoms_are;
      cols = a.travel.cols ∙ sym atoms_are;
      within = λ k j l h. a.travel.within k j (omega (arith, l, atoms_are)) (omega (arith, h, atoms_are));
    };
    period = a.period;
    stable =
        subst (λ c. IsStable s.parts.line c (all_service (expanded s)))
        (sym (same_calls (expanded s) s (station_of s) stationed))
        (subst (λ c. IsStable s.parts.line (all_calls s.parts) c)
        (sym (same_service (expanded s) s (station_of s) stationed)) a.stable);
  }

pub expanded_stationed : HoldsForFleets IsExpandedStationed
expanded_stationed most s a = stationed s a

pub expanded_accepted : HoldsForFleets IsExpandedAccepted
expanded_accepted most s a = accepted s a

pub expanded_solvable : HoldsForFleets IsExpandedSolvable
expanded_solvable most s a = has_solution (expanded s) (accepted s a)

-- what holds of plans whose units stand at stations holds of this one
pub of_crews : (law : PlanParts → StationPlan → (ℕ → ℕ) → (ℕ → ℕ) → ℕ → Type 0) → HoldsAtStations law → HoldsOfCrews law
of_crews law holds most s a xs z e = holds most (expanded s) s (station_of s) (accepted s a) (stationed s a) xs z e
