-- The parts of a plan's weights from which its dispatches and travel times are made: of each unit and atom the
-- part of the atom's answered calls that the unit takes at once, the part of the states in which all units are
-- busy, and of each unit the part of the calls that wait and are its.
use Rattle.std.specs.Prelude.{◌≡◌, ℕ, ◌+◌, ◌*◌, ◌^◌, ◌<◌, List, map}
use Rattle.std.specs.List.{flat_map, range_with_len}
use Rattle.fixed_interval.specs.Ends.{Ends, Encloses, exact_ends, ratio_ends}
use Rattle.fixed_interval.specs.WeightList.{ends_at}
use Rattle.hyper_model.specs.declared.kinds.Line.{Line}
use Rattle.hyper_model.specs.declared.kinds.Line.TheVariants as line
use Rattle.hyper_model.specs.declared.parts.PlanParts.{PlanParts}
use Rattle.hyper_model.specs.Plans.{units, atoms, service_of, all_service, split, IsAccepted}
use Rattle.hyper_model.specs.Solutions.{mass_in}
use Rattle.hyper_model.specs.Measures.{queued_mass, base, taken_mass}
use Rattle.busy_words.specs.Order.{WordOrder}
use Rattle.busy_words.specs.WeightParts.{full_part, taken_part}

-- what contracts see of parts: those that are taken at once unit by unit, and per unit in the order of the atoms
pub record PartList : Type 0 where
  pub units : ℕ
  pub atoms : ℕ
  pub taken : List Ends
  pub full : Ends
  pub help : List Ends

-- the part of atom j's answered calls that unit n takes at once
abbrev pub taken_by : PartList → ℕ → ℕ → Ends
taken_by parts n j = ends_at parts.taken (n * parts.atoms + j)

-- the part of all answered calls that wait and are then unit n's
abbrev pub help_of : PartList → ℕ → Ends
help_of parts n = ends_at parts.help n

-- the part of the answered calls that wait: while all units are busy, calls wait on the infinite line only
abbrev pub waiting_on : Line → Ends → Ends
waiting_on line.Zero full = exact_ends 0
waiting_on line.Infinite full = full

-- of the calls that wait, unit n takes the part that its service is of all service
abbrev pub help_from : PlanParts → Ends → ℕ → Ends
help_from p full n = ratio_ends (waiting_on p.line full) (service_of p n) (all_service p)

-- the parts of all atoms' calls that unit n takes at once, of these weights
abbrev pub taken_row : PlanParts → WordOrder → (ℕ → Ends) → ℕ → List Ends
taken_row p order w n = map (taken_part p order w n) (range_with_len 0 (atoms p))

-- all parts of these weights
abbrev pub parts_from : PlanParts → WordOrder → (ℕ → Ends) → PartList
parts_from p order w = record {
  units = units p;
  atoms = atoms p;
  taken = flat_map (taken_row p order w) (range_with_len 0 (units p));
  full = full_part p w;
  help = map (help_from p (full_part p w)) (range_with_len 0 (units p));
}

-- the parts are those of a plan's units and atoms
pub record AreSizedFor (p : PlanParts) (parts : PartList) : Type 0 where
  pub same_units : parts.units ≡ units p
  pub same_atoms : parts.atoms ≡ atoms p

-- the parts are those of these weights, in this order of the words
pub record ArePartsOf (p : PlanParts) (order : WordOrder) (w : ℕ → Ends) (parts : PartList) : Type 0 where
  pub sized : AreSizedFor p parts
  pub full : parts.full ≡ full_part p w
  pub taken : (n j : ℕ) → n < units p → j < atoms p → taken_by parts n j ≡ taken_part p order w n j
  pub help : (n : ℕ) → n < units p → help_of parts n ≡ help_from p (full_part p w) n

-- The plan is accepted, and each of the parts contains what it stands for, as a part of 2 ^ 62, for these masses of the
-- words and of the calls that wait: those of a solution, or others.
pub record HasParts (p : PlanParts) (xs : List ℕ) (z : ℕ) (parts : PartList) : Type 0 where
  pub accepted : IsAccepted p
  pub taken : (n j : ℕ) → n < units p → j < atoms p
      → Encloses (taken_by parts n j) (2 ^ 62 * taken_mass p (mass_in xs) n j) (split p * base p (mass_in xs) z)
  pub waiting : Encloses (waiting_on p.line parts.full) (2 ^ 62 * queued_mass p (mass_in xs) z) (base p (mass_in xs) z)
  pub help : (n : ℕ) → n < units p
      → Encloses (help_of parts n) (2 ^ 62 * queued_mass p (mass_in xs) z * service_of p n)
      (all_service p * base p (mass_in xs) z)
