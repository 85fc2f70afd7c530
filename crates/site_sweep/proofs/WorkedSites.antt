-- Units that are moved, and sites that are dropped, computed.
use Rattle.std.proofs.Common.{◌≡◌, ℕ, List, [], ◌∷◌, ◌++◌, true, false, refl}
use Rattle.std.specs.Prelude.{codes, map, Ok}
use Rattle.hyper_model.specs.Groups.{AtomList}
use Rattle.hyper_model.specs.declared.kinds.Line.TheVariants as line
use Rattle.hyper_model.specs.declared.kinds.Rule.{Rule}
use Rattle.hyper_model.specs.declared.kinds.Rule.TheVariants as rule
use Rattle.hyper_model.specs.declared.parts.PlanParts.{PlanParts}
use Rattle.hyper_model.specs.declared.values.Value.{Value}
use Rattle.site_sweep.specs.Finding.{unit_of}
use Rattle.site_sweep.specs.Placed.{placed}
use Rattle.site_sweep.specs.Sites.{sites_of}
use Rattle.site_sweep.specs.declared.site_list.Site.{Site}

-- two units A and B that both wait in P, of the two atoms P and Q, each the district of one
abbrev both_in_p : Rule → PlanParts
both_in_p r = record {
  line = line.Zero;
  rule = r;
  period = 3600;
  units = record { name = codes "A"; rate = 3 } ∷ record { name = codes "B"; rate = 3 } ∷ [];
  atoms =
      record { name = codes "P"; rate = 1; x = 0; y = 0; district = 0 }
      ∷ record { name = codes "Q"; rate = 1; x = 9; y = 0; district = 1 }
      ∷ [];
  lists = record {
    units = 2;
    rows = record { members = 0 ∷ 1 ∷ []; begins = true ∷ true ∷ [] }
        ∷ record { members = 1 ∷ 0 ∷ []; begins = true ∷ true ∷ [] }
        ∷ [];
  };
  located = record { rows = 2; cols = 2; cells = 1000 ∷ 0 ∷ 1000 ∷ 0 ∷ [] };
  travel = record { rows = 2; cols = 2; cells = 60 ∷ 300 ∷ 300 ∷ 60 ∷ [] };
}

members : PlanParts → List (List ℕ)
members p = map (λ (row : AtomList). row.members) p.lists.rows

-- with A in Q the thousandths of A are there, and those of B stay
a_in_q : (placed (both_in_p rule.Given) 0 1).located.cells ≡ 0 ∷ 1000 ∷ 1000 ∷ 0 ∷ []
unfolding placed
a_in_q = refl

-- given lists stay, and lists by distance are made anew
lists_that_stay : members (placed (both_in_p rule.Given) 0 1) ≡ (0 ∷ 1 ∷ []) ∷ (1 ∷ 0 ∷ []) ∷ []
unfolding placed members
lists_that_stay = refl

lists_anew : members (placed (both_in_p rule.Modified) 0 1) ≡ (1 ∷ 0 ∷ []) ∷ (0 ∷ 1 ∷ []) ∷ []
unfolding placed members
lists_anew = refl

value : ℕ → ℕ → Value
value lo hi = record { lo = lo; hi = hi }

site : ℕ → ℕ → ℕ → Site
site k lo hi = record { atom = k; lo = lo; hi = hi; kept = true }

-- a low end above another site's high end
one_dropped : sites_of (value 179999 180001 ∷ value 107999 108001 ∷ [])
    ≡ record (site 0 179999 180001) { kept = false } ∷ site 1 107999 108001 ∷ []
unfolding value site
one_dropped = refl

-- ends that touch are not apart
none_dropped : sites_of (value 5 7 ∷ value 3 5 ∷ []) ≡ site 0 5 7 ∷ site 1 3 5 ∷ []
unfolding value site
none_dropped = refl

second_unit : unit_of (both_in_p rule.Given) (codes "B") ≡ Ok 1
unfolding unit_of
second_unit = refl
