-- The sites of a unit: the ends of a measure with the unit at each atom, and which of them are kept.
use Rattle.std.specs.Prelude.{◌≡◌, ℕ, Bool, not, nat_lt, List, ◌++◌, length, map, slice_index_or, count_by}
use Rattle.std.specs.List.{AllZip, list_any, range_with_len}
use Rattle.hyper_model.specs.Plans.{atoms}
use Rattle.hyper_model.specs.Values.{value_in, zero_value}
use Rattle.hyper_model.specs.declared.kinds.Enclosed.{Enclosed}
use Rattle.hyper_model.specs.declared.kinds.Measure.{Measure}
use Rattle.hyper_model.specs.declared.parts.PlanParts.{PlanParts}
use Rattle.hyper_model.specs.declared.values.Value.{Value}
use Rattle.plan_solver.specs.Enclosures.{IsEnclosureOf}
use Rattle.site_sweep.specs.Placed.{placed}
use Rattle.site_sweep.specs.declared.site_list.Site.{Site}

-- the plans with unit n at so many atoms, from the first of them on
abbrev pub placed_from : PlanParts → ℕ → ℕ → ℕ → List PlanParts
placed_from p n first count = map (placed p n) (range_with_len first count)

-- at each atom
abbrev pub placed_plans : PlanParts → ℕ → List PlanParts
placed_plans p n = placed_from p n 0 (atoms p)

-- the ends of a measure in a plan, as the list of its measures with the ends of the method has them
pub record IsValueOf (m : Measure) (p : PlanParts) (value : Value) : Type 0 where
  pub items : List Enclosed
  pub enclosed : IsEnclosureOf p items
  pub exact : value ≡ value_in m items

-- in each plan
abbrev pub AreValuesOf : Measure → List PlanParts → List Value → Type 0
AreValuesOf m plans values = AllZip (IsValueOf m) plans values

-- after these values stand those of more plans
pub record GainsValues (m : Measure) (plans : List PlanParts) (before after : List Value) : Type 0 where
  pub more : List Value
  pub enclosed : AreValuesOf m plans more
  pub gained : after ≡ before ++ more

-- whether some high end lies below the low end of this value
abbrev pub is_beaten : List Value → Value → Bool
is_beaten values value = list_any (λ other. nat_lt other.hi value.lo) values

abbrev pub value_at : List Value → ℕ → Value
value_at values k = slice_index_or values k zero_value

-- the site at atom k, which is dropped if it is beaten
abbrev pub site_at : List Value → ℕ → Site
site_at values k = record {
  atom = k;
  lo = (value_at values k).lo;
  hi = (value_at values k).hi;
  kept = not (is_beaten values (value_at values k));
}

abbrev pub sites_of : List Value → List Site
sites_of values = map (site_at values) (range_with_len 0 (length values))

-- the sites of unit n by a measure
pub record AreSitesOf (p : PlanParts) (n : ℕ) (m : Measure) (sites : List Site) : Type 0 where
  pub values : List Value
  pub enclosed : AreValuesOf m (placed_plans p n) values
  pub exact : sites ≡ sites_of values

abbrev pub number_dropped : List Site → ℕ
number_dropped sites = count_by (λ s. not s.kept) sites
