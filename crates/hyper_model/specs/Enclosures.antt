-- what contracts see of a list of measures with their ends
use Rattle.std.specs.Prelude.{ℕ, ◌≤◌, List}
use Rattle.hyper_model.specs.declared.kinds.Found.{Found}
use Rattle.hyper_model.specs.declared.kinds.Found.TheVariants as found
use Rattle.hyper_model.specs.declared.kinds.Enclosed.{Enclosed}

pub record EnclosureList : Type 0 where
  pub items : List Enclosed
  pub spare : ℕ

-- a low end is at most its high end
abbrev pub IsOrderedFound : Found → Type 0
IsOrderedFound (found.Ends lo hi) = lo ≤ hi
IsOrderedFound found.Without = Prim.Unit {0}

abbrev pub IsOrderedEnclosed : Enclosed → Type 0
IsOrderedEnclosed e = IsOrderedFound e.found
