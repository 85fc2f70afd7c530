-- Endings with the text of a list that the method gives, and those of a refusal with its cause.
use Rattle.std.specs.Prelude.{◌≡◌, ℕ, List}
use Rattle.hypercube_cli.specs.declared.refusal.Refusal.{Refusal}
use Rattle.hypercube_cli.specs.Endings.{Ending, refused_ending}

-- the ending that such a list has
pub record IsEndingOfList {X : Type 0} (IsList : X → Type 0) (ending_of : X → Ending) (ending : Ending) : Type 0 where
  pub list : X
  pub exact : IsList list
  pub ends : ending ≡ ending_of list

-- the text of the one such list, of which this holds
pub record IsTextOfList {X : Type 0} (IsList : X → Type 0) (bytes_of : X → List ℕ) (Holds : X → Type 0) (text : List ℕ) : Type 0 where
  pub list : X
  pub exact : IsList list
  pub alone : (others : X) → IsList others → others ≡ list
  pub written : text ≡ bytes_of list
  pub holds : Holds list

-- the ending of a refusal that has a cause
pub record IsEndingOfRefusal {R : Type 0} (IsCause : R → Type 0) (refusal_of : R → Refusal) (ending : Ending) : Type 0 where
  pub refusal : R
  pub cause : IsCause refusal
  pub ends : ending ≡ refused_ending (refusal_of refusal)
