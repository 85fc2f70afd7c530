-- Words for reading in steps, each of which can refuse.
use Rattle.std.specs.Prelude.{◌≡◌, ◌⊎◌, List, [], ◌∷◌, ◌++◌, Option, Some, None, Result, Ok, Err}
use Rattle.std.specs.Option.{option_or}

infixl 10 ◌>>=◌
-- the next step, over what the step before it gave
abbrev pub ◌>>=◌ : {A B E : Type 0} → Result A E → (A → Result B E) → Result B E
(Ok x) >>= next = next x
(Err e) >>= next = Err e

-- the first refusal that the test gives of a thing and of those that stand before it
abbrev pub first_over : {A E : Type 0} → (List A → A → Option E) → List A → List A → Option E
first_over test before [] = None
first_over test before (x ∷ xs) = option_or (test before x) (first_over test (before ++ x ∷ []) xs)

-- the step that only refuses, or does not
abbrev pub unless_refused : {E : Type 0} → Option E → Result (Unit {0}) E
unless_refused None = Ok tt
unless_refused (Some e) = Err e

-- A call answers what is given, as `view` shows it, but can want memory instead.
abbrev pub Gives : {X Y E : Type 0} → E → (X → Y) → Result X E → Result Y E → Type 0
Gives memory view (Ok x) given = given ≡ Ok (view x)
Gives memory view (Err e) given = (e ≡ memory) ⊎ (given ≡ Err e)

-- A call refuses as this step does, but can want memory instead.
abbrev pub Checks : {X E : Type 0} → E → Result X E → Option E → Type 0
Checks memory (Ok x) refused = refused ≡ None
Checks memory (Err e) refused = (e ≡ memory) ⊎ (refused ≡ Some e)

-- A call that takes no memory refuses exactly as this step does.
abbrev pub Refuses : {X E : Type 0} → Result X E → Option E → Type 0
Refuses (Ok x) refused = refused ≡ None
Refuses (Err e) refused = refused ≡ Some e
