-- What the names of a study's plans give, by what was read of the first of them.
use Rattle.std.proofs.Common.{◌≡◌, ℕ, suc, ◌+◌, ◌<◌, ◌≤◌, List, [], ◌∷◌, ◌++◌, length, drop, get_or, refl, ap, ◌∙◌, sym, append_assoc, append-nil, arith}
use Rattle.std.specs.Prelude.{Option, Some, None, Result, Ok, Err, IfSome}
use Rattle.std.proofs.Math.ListN.{drop_of_length-le}
use Rattle.std.proofs.Math.Seq.{drop-cons}
use Rattle.hyper_model.specs.declared.parts.PlanParts.{PlanParts}
use Rattle.outer_world.specs.declared.named_text.NamedText.{NamedText}
use Rattle.plan_text.specs.Steps.{◌>>=◌}
use Rattle.hypercube_cli.specs.Readings.{plan_at}
use Rattle.hypercube_cli.specs.Tasks.Comparisons.{plans_from}
use Rattle.hypercube_cli.specs.Endings.{Ending}

-- the plans that were read, and what the names after them give
pub after : List PlanParts → Result (List PlanParts) Ending → Result (List PlanParts) Ending
after before (Ok rest) = Ok (before ++ rest)
after before (Err e) = Err e

-- the first i of the names were read
abbrev pub AreReadTo : List NamedText → List (List ℕ) → ℕ → List PlanParts → Type 0
AreReadTo texts names i before = plans_from texts 1 names ≡ after before (plans_from texts (i + 1) (drop i names))

none_before : (given : Result (List PlanParts) Ending) → given ≡ after [] given
unfolding after
none_before (Ok rest) = refl
none_before (Err e) = refl

pub none_read : (told : Option (List NamedText)) (names : List (List ℕ)) → IfSome told (λ texts. AreReadTo texts names 0 [])
none_read None names = tt
none_read (Some texts) names = none_before (plans_from texts 1 names)

one_after : (before : List PlanParts) (plan : PlanParts) (rest : Result (List PlanParts) Ending)
    → after before (rest >>= λ plans. Ok (plan ∷ plans)) ≡ after (before ++ plan ∷ []) rest
unfolding after
one_after before plan (Ok rest) = ap (λ (ps : List PlanParts). Ok ps) (sym (append_assoc before (plan ∷ []) rest))
one_after before plan (Err e) = refl

read_here : (texts : List NamedText) (names : List (List ℕ)) (i : ℕ) → i < length names
    → plans_from texts (i + 1) (drop i names)
    ≡ (plan_at texts (i + 1) (get_or names i []) >>= λ plan.
    plans_from texts (i + 1 + 1) (drop (i + 1) names) >>= λ plans. Ok (plan ∷ plans))
read_here texts names i inside =
    let next : suc i ≡ i + 1 = omega arith in
    let here : drop i names ≡ get_or names i [] ∷ drop (i + 1) names =
    drop-cons names i [] inside ∙ ap (λ k. get_or names i [] ∷ drop k names) next in
    rw here refl

pub one_read : (texts : List NamedText) (names : List (List ℕ)) (i : ℕ) (before : List PlanParts) (plan : PlanParts)
    → i < length names → AreReadTo texts names i before → plan_at texts (i + 1) (get_or names i []) ≡ Ok plan
    → AreReadTo texts names (i + 1) (before ++ plan ∷ [])
one_read texts names i before plan inside read is =
    read ∙ ap (after before) (read_here texts names i inside)
    ∙ ap (λ given. after before (given >>= λ plan. plans_from texts (i + 1 + 1) (drop (i + 1) names) >>= λ plans. Ok (plan ∷ plans))) is
    ∙ one_after before plan (plans_from texts (i + 1 + 1) (drop (i + 1) names))

pub next_read : (told : Option (List NamedText)) (names : List (List ℕ)) (i place : ℕ) (name : List ℕ) (before : List PlanParts) (plan : PlanParts)
    → i < length names → place ≡ i + 1 → name ≡ get_or names i [] → IfSome told (λ texts. AreReadTo texts names i before)
    → IfSome told (λ texts. plan_at texts place name ≡ Ok plan)
    → IfSome told (λ texts. AreReadTo texts names (i + 1) (before ++ plan ∷ []))
next_read None names i place name before plan inside at named read is = tt
next_read (Some texts) names i place name before plan inside at named read is =
    let here : plan_at texts (i + 1) (get_or names i []) ≡ Ok plan = rw (sym at, sym named) is in
    one_read texts names i before plan inside read here

-- the one at which reading stops is where it stops for all
stops_here : (texts : List NamedText) (names : List (List ℕ)) (i : ℕ) (before : List PlanParts) (e : Ending)
    → i < length names → AreReadTo texts names i before → plan_at texts (i + 1) (get_or names i []) ≡ Err e
    → plans_from texts 1 names ≡ Err e
unfolding after
stops_here texts names i before e inside read is =
    read ∙ ap (after before) (read_here texts names i inside)
    ∙ ap (λ given. after before (given >>= λ plan. plans_from texts (i + 1 + 1) (drop (i + 1) names) >>= λ plans. Ok (plan ∷ plans))) is

pub next_stops : (told : Option (List NamedText)) (names : List (List ℕ)) (i place : ℕ) (name : List ℕ) (before : List PlanParts)
    (instead : Option Ending) → i < length names → place ≡ i + 1 → name ≡ get_or names i []
    → IfSome told (λ texts. AreReadTo texts names i before)
    → IfSome told (λ texts. IfSome instead (λ e. plan_at texts place name ≡ Err e))
    → IfSome told (λ texts. IfSome instead (λ e. plans_from texts 1 names ≡ Err e))
next_stops None names i place name before instead inside at named read stops = tt
next_stops (Some texts) names i place name before None inside at named read stops = tt
next_stops (Some texts) names i place name before (Some e) inside at named read stops =
    stops_here texts names i before e inside read (rw (sym at, sym named) stops)

-- all were read
all_after : (texts : List NamedText) (names rest : List (List ℕ)) (before : List PlanParts) (place : ℕ) → rest ≡ []
    → after before (plans_from texts place rest) ≡ Ok before
unfolding after
all_after texts names rest before place is = rw is (ap (λ (ps : List PlanParts). Ok ps) (append-nil before))

pub all_read : (told : Option (List NamedText)) (names : List (List ℕ)) (i : ℕ) (before : List PlanParts) → length names ≤ i
    → IfSome told (λ texts. AreReadTo texts names i before) → IfSome told (λ texts. plans_from texts 1 names ≡ Ok before)
all_read None names i before end read = tt
all_read (Some texts) names i before end read = read ∙ all_after texts names (drop i names) before (i + 1) (drop_of_length-le names end)
