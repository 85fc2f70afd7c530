-- The measures of several plans, put together.
use Rattle.std.proofs.Common.{◌≡◌, ◌∙◌, ℕ, zero, suc, ◌+◌, ◌<◌, sym, ap, subst, refl, arith, List, [], ◌∷◌, ◌++◌, length, map, get_or, take}
use Rattle.std.specs.List.{AllZip}
use Rattle.std.proofs.lemmas.List.{take_more}
use Rattle.std.proofs.lemmas.Slice.Zip.{AllZip-long}
use Rattle.hyper_model.specs.Enclosures.{EnclosureList}
use Rattle.hyper_model.specs.declared.kinds.Method.{Method}
use Rattle.hyper_model.specs.declared.parts.PlanParts.{PlanParts}
use Rattle.plan_solver.specs.Enclosures.{AreEnclosuresOf, IsEnclosureOf}
use Rattle.plan_solver.specs.SoundEnclosures.{AreEnclosuresBy, IsEnclosureBy}
use Rattle.plan_solver.proofs.AllMeasures.{one_enclosure}

-- lists that belong together, after others that do
pub AllZip-append : {A B : Type 0} (R : A → B → Type 0) (xs ys : List A) (us vs : List B) → AllZip R xs us → AllZip R ys vs
    → AllZip R (xs ++ ys) (us ++ vs)
AllZip-append R [] ys [] vs h g = g
AllZip-append R [] ys (u ∷ us) vs h g = absurd h
AllZip-append R (x ∷ xs) ys [] vs h g = absurd h
AllZip-append R (x ∷ xs) ys (u ∷ us) vs h g = (h.0, AllZip-append R xs ys us vs h.1 g)

-- what belongs together at a place
pub AllZip-at : {A B : Type 0} (R : A → B → Type 0) (xs : List A) (ys : List B) → AllZip R xs ys → (k : ℕ) (d : A) (e : B)
    → k < length xs → R (get_or xs k d) (get_or ys k e)
AllZip-at R [] ys h k d e l = absurd (omega arith)
AllZip-at R (x ∷ xs) [] h k d e l = absurd h
AllZip-at R (x ∷ xs) (y ∷ ys) h zero d e l = h.0
AllZip-at R (x ∷ xs) (y ∷ ys) h (suc k) d e l = AllZip-at R xs ys h.1 k d e (omega arith)

-- what belongs to one more
pub zip_more : {A B : Type 0} (R : A → B → Type 0) (xs : List A) (k : ℕ) (x : A) (ys : List B) (y : B) (all : List B) → k < length xs
    → x ≡ get_or xs k x → AllZip R (take k xs) ys → R x y → all ≡ ys ++ y ∷ [] → AllZip R (take (k + 1) xs) all
zip_more R xs k x ys y all h e before this g =
    let both : take k xs ++ x ∷ [] ≡ take (k + 1) xs = ap (λ z. take k xs ++ z ∷ []) e ∙ sym (take_more xs k x h) in
    subst (λ zs. AllZip R zs all) both
    (subst (λ lists. AllZip R (take k xs ++ x ∷ []) lists) (sym g) (AllZip-append R (take k xs) (x ∷ []) ys (y ∷ []) before (this, tt)))

-- the list of one plan more
pub one_more : (plans : List PlanParts) (k : ℕ) (plan : PlanParts) (found : List EnclosureList) (list : EnclosureList)
    (all : List EnclosureList) → k < length plans → plan ≡ get_or plans k plan → AreEnclosuresOf (take k plans) found
    → IsEnclosureOf plan list.items → all ≡ found ++ list ∷ [] → AreEnclosuresOf (take (k + 1) plans) all
one_more = zip_more (λ p list. IsEnclosureOf p list.items)

-- one list for each plan
pub as_many : (plans : List PlanParts) (found : List EnclosureList) → AreEnclosuresOf plans found → length found ≡ length plans
as_many plans found are = AllZip-long (λ p list. IsEnclosureOf p list.items) plans found are

pub as_many_by : (m : Method) (plans : List PlanParts) (found : List EnclosureList) → AreEnclosuresBy m plans found
    → length found ≡ length plans
as_many_by m plans found are = AllZip-long (λ p list. IsEnclosureBy m p list.items) plans found are

-- there is one list for each plan
pub same_enclosures : (plans : List PlanParts) (found others : List EnclosureList) → AreEnclosuresOf plans found
    → AreEnclosuresOf plans others → map (λ (e : EnclosureList). e.items) others ≡ map (λ (e : EnclosureList). e.items) found
same_enclosures [] [] [] are same = refl
same_enclosures [] [] (o ∷ os) are same = absurd same
same_enclosures [] (f ∷ fs) others are same = absurd are
same_enclosures (p ∷ ps) [] others are same = absurd are
same_enclosures (p ∷ ps) (f ∷ fs) [] are same = absurd same
same_enclosures (p ∷ ps) (f ∷ fs) (o ∷ os) are same =
    rw (one_enclosure p f.items o.items are.0 same.0, same_enclosures ps fs os are.1 same.1) refl
