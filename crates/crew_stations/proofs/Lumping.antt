-- Sums over classes of states, and the balance of the classes.
use Rattle.std.proofs.Common.{◌≡◌, ℕ, ◌+◌, ◌*◌, ◌<◌, Bool, true, false, cond, eqb, eqb-true, refl, sym, ap, ◌∙◌, arith}
use Rattle.hyper_model.specs.Sums.{sum_below}
use Rattle.hyper_model.specs.Tables.{RateTable, SolvesTable}
use Rattle.hyper_model.proofs.Sums.{on_test, same_test, sum-same, sum-swap, sum-at, sum-add, sum_none, choices_scaled}
use Rattle.crew_stations.specs.Lumps.{class_sum, IsLumped, ClassesBalance}

pub swapped_test : (a b : ℕ) → eqb a b ≡ eqb b a
swapped_test a b = same_test a b b a (λ e. sym e) (λ e. sym e)

-- one test before a sum, or before each of its places
pub guarded_sum : (n : ℕ) (b : Bool) (f : ℕ → ℕ) → cond b (sum_below n f) 0 ≡ sum_below n (λ i. cond b (f i) 0)
guarded_sum n true f = refl
guarded_sum n false f = sym (sum_none n (λ i. 0) (λ i l. refl))

guarded : (c a r s : ℕ) → (c ≡ a → r ≡ s) → cond (eqb c a) r 0 ≡ cond (eqb c a) s 0
guarded c a r s e = on_test (eqb c a)
    (λ t. ap (λ k. cond (eqb c a) k 0) (e (eqb-true c a t)))
    (λ f. ap (λ k. cond k r 0) f ∙ sym (ap (λ k. cond k s 0) f))

module _ (n : ℕ) (class : ℕ → ℕ) where
  -- two numberings that agree in a class have the same sum there
  pub class_same : (x y : ℕ → ℕ) (a : ℕ) → ((v : ℕ) → v < n → class v ≡ a → x v ≡ y v)
      → class_sum n class x a ≡ class_sum n class y a
  class_same x y a h =
      sum-same n (λ v. cond (eqb (class v) a) (x v) 0) (λ v. cond (eqb (class v) a) (y v) 0)
      (λ v l. guarded (class v) a (x v) (y v) (h v l))

  -- a factor falls out of a class
  pub class_scaled : (k : ℕ) (x : ℕ → ℕ) (a : ℕ) → class_sum n class (λ v. k * x v) a ≡ k * class_sum n class x a
  class_scaled k x a = choices_scaled n k (λ v. eqb (class v) a) x

  pub class_times : (k : ℕ) (x : ℕ → ℕ) (a : ℕ) → class_sum n class (λ v. x v * k) a ≡ class_sum n class x a * k
  class_times k x a =
      class_same (λ v. x v * k) (λ v. k * x v) a (λ v l e. omega arith) ∙ omega (arith, class_scaled k x a)

  pub class_add : (x y : ℕ → ℕ) (a : ℕ)
      → class_sum n class (λ v. x v + y v) a ≡ class_sum n class x a + class_sum n class y a
  class_add x y a =
      sum-same n (λ v. cond (eqb (class v) a) (x v + y v) 0)
      (λ v. cond (eqb (class v) a) (x v) 0 + cond (eqb (class v) a) (y v) 0)
      (λ v l. both (eqb (class v) a) (x v) (y v))
      ∙ sum-add n (λ v. cond (eqb (class v) a) (x v) 0) (λ v. cond (eqb (class v) a) (y v) 0)
    where
      both : (b : Bool) (r s : ℕ) → cond b (r + s) 0 ≡ cond b r 0 + cond b s 0
      both true r s = refl
      both false r s = refl

  -- a sum over a class of sums
  pub class_swap : (k : ℕ) (f : ℕ → ℕ → ℕ) (a : ℕ)
      → class_sum n class (λ v. sum_below k (λ u. f u v)) a ≡ sum_below k (λ u. class_sum n class (f u) a)
  class_swap k f a =
      sum-same n (λ v. cond (eqb (class v) a) (sum_below k (λ u. f u v)) 0)
      (λ v. sum_below k (λ u. cond (eqb (class v) a) (f u v) 0))
      (λ v l. guarded_sum k (eqb (class v) a) (λ u. f u v))
      ∙ sum-swap n k (λ v u. cond (eqb (class v) a) (f u v) 0)

  module _ (m : ℕ) (inside : (v : ℕ) → v < n → class v < m) where
    -- what depends only on the class may be summed by classes
    pub sum_by_class : (x g : ℕ → ℕ)
        → sum_below m (λ a. class_sum n class x a * g a) ≡ sum_below n (λ v. x v * g (class v))
    sum_by_class x g =
        sum-same m (λ a. class_sum n class x a * g a)
        (λ a. sum_below n (λ v. cond (eqb (class v) a) (x v * g a) 0))
        (λ a l. sym (class_times (g a) x a))
        ∙ sum-swap m n (λ a v. cond (eqb (class v) a) (x v * g a) 0)
        ∙ sum-same n (λ v. sum_below m (λ a. cond (eqb (class v) a) (x v * g a) 0)) (λ v. x v * g (class v))
        (λ v l.
        sum-same m (λ a. cond (eqb (class v) a) (x v * g a) 0) (λ a. cond (eqb a (class v)) (x v * g a) 0)
        (λ a h. ap (λ c. cond c (x v * g a) 0) (swapped_test (class v) a))
        ∙ sum-at m (λ a. x v * g a) (class v) (inside v l))

    -- all classes together are all states
    pub class_total : (x : ℕ → ℕ) → sum_below m (class_sum n class x) ≡ sum_below n x
    class_total x =
        sum-same m (class_sum n class x) (λ a. class_sum n class x a * 1) (λ a l. omega arith)
        ∙ sum_by_class x (λ a. 1)
        ∙ sum-same n (λ v. x v * 1) x (λ v l. omega arith)

    -- a test of the class
    pub sum_of_classes : (test : ℕ → Bool) (x : ℕ → ℕ)
        → sum_below n (λ v. cond (test (class v)) (x v) 0) ≡ sum_below m (λ k. cond (test k) (class_sum n class x k) 0)
    sum_of_classes test x =
        sum-same n (λ v. cond (test (class v)) (x v) 0) (λ v. x v * cond (test (class v)) 1 0)
        (λ v l. as_factor (test (class v)) (x v))
        ∙ sym (sum_by_class x (λ k. cond (test k) 1 0))
        ∙ sum-same m (λ k. class_sum n class x k * cond (test k) 1 0) (λ k. cond (test k) (class_sum n class x k) 0)
        (λ k l. sym (as_factor (test k) (class_sum n class x k)))
      where
        as_factor : (b : Bool) (k : ℕ) → cond b k 0 ≡ k * cond b 1 0
        as_factor true k = omega arith
        as_factor false k = omega arith

module _ (n m : ℕ) (rate : RateTable) (class : ℕ → ℕ) (lumped : RateTable) (s : IsLumped n m rate class lumped) where
  row_of_class : (v : ℕ) → v < n → sum_below m (lumped (class v)) ≡ sum_below n (rate v)
  row_of_class v l =
      sum-same m (lumped (class v)) (class_sum n class (rate v)) (λ b h. sym (s.sums v b l h))
      ∙ class_total n class m s.inside (rate v)

  flow_into : (x : ℕ → ℕ) (b : ℕ) → b < m
      → class_sum n class (λ v. sum_below n (λ u. x u * rate u v)) b
      ≡ sum_below m (λ a. class_sum n class x a * lumped a b)
  flow_into x b h =
      class_swap n class n (λ u v. x u * rate u v) b
      ∙ sum-same n (λ u. class_sum n class (λ v. x u * rate u v) b) (λ u. x u * lumped (class u) b)
      (λ u l. class_scaled n class (x u) (rate u) b ∙ ap (λ c. x u * c) (s.sums u b l h))
      ∙ sym (sum_by_class n class m s.inside x (λ a. lumped a b))

  lumped_balance : (x : ℕ → ℕ) → SolvesTable n rate x → SolvesTable m lumped (class_sum n class x)
  lumped_balance x t = record {
    positive = omega (arith, class_total n class m s.inside x, t.positive);
    balanced = λ b h.
        sym (class_times n class (sum_below m (lumped b)) x b)
        ∙ class_same n class (λ v. x v * sum_below m (lumped b)) (λ v. sum_below n (λ u. x u * rate u v)) b
        (λ v l e. ap (λ c. x v * sum_below m (lumped c)) (sym e) ∙ ap (λ c. x v * c) (row_of_class v l) ∙ t.balanced v l)
        ∙ flow_into x b h;
  }

pub classes_balance : (n m : ℕ) (rate : RateTable) (class : ℕ → ℕ) (lumped : RateTable)
    → ClassesBalance n m rate class lumped
classes_balance n m rate class lumped s x t = lumped_balance n m rate class lumped s x t
