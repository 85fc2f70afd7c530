-- The verdicts of a study, in the order in which they are printed.
use Rattle.std.specs.Prelude.{ℕ, ◌+◌, ◌-◌, if◌then◌else◌, nat_lt, List, length, map}
use Rattle.std.specs.List.{flat_map, range_with_len}
use Rattle.hyper_model.specs.Enclosures.{EnclosureList}
use Rattle.hyper_model.specs.declared.kinds.Measure.{Measure}
use Rattle.plan_compare.specs.Studies.{StudyParts}
use Rattle.plan_compare.specs.Values.{value_at}
use Rattle.hyper_model.specs.declared.values.Value.{Value}
use Rattle.plan_compare.specs.declared.verdict_list.Verdict.{Verdict}
use Rattle.plan_compare.specs.declared.verdict_list.Verdict.TheVariants as verdict

-- what contracts see of a list of verdicts
pub record VerdictItems : Type 0 where
  pub items : List Verdict
  pub spare : ℕ

-- two plans that are compared, by their places, and the measure
pub record PlanPair : Type 0 where
  pub measure : Measure
  pub first : ℕ
  pub second : ℕ

-- a plan with each of the n plans after it
abbrev pub pairs_from : ℕ → Measure → ℕ → List PlanPair
pairs_from n m a =
    map (λ b. record { measure = m; first = a; second = b }) (range_with_len (a + 1) (n - (a + 1)))

-- each two of n plans
abbrev pub pairs_of : ℕ → Measure → List PlanPair
pairs_of n m = flat_map (pairs_from n m) (range_with_len 0 n)

-- all that a study compares
abbrev pub all_pairs : StudyParts → List PlanPair
all_pairs study = flat_map (pairs_of (length study.plans)) study.measures

-- ends that touch are not separated
abbrev pub verdict_on : Value → Value → Verdict
verdict_on a b =
    if nat_lt a.hi b.lo then verdict.Below
    else if nat_lt b.hi a.lo then verdict.Above
    else verdict.NotSeparated

abbrev pub verdict_of : List EnclosureList → PlanPair → Verdict
verdict_of found c = verdict_on (value_at found c.measure c.first) (value_at found c.measure c.second)

abbrev pub verdicts_of : StudyParts → List EnclosureList → List Verdict
verdicts_of study found = map (verdict_of found) (all_pairs study)
