-- The ends of a measure contain it if they enclose it at its scale.
use Rattle.std.proofs.Common.{◌≡◌, ℕ, ◌*◌}
use Rattle.fixed_interval.specs.Ends.{Ends, Encloses}
use Rattle.hyper_model.specs.Measures.{Ratio, ContainsRatio}

pub contains_ratio : (i : Ends) (scale num den : ℕ) (r : Ratio) → num ≡ r.numerator → den ≡ r.denominator
    → Encloses i (scale * num) den → ContainsRatio i.lo i.hi scale r
contains_ratio i scale num den r same_num same_den e =
    record { least = rw (← same_num, ← same_den) e.low; most = rw (← same_num, ← same_den) e.high }
