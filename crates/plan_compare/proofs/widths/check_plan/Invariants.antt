use Rattle.std.proofs.Common.{◌≡◌, drop}
use Rattle.plan_compare.specs.Comparisons.{places_in, first_wide_of}
use Rattle.plan_compare.proofs.widths.check_plan.Given as goal

abbrev pub invariant-loop-k : goal.invariant-loop-k
invariant-loop-k l =
    first_wide_of l.widths l.found (places_in l.study.measures l.place)
    ≡ first_wide_of l.widths l.found (places_in (drop l.k l.study.measures) l.place)
