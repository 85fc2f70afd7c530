use Rattle.std.proofs.Common.{◌≡◌, ◌-◌, length}
use Rattle.std.specs.List.{flat_map, range_with_len}
use Rattle.plan_compare.specs.Comparisons.{value_places, places_in, first_wide_of}
use Rattle.plan_compare.proofs.widths.check_widths.Given as goal

abbrev pub invariant-loop-place : goal.invariant-loop-place
invariant-loop-place l =
    first_wide_of l.widths l.found (value_places l.study)
    ≡ first_wide_of l.widths l.found (flat_map (places_in l.study.measures) (range_with_len l.place (length l.found - l.place)))
