use Rattle.std.proofs.Common.{◌≡◌, ℕ, ◌<◌}
use Rattle.std.specs.Prelude.{slice_index}
use Rattle.hyper_model.specs.Plans.{units}
use Rattle.hyper_model.specs.Sums.{sum_below}
use Rattle.hyper_model.specs.Tables.{turn_rate}
use Rattle.word_flows.proofs.rates.fill_leavings.Given as goal

abbrev pub invariant-loop-word : goal.invariant-loop-word
invariant-loop-word l =
    (w : ℕ) → w < l.word → slice_index l.leavings w ≡ sum_below (units l.plan) (turn_rate l.plan w)
