use Rattle.std.proofs.Common.{◌≡◌, ℕ, ◌<◌}
use Rattle.std.specs.Prelude.{slice_index}
use Rattle.hyper_model.specs.Plans.{units}
use Rattle.hyper_model.specs.Rates.{down}
use Rattle.hyper_model.specs.Words.{words}
use Rattle.word_flows.specs.TurnRates.{turn_place}
use Rattle.word_flows.proofs.rates.fill_services.Given as goal

abbrev pub invariant-loop-place : goal.invariant-loop-place
invariant-loop-place l =
    (w n : ℕ) → w < words l.plan → n < units l.plan → turn_place l.plan w n < l.place
    → slice_index l.rates (turn_place l.plan w n) ≡ down l.plan w n
