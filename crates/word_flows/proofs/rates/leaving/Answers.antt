use Rattle.std.proofs.Common.{◌≡◌, ◌+◌, ◌*◌, ◌^◌, ◌≤◌, sym, ap, ap₂, ◌∙◌, arith}
use Rattle.hyper_model.specs.Sums.{sum_below}
use Rattle.hyper_model.specs.Tables.{turn_rate}
use Rattle.word_flows.proofs.TurnRates.{sum_next}
use Rattle.word_flows.proofs.rates.leaving.Goals as goal

pub loop-unit-preserved : goal.loop-unit-preserved
loop-unit-preserved c =
    let p = c.args.plan.now in
    let here : c.rate_of-sum.result ≡ turn_rate p c.args.word c.loop-unit.unit =
    c.rate_of-sum.ensures.rate ∙ ap (λ w. turn_rate p w c.loop-unit.unit) c.from.ensures in
    record {
      sum = ap₂ (λ a b. a + b) c.loop-unit.invariant.sum here ∙ sym (sum_next c.loop-unit.unit (turn_rate p c.args.word));
      most = omega (arith, c.rate_of-sum.ensures.most);
    }
