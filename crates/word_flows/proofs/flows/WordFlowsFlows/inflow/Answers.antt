use Rattle.std.proofs.Common.{◌≡◌, ℕ, ◌+◌, ◌*◌, ◌^◌, ◌≤◌, sym, ap, ap₂, ◌∙◌, arith}
use Rattle.std.proofs.lemmas.Nat.{mul-le}
use Rattle.hyper_model.specs.Plans.{units}
use Rattle.hyper_model.specs.Solutions.{mass_in}
use Rattle.hyper_model.specs.Sums.{sum_below}
use Rattle.hyper_model.specs.Tables.{turn_rate}
use Rattle.hyper_model.specs.Words.{turned_word}
use Rattle.hyper_model.proofs.WordTables.{column_is}
use Rattle.word_flows.proofs.TurnRates.{sum_next}
use Rattle.word_flows.proofs.flows.WordFlowsFlows.inflow.Goals as goal

pub loop-unit-preserved : goal.loop-unit-preserved
loop-unit-preserved c =
    let p = c.args.self.now.plan.now in
    let from = λ (n : ℕ). mass_in c.args.masses.now (turned_word c.args.state n) * turn_rate p (turned_word c.args.state n) n in
    let here : c.from.result * c.from-in-loop-unit.result ≡ from c.loop-unit.unit =
    ap₂ (λ a b. a * b) c.from.ensures (c.from-in-loop-unit.ensures ∙ c.rate_of-rate.ensures.rate)
    ∙ ap (λ w. mass_in c.args.masses.now w * turn_rate p w c.loop-unit.unit) c.neighbour-from.ensures.word in
    let small : c.from.result * c.from-in-loop-unit.result ≤ 2 ^ 62 * 2 ^ 36 =
    mul-le c.from.result c.from-in-loop-unit.result (2 ^ 62) (2 ^ 36)
    (omega (arith, c.from.ensures, c.requires.masses.small c.neighbour-from.result))
    (omega (arith, c.from-in-loop-unit.ensures, c.rate_of-rate.ensures.most)) in
    record {
      flow = ap₂ (λ a b. a + b) c.loop-unit.invariant.flow here ∙ sym (sum_next c.loop-unit.unit from);
      most = omega (arith, small, c.loop-unit.invariant.most);
    }

pub returns : goal.returns
returns c =
    let p = c.args.self.now.plan.now in
    let from = λ (n : ℕ). mass_in c.args.masses.now (turned_word c.args.state n) * turn_rate p (turned_word c.args.state n) n in
    let all : c.loop-unit.unit ≡ units p = omega (arith, c.units-unit-end.ensures.units) in
    record {
      flow = c.loop-unit.invariant.flow ∙ ap (λ k. sum_below k from) all
          ∙ sym (column_is p (mass_in c.args.masses.now) c.args.state c.requires.state);
      most = omega (arith, c.loop-unit.invariant.most, c.units-unit-end.ensures.most);
    }
