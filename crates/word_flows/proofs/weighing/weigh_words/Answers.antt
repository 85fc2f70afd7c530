use Rattle.std.proofs.Common.{◌≡◌, ◌≤◌, length, map, sym, subst, arith}
use Rattle.std.proofs.lemmas.Nat.{pow_pos}
use Rattle.fixed_interval.specs.WeightList.{EnclosesAll}
use Rattle.hyper_model.specs.Plans.{units}
use Rattle.hyper_model.specs.Solutions.{mass_in}
use Rattle.hyper_model.specs.Words.{words}
use Rattle.word_flows.proofs.Enclosing.{count, tail_by_place, words_enclose}
use Rattle.word_flows.proofs.weighing.weigh_words.Goals as goal

pub push_waiting-requires-clause-some : goal.push_waiting-requires-clause-some
push_waiting-requires-clause-some c =
    let p = c.args.flows.now.plan.now in
    rw c.push_words.ensures.items
    (omega (
      arith,
      count p c.args.order.now c.requires.order (mass_in c.bound_solutions-certified.new.low)
          (mass_in c.bound_solutions-certified.new.high),
      pow_pos (units p),
    ))

pub returns-clause-encloses : goal.returns-clause-encloses
returns-clause-encloses c xs z s =
    let p = c.args.flows.now.plan.now in
    let order = c.args.order.now in
    record {
      solves = s;
      encloses = c.push_waiting.ensures.encloses (map (mass_in xs) order.words) z
          (λ is. tail_by_place p order c.requires.order xs z s is)
          (subst (λ items. EnclosesAll items (map (mass_in xs) order.words)) (sym c.push_words.ensures.items)
          (words_enclose p order c.requires.order (mass_in c.bound_solutions-certified.new.low)
          (mass_in c.bound_solutions-certified.new.high) c.law_accepted.ensures c.bound_solutions-certified.ensures.bounds xs s.words));
    }
