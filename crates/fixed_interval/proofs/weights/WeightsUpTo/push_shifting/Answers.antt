use Rattle.std.proofs.Common.{◌≡◌, ◌^◌, ◌≤◌, [], ◌∷◌, ◌++◌, map, arith}
use Rattle.std.specs.Int.{div_ceil}
use Rattle.std.proofs.lemmas.Grind.{common_steps}
use Rattle.std.proofs.lemmas.List.Elements.{All-push}
use Rattle.fixed_interval.proofs.Shifts.{All-IsWeight-map, encloses_pushed, shifted-ordered}
use Rattle.fixed_interval.specs.Ends.{shifted_ends}
use Rattle.fixed_interval.specs.WeightList.{IsWeight, PushesShifted}
use Rattle.fixed_interval.proofs.weights.WeightsUpTo.push_shifting.Goals as goal

pub invariant_of-self : goal.invariant_of-self
invariant_of-self g c =
    let power = c.least_shift-power.result in
    let all = All-IsWeight-map power c.self.inside.items.items c.self.invariant.0 in
    let fits : div_ceil c.args.w.hi (2 ^ power) ≤ 2 ^ 52 = grind (arith, common_steps) in
    let items : c.push_reserved.new.self.items
    ≡ map (shifted_ends power) c.self.inside.items.items ++ shifted_ends power c.args.w ∷ [] =
    grind (arith, common_steps) in (
      rw items (All-push IsWeight _ (shifted_ends power c.args.w) all
          (shifted-ordered power c.args.w.lo c.args.w.hi c.hi.ensures.ordered, fits)),
      grind (arith, common_steps),
    )

pub returns-clause-encloses : goal.returns-clause-encloses
returns-clause-encloses g c =
    let pushed : PushesShifted c.args.self.now.items c.push_reserved.new.self.items c.args.w =
    grind (arith, common_steps) in
    encloses_pushed c.args.self.now.items c.push_reserved.new.self.items c.args.w pushed
