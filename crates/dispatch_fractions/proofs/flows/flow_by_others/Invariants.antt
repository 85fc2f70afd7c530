use Rattle.std.proofs.Common.{◌≡◌, ◌*◌, ◌^◌, ◌≤◌, true, not, eqb}
use Rattle.busy_words.specs.Algebra.{total_ends, where_ends}
use Rattle.dispatch_fractions.specs.Fractions.{side_ends}
use Rattle.dispatch_fractions.proofs.flows.flow_by_others.Given as goal

abbrev pub invariant-loop-unit : goal.invariant-loop-unit
invariant-loop-unit l = record {
  flow : l.total ≡ total_ends l.unit (λ m. where_ends (not (eqb m l.district)) (side_ends l.plan l.parts true m l.district));
  most : l.total.hi ≤ l.unit * (200 * (1000000 * 2 ^ 63));
}
