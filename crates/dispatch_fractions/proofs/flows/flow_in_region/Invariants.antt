use Rattle.std.proofs.Common.{◌≡◌, ◌*◌, ◌^◌, ◌≤◌}
use Rattle.busy_words.specs.Algebra.{total_ends}
use Rattle.dispatch_fractions.specs.Fractions.{side_ends}
use Rattle.dispatch_fractions.proofs.flows.flow_in_region.Given as goal

abbrev pub invariant-loop-unit : goal.invariant-loop-unit
invariant-loop-unit l = record {
  flow : l.total ≡ total_ends l.unit (λ n. side_ends l.plan l.parts l.inside n n);
  most : l.total.hi ≤ l.unit * (200 * (1000000 * 2 ^ 63));
}
