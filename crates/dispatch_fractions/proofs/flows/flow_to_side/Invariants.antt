use Rattle.std.proofs.Common.{◌≡◌, ◌*◌, ◌^◌, ◌≤◌}
use Rattle.busy_words.specs.Algebra.{total_ends, where_ends}
use Rattle.dispatch_fractions.specs.Fractions.{is_on_side, flow_ends}
use Rattle.dispatch_fractions.proofs.flows.flow_to_side.Given as goal

abbrev pub invariant-loop-atom : goal.invariant-loop-atom
invariant-loop-atom l = record {
  flow : l.total ≡ total_ends l.atom (λ j. where_ends (is_on_side l.plan l.district l.inside j) (flow_ends l.plan l.parts l.unit j));
  most : l.total.hi ≤ l.atom * (1000000 * 2 ^ 63);
}
