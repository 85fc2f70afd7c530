use Rattle.std.proofs.Common.{◌≡◌, length, map, take}
use Rattle.timely_reach.specs.ReachRows.{share_in}
use Rattle.timely_reach.proofs.rows.push_shares.Given as goal

abbrev pub invariant-loop-place : goal.invariant-loop-place
invariant-loop-place l = record {
  ends : l.ends ≡ map (share_in l.parts l.measure) (take l.place l.timely);
  count : length l.ends ≡ l.place;
}
