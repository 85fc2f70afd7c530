use Rattle.std.proofs.Common.{ap, ◌∙◌, arith}
use Rattle.fixed_interval.specs.Ends.{Ends}
use Rattle.hyper_model.proofs.Sums.{place_le_sum}
use Rattle.rate_matrix.specs.Bands.{entry}
use Rattle.rate_matrix.proofs.Raising.{rest-ordered}
use Rattle.rate_matrix.proofs.Totals.{part_is, rest_is, without-less}
use Rattle.state_reduction.proofs.parts.part_of.Goals as goal

pub overflow_sub-lo : goal.overflow_sub-lo
overflow_sub-lo c =
    let one = c.wide-entry.ensures.ends ∙ c.entry.ensures.entry in
    omega (
      arith,
      c.lo.ensures.end,
      c.lo-2.ensures.end,
      ap (λ (e : Ends). e.lo) c.requires.all,
      ap (λ (e : Ends). e.lo) one,
      place_le_sum c.args.state (λ k. (entry c.args.m.now c.args.state k).lo) c.args.j c.requires.before,
    )

pub overflow_sub-hi : goal.overflow_sub-hi
overflow_sub-hi c =
    let one = c.wide-entry.ensures.ends ∙ c.entry.ensures.entry in
    omega (
      arith,
      c.hi.ensures.end,
      c.hi-2.ensures.end,
      ap (λ (e : Ends). e.hi) c.requires.all,
      ap (λ (e : Ends). e.hi) one,
      place_le_sum c.args.state (λ k. (entry c.args.m.now c.args.state k).hi) c.args.j c.requires.before,
    )

pub new-requires : goal.new-requires
new-requires c =
    let one = c.wide-entry.ensures.ends ∙ c.entry.ensures.entry in
    let before = c.requires.before in
    let inside = c.requires.state in
    let ordered = c.size-size.ensures.sound.within.ordered in
    omega (
      arith,
      c.lo.ensures.end,
      c.lo-2.ensures.end,
      c.hi.ensures.end,
      c.hi-2.ensures.end,
      ap (λ (e : Ends). e.lo) c.requires.all,
      ap (λ (e : Ends). e.hi) c.requires.all,
      ap (λ (e : Ends). e.lo) one,
      ap (λ (e : Ends). e.hi) one,
      rest-ordered c.args.state (entry c.args.m.now c.args.state) c.args.j
          (λ k l. ordered c.args.state k inside (omega arith) (omega arith)),
      (without-less c.args.state c.args.j (entry c.args.m.now c.args.state) before).0,
      (without-less c.args.state c.args.j (entry c.args.m.now c.args.state) before).1,
    )

pub returns : goal.returns
returns c =
    let one = c.wide-entry.ensures.ends ∙ c.entry.ensures.entry in
    part_is (entry c.args.m.now) c.args.state c.args.j c.wide-entry.result c.new.result c.part_of.result one
    (rest_is c.args.state c.args.j (entry c.args.m.now c.args.state) c.args.all c.wide-entry.result c.new.result
    c.lo.result c.lo-2.result c.hi.result c.hi-2.result c.requires.before c.requires.all one
    c.lo.ensures.end c.lo-2.ensures.end c.hi.ensures.end c.hi-2.ensures.end c.new.ensures.ends)
    c.part_of.ensures.ends
