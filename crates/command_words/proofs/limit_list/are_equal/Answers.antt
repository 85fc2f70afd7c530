use Rattle.std.proofs.Common.{◌∙◌, sym, arith}
use Rattle.std.proofs.lemmas.List.{take_all}
use Rattle.std.proofs.lemmas.Slice.Eq.{bytes_eq-Decides}
use Rattle.command_words.proofs.limit_list.are_equal.Goals as goal

pub returns : goal.returns
returns c =
    let first = c.args.first.now in
    let second = c.args.second.now in
    let place = c.loop-place.place in
    sym ((bytes_eq-Decides first second).1
    (sym (take_all place first (omega arith)) ∙ c.loop-place.invariant ∙ take_all place second (omega arith)))
