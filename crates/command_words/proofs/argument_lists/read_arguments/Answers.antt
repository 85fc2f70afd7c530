use Rattle.std.proofs.Common.{◌∙◌, ◌<◌, [], length, map, sym, ap, arith}
use Rattle.std.specs.String.{string_bytes}
use Rattle.std.proofs.lemmas.List.{get_or-map, length-map}
use Rattle.command_words.specs.Arguments.{lists_in}
use Rattle.command_words.proofs.Lists.{lists_from-done, lists_from-ended, lists_from-more, lists_from-none}
use Rattle.command_words.proofs.argument_lists.read_arguments.Goals as goal

pub returns-in_default : goal.returns-in_default
returns-in_default c =
    let words = map string_bytes c.args.words.now in
    let i = c.loop-text.text-index in
    let lt : i < length c.args.words.now = omega arith in
    let is = c.as_str-text.ensures.value ∙ ap string_bytes c.text-item.is ∙ sym (get_or-map string_bytes c.args.words.now i c.text-item.result [] lt) in
    sym c.loop-text.invariant
    ∙ lists_from-none words i (lists_in c.loop-text.arguments) c.loop-text.mode c.as_str-text.result.now
    (rw length-map lt) is (sym c.read.ensures ∙ c.in_default.is)

pub loop-text-preserved : goal.loop-text-preserved
loop-text-preserved c =
    let words = map string_bytes c.args.words.now in
    let i = c.loop-text.text-index in
    let lt : i < length c.args.words.now = omega arith in
    let is = c.as_str-text.ensures.value ∙ ap string_bytes c.text-item.is ∙ sym (get_or-map string_bytes c.args.words.now i c.text-item.result [] lt) in
    rw (c.in_ok-add.ensures.added, c.after-mode.ensures)
    (sym (lists_from-more words i (lists_in c.loop-text.arguments) c.loop-text.mode c.in-Some.argument c.as_str-text.result.now
    (rw length-map lt) is (sym c.read.ensures ∙ c.in-Some.is))
    ∙ c.loop-text.invariant)

pub returns-then-may_end : goal.returns-then-may_end
returns-then-may_end c =
    sym c.loop-text.invariant
    ∙ lists_from-done (map string_bytes c.args.words.now) c.loop-text.text-index (lists_in c.loop-text.arguments) c.loop-text.mode
    (rw length-map (omega arith)) (sym c.may_end.ensures ∙ c.if-may_end.true)

pub returns : goal.returns
returns c =
    sym c.loop-text.invariant
    ∙ lists_from-ended (map string_bytes c.args.words.now) c.loop-text.text-index (lists_in c.loop-text.arguments) c.loop-text.mode
    (rw length-map (omega arith)) (sym c.may_end.ensures ∙ c.if-may_end.false)
