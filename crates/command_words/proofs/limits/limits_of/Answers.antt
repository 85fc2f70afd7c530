use Rattle.std.proofs.Common.{◌≡◌, ◌∙◌, ◌==◌, ℕ, map, ap, lit<}
use Rattle.std.specs.Prelude.{Ok}
use Rattle.std.specs.List.{slice_split}
use Rattle.std.proofs.lemmas.Iterator.Consumers.{map_from_collect}
use Rattle.std.proofs.lemmas.Iterator.Splits.{YieldsList-from_str_split}
use Rattle.std.proofs.lemmas.Result.{IfOk-weaker}
use Rattle.command_words.specs.Limits.{limits_in, limits_in_fields}
use Rattle.command_words.proofs.limits.limits_of.Goals as goal

pub returns : goal.returns
unfolding limits_in
returns c =
    let text = c.args.text.now in
    let pieces : map (λ x. x.now) c.in_ok-fields.fields.items ≡ slice_split (λ byte. byte == 44) text =
    map_from_collect {E = ℕ} (Ok c.in_ok-fields.fields) c.in_ok-fields.ensures.ran
    (YieldsList-from_str_split 44 text (lit< tt) c.split.ensures.text c.split.ensures.has_more c.split.ensures.pattern) in
    IfOk-weaker c.limits_in_fields.result _ _
    (λ limits is. is ∙ ap limits_in_fields (ap (map (λ x. x.now)) c.deref.ensures.value ∙ pieces)) c.limits_in_fields.ensures
