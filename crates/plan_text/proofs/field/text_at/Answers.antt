use Rattle.std.proofs.lemmas.Str.{is_utf8-from_IsUtf8}
use Rattle.hyper_model.proofs.NameText.{no_utf8}
use Rattle.plan_text.proofs.field.text_at.Goals as goal

pub returns-in-Ok-clause-utf8 : goal.returns-in-Ok-clause-utf8
returns-in-Ok-clause-utf8 c = rw c.field.ensures at (is_utf8-from_IsUtf8 c.field.result.now c.in-Ok.ensures.cases.1)

pub returns-in-Err-clause-not_utf8 : goal.returns-in-Err-clause-not_utf8
returns-in-Err-clause-not_utf8 c = λ e h. rw c.field.ensures at (no_utf8 c.field.result.now c.in-Err.ensures.cases.0)
