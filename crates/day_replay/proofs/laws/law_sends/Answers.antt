use Rattle.std.proofs.Common.{◌∙◌, sym}
use Rattle.day_replay.proofs.OneList.{has_sends, only_sends}
use Rattle.day_replay.proofs.laws.law_sends.Goals as goal

pub returns-clause-exists : goal.returns-clause-exists
returns-clause-exists c = λ p day form. has_sends p day form.rising

pub returns-clause-alone : goal.returns-clause-alone
returns-clause-alone c = λ p day form sends others stand again.
    only_sends p day others form.rising again ∙ sym (only_sends p day sends form.rising stand)
