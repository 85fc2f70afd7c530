use Rattle.std.proofs.Common.{◌∙◌, sym, true≢false}
use Rattle.hyper_model.proofs.NameText.{no_text}
use Rattle.hyper_model.proofs.name.Name.text.Goals as goal

pub returns-in-Err-clause-text : goal.returns-in-Err-clause-text
returns-in-Err-clause-text c =
    absurd (true≢false (sym c.self.invariant.0 ∙ rw c.from.ensures at (no_text _ c.in-Err.ensures.cases.0)))

pub returns-in-Err-clause-is_name : goal.returns-in-Err-clause-is_name
returns-in-Err-clause-is_name c =
    absurd (true≢false (sym c.self.invariant.0 ∙ rw c.from.ensures at (no_text _ c.in-Err.ensures.cases.0)))
