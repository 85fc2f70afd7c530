use Rattle.std.proofs.Common.{inr}
use Rattle.plan_compare.proofs.StudySteps.{study_too_long, study_of_some, study_refused}
use Rattle.plan_compare.proofs.study.read_study.Goals as goal

pub returns-then-bytes-gt-MOST_STUDY_BYTES : goal.returns-then-bytes-gt-MOST_STUDY_BYTES
returns-then-bytes-gt-MOST_STUDY_BYTES c = inr (study_too_long c.args.bytes.now c.if-bytes-gt-MOST_STUDY_BYTES.true)

pub returns-in-Ok : goal.returns-in-Ok
returns-in-Ok c =
    rw (study_of_some c.args.bytes.now c.in-Ok.texts c.if-bytes-gt-MOST_STUDY_BYTES.false c.in-Ok.ensures)
    c.study_of_texts.ensures

pub returns-in-Err : goal.returns-in-Err
returns-in-Err c =
    study_refused c.args.bytes.now c.in-Err.refusal c.if-bytes-gt-MOST_STUDY_BYTES.false c.in-Err.ensures
